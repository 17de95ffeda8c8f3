use Rattle.std.proofs.Common.{rules, ◌≡◌, get_or, sym, ◌∙◌}
use Rattle.std.specs.declared.option.Option.TheVariants.{None, Some}
use Rattle.kernel_ask.specs.declared.ask.Handle.{Handle}
use Rattle.kernel_objects.specs.Rows.{at_number, put_number}
use Rattle.kernel_core.proofs.Keeps.{kept_none, kept_some}
use Rattle.kernel_core.proofs.forks.kept.Goals as goal

pub returns-in_default : goal.returns-in_default
returns-in_default c =
    let d : Handle = record { 0 = 0 } in
    let none : at_number (get_or c.args.keep.now c.loop-handle.handle-index d).0 c.args.held.now ≡ None = search rules in
    sym (kept_none c.args.held.now c.args.keep.now c.loop-handle.kept c.loop-handle.handle-index d c.loop-handle-test.true none) ∙ c.loop-handle.invariant

pub loop-handle-preserved : goal.loop-handle-preserved
loop-handle-preserved c =
    let d : Handle = record { 0 = 0 } in
    let some : at_number (get_or c.args.keep.now c.loop-handle.handle-index d).0 c.args.held.now ≡ Some c.in_ok-copy.field-0 = search rules in
    let put : c.put.new.self ≡ put_number (get_or c.args.keep.now c.loop-handle.handle-index d).0 c.in_ok-copy.field-0 c.loop-handle.kept = search rules in
    rw put (kept_some c.args.held.now c.args.keep.now c.loop-handle.kept c.loop-handle.handle-index d c.in_ok-copy.field-0 c.loop-handle-test.true some ∙ c.loop-handle.invariant)
