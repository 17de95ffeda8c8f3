use Rattle.std.proofs.Common.{rules, sym, subst}
use Rattle.kernel_core.specs.Transfer.{write_stream}
use Rattle.kernel_core.specs.Turn.{Turn, Does}
use Rattle.kernel_core.proofs.Starts.{output_does, placed, start_is}
use Rattle.kernel_core.proofs.kernel.Kernel.start.Goals as goal

pub returns : goal.returns
returns c =
    let k = c.args.self.now in
    let o = c.in-Some-get_mut.opened.now in
    let is = start_is k c.args.who.now c.args.program.now c.in-Some.shell.now c.in-Ok.run' c.in-Some-output.handle c.in-Some-held_for_writing.held.now c.in_ok-row.row o
    (search rules) (search rules) (search rules) (search rules) (search rules) (search rules) (search rules) (search rules) in
    let does = output_does k c.args.who.now c.in-Some.shell.now c.in_ok-row.row o (search rules) (search rules) c.in-Ok.run'.status
    (write_stream o.stream c.in-Ok.run'.output o k.stores) c.put_out.result c.put_out.new.shell c.put_out.new.opened c.put_out.new.stores (search rules) in
    subst (λ (t : Turn). Does t c.put_out.result k (placed k c.args.who.now c.put_out.new.shell c.in_ok-row.row c.put_out.new.opened c.put_out.new.stores)) (sym is) does
