use Rattle.std.proofs.Common.{rules, ◌≡◌, Ok, Err}
use Rattle.shell_state.specs.declared.task.Task.TheVariants.{Ask}
use Rattle.ksh_meaning.specs.Answers.{write_refused}
use Rattle.ksh_meaning.specs.Asking.{served_ask, served_unasked}
use Rattle.ksh_meaning.specs.Finished.{ended}
use Rattle.ksh_meaning.specs.Output.{piece, after_write, write}
use Rattle.ksh_meaning.specs.Serving.{Did, as_answered}
use Rattle.ksh_meaning.specs.Tasks.{no_memory}
use Rattle.built_io.proofs.output.write_piece.Goals as goal

pub returns-in_default-clause-served : goal.returns-in_default-clause-served
returns-in_default-clause-served g c = no_memory

pub returns-in-Ok-ask-clause-served : goal.returns-in-Ok-ask-clause-served
unfolding piece
returns-in-Ok-ask-clause-served g c =
    let d : Did g.C.FnMut (c.args.ctx.now, c.args.rest.now) (c.args.state.now, Ask (write 1 c.args.bytes.now)) (ended c.ask.new.state (as_answered (Ok c.in-Ok-ask.answer))) (c.ask.new.ctx, c.ask.new.rest) = rw (c.in-Ok-ask.is, c.in-Ok.ensures) at c.ask.ensures.did in
    served_ask g.C.FnMut (λ s a. after_write c.args.line c.args.name.now s (write_refused a)) d (rw c.write_refused.ensures at c.after_write.ensures.served)

pub returns-in-Err-clause-served : goal.returns-in-Err-clause-served
unfolding piece
returns-in-Err-clause-served g c =
    let d : Did g.C.FnMut (c.args.ctx.now, c.args.rest.now) (c.args.state.now, Ask (write 1 c.args.bytes.now)) (ended c.ask.new.state (as_answered (Err c.in-Err.stop))) (c.ask.new.ctx, c.ask.new.rest) = rw (c.in-Err.is, c.in-Ok.ensures) at c.ask.ensures.did in
    served_unasked g.C.FnMut (λ s a. after_write c.args.line c.args.name.now s (write_refused a)) d
