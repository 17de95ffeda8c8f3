use Rattle.std.proofs.Common.{rules, ◌≡◌, arith, Ok, Err}
use Rattle.kernel_ask.specs.declared.ask.Answer.{Answer}
use Rattle.shell_state.specs.declared.state.ShellState.{ShellState}
use Rattle.shell_state.specs.declared.task.Task.TheVariants.{Ask}
use Rattle.ksh_meaning.specs.Answers.{write_refused}
use Rattle.ksh_meaning.specs.Asking.{served_ask, served_unasked}
use Rattle.ksh_meaning.specs.Finished.{ended}
use Rattle.ksh_meaning.specs.Output.{text_left, write}
use Rattle.ksh_meaning.specs.Serving.{Did, as_answered, serves_within}
use Rattle.ksh_meaning.specs.Tasks.{Ends, no_memory, served_end}
use Rattle.ksh_meaning.specs.Texts.{fault_line}
use Rattle.built_io.proofs.output.tell.Goals as goal

pub returns-in_default-clause-served : goal.returns-in_default-clause-served
returns-in_default-clause-served g c = no_memory

pub returns-in-Ok-ask-clause-served : goal.returns-in-Ok-ask-clause-served
returns-in-Ok-ask-clause-served g c =
    let d : Did g.C.FnMut (c.args.ctx.now, c.args.rest.now) (c.args.state.now, Ask (write 2 (fault_line c.args.line c.args.words.now))) (ended c.ask.new.state (as_answered (Ok c.in-Ok-ask.answer))) (c.ask.new.ctx, c.ask.new.rest) = rw (c.in-Ok-ask.is, c.in-Ok.ensures) at c.ask.ensures.did in
    served_ask g.C.FnMut (λ s a. Ends (text_left (write_refused a) s)) d (served_end _ _ c.settle_text.ensures.left)

pub returns-in-Ok-ask-clause-serves : goal.returns-in-Ok-ask-clause-serves
returns-in-Ok-ask-clause-serves g c = serves_within g.C.FnMut c.settle_text.ensures.budget c.settle_text.ensures.level c.ask.ensures.serves

pub returns-in-Err-clause-served : goal.returns-in-Err-clause-served
returns-in-Err-clause-served g c =
    let d : Did g.C.FnMut (c.args.ctx.now, c.args.rest.now) (c.args.state.now, Ask (write 2 (fault_line c.args.line c.args.words.now))) (ended c.ask.new.state (as_answered (Err c.in-Err.stop))) (c.ask.new.ctx, c.ask.new.rest) = rw (c.in-Err.is, c.in-Ok.ensures) at c.ask.ensures.did in
    served_unasked g.C.FnMut (λ s a. Ends (text_left (write_refused a) s)) d
