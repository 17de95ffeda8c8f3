use Rattle.std.proofs.Common.{rules, ap, ◌∙◌}
use Rattle.ksh_lexer.specs.Awaited.{Lexing}
use Rattle.script_notes.specs.Noted.{line_of}
use Rattle.script_notes.proofs.Keeping.{keeps_fault, keeps_on, keeps_script, keeps_start, keeps_text}
use Rattle.script_notes.proofs.script.note_script.Goals as goal

pub loop-init : goal.loop-init
loop-init c = (
  keeps_start c.args.text.now c.in_ok-scanner.scanner.reading.left.items c.in_ok-scanner.scanner.state c.in_ok-noting.noting (search rules) (search rules) (search rules) (search rules),
  ap (λ (l : Lexing). l.0) c.in_ok-lines.ensures.ok,
)

pub returns-then-is_finished-clause-fine : goal.returns-then-is_finished-clause-fine
returns-then-is_finished-clause-fine c =
    keeps_text c.args.text.now c.loop.scanner.reading.left.items c.loop.scanner.state c.loop.noting c.loop.invariant.0 (λ front events h. c.is_finished.ensures.script front events h (search rules)) (search rules)

pub returns-then-is_finished-clause-noted : goal.returns-then-is_finished-clause-noted
returns-then-is_finished-clause-noted c =
    keeps_script c.args.text.now c.loop.scanner.reading.left.items c.loop.scanner.state c.loop.noting c.finish.result c.loop.invariant.0
    (λ front events h. c.is_finished.ensures.script front events h (search rules)) (search rules) (search rules)

pub returns-in-Err-clause-refused : goal.returns-in-Err-clause-refused
returns-in-Err-clause-refused c =
    keeps_fault c.args.text.now c.loop.scanner.reading.left.items c.step.new.self.reading.left.items c.loop.scanner.state c.step.new.self.state c.step.new.self.marks.items c.in-Err.refused c.loop.noting
    c.loop.invariant.0 c.in-Err.ensures (search rules)

pub loop-preserved : goal.loop-preserved
loop-preserved c = (
  keeps_on c.args.text.now c.loop.scanner.reading.left.items c.step.new.self.reading.left.items c.loop.scanner.state c.step.new.self.state c.step.new.self.marks.items c.in-Ok.read c.line_at-line.result c.loop.noting
      c.note.new.self c.loop.invariant.0 c.in-Ok.ensures (c.line_at-line.ensures.line ∙ ap (λ text. line_of text c.in-Ok.read.seen.token.from) c.loop.invariant.1) (search rules),
  ap (λ (l : Lexing). l.0) c.line_at-line.ensures.same ∙ c.loop.invariant.1,
)
