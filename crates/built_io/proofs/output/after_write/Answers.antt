use Rattle.std.proofs.Common.{rules, ◌≡◌, arith, refl, Ok, Err, None, Some, true, false}
use Rattle.ksh_meaning.specs.Answers.{is_broken}
use Rattle.ksh_meaning.specs.Tasks.{Ends, no_memory, ended, served_end, served_then, served_stop}
use Rattle.ksh_meaning.specs.Texts.{refused_words}
use Rattle.built_io.proofs.output.after_write.Goals as goal

pub returns-in_default-clause-served : goal.returns-in_default-clause-served
returns-in_default-clause-served g c = let e : c.args.refused ≡ None = search rules in rw e ended

pub returns-then-is_broken-clause-served : goal.returns-then-is_broken-clause-served
returns-then-is_broken-clause-served g c =
    let b : is_broken c.in-Some.refusal ≡ true = search rules in rw (c.in-Some.is, b) ended

pub returns-in_default-refused_text-clause-served : goal.returns-in_default-refused_text-clause-served
returns-in_default-refused_text-clause-served g c = no_memory

pub returns-in-Ok-tell-clause-served : goal.returns-in-Ok-tell-clause-served
returns-in-Ok-tell-clause-served g c =
    let b : is_broken c.in-Some.refusal ≡ false = search rules in
    let w : c.bytes.result.now ≡ refused_words c.args.name.now c.in-Some.refusal = search rules in
    rw (c.in-Some.is, b) (served_then _ _ (λ e. Ends (e, true)) (rw (w, c.in-Ok-tell.is) at c.tell.ensures.served) ended)

pub returns-clause-served : goal.returns-clause-served
returns-clause-served g c =
    let b : is_broken c.in-Some.refusal ≡ false = search rules in
    let w : c.bytes.result.now ≡ refused_words c.args.name.now c.in-Some.refusal = search rules in
    rw (c.in-Some.is, b) (served_stop _ _ (λ e. Ends (e, true)) (rw (w, c.in-Err.is) at c.tell.ensures.served))
