use Rattle.std.proofs.Common.{rules, ◌≡◌, ◌+◌, ap, sym, ◌∙◌, true}
use Rattle.ksh_unparse.specs.Layout.{end_word, has_line}
use Rattle.ksh_unparse.proofs.Tried.{tried_one}
use Rattle.ksh_unparse.proofs.ends.choose_end.Goals as goal

-- the word that was tried is a line of the body
pub numbers-preserved : goal.numbers-preserved
numbers-preserved c =
    let line : has_line (end_word c.numbers.number) true c.args.body.now ≡ true = search rules in
    (sym (tried_one c.numbers.index c.numbers.number c.args.body.now c.numbers-test.true line) ∙ c.numbers.invariant.0, ap (λ n. n + 1) c.numbers.invariant.1)
