use Rattle.std.proofs.Common.{rules, arith, ◌≡◌, ℕ, List, subst, ◌+◌, ◌<◌, false, drop}
use Rattle.ksh_lexer.specs.Bodies.{is_end_line}
use Rattle.ksh_lexer.proofs.Found.{tail_slice}
use Rattle.ksh_lexer.proofs.Lines.{others, starts_behind}
use Rattle.ksh_lexer.proofs.here.find_end.Goals as goal

-- src/here.rt:40:13
pub returns-then-newline-text : goal.returns-then-newline-text
returns-then-newline-text c =
    let other : is_end_line c.args.word.now c.args.tabs (drop c.loop-tabs.at c.args.text.now) ≡ false =
    subst (λ (xs : List ℕ). is_end_line c.args.word.now c.args.tabs xs ≡ false) (tail_slice c.args.text.now c.loop-tabs.at) (search rules) in
    λ k low high. others c.args.text.now c.args.word.now c.args.tabs c.args.from c.loop-tabs.at c.find_set-newline.result c.loop-tabs.invariant.ordered
    c.find_set-newline.ensures other c.loop-tabs.invariant.first k low (let h : k < c.find_set-newline.result + 1 = omega (arith, high, c.if-newline-text.true) in h)

-- src/here.rt:34:5
pub loop-tabs-preserved : goal.loop-tabs-preserved
loop-tabs-preserved c =
    let other : is_end_line c.args.word.now c.args.tabs (drop c.loop-tabs.at c.args.text.now) ≡ false =
    subst (λ (xs : List ℕ). is_end_line c.args.word.now c.args.tabs xs ≡ false) (tail_slice c.args.text.now c.loop-tabs.at) (search rules) in
    record {
      ordered = search rules;
      within = search rules;
      starts = starts_behind c.args.text.now c.args.from c.loop-tabs.at c.find_set-newline.result c.find_set-newline.ensures (search rules);
      first = others c.args.text.now c.args.word.now c.args.tabs c.args.from c.loop-tabs.at c.find_set-newline.result c.loop-tabs.invariant.ordered
          c.find_set-newline.ensures other c.loop-tabs.invariant.first;
    }
