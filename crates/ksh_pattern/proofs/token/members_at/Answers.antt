use Rattle.std.proofs.Common.{◌≡◌, ℕ, List, [], ◌∷◌, ◌++◌, false, ◌==◌, ◌<◌, ◌∙◌, ◌+◌, ◌-◌, ap, sym, arith, drop, get_or}
use Rattle.std.proofs.lemmas.List.{take_rest}
use Rattle.ksh_pattern.specs.declared.marked.Marked.{Marked}
use Rattle.ksh_pattern.specs.declared.byte_test.Member.{Member}
use Rattle.ksh_pattern.specs.Reading.{members_at, member_at, behind}
use Rattle.ksh_pattern.proofs.Tokens.{members_skip, members_end, members_more, not_first, no_mark}
use Rattle.ksh_pattern.proofs.token.members_at.Goals as goal

pub loop-index-preserved-then-skip-gt0 : goal.loop-index-preserved-then-skip-gt0
loop-index-preserved-then-skip-gt0 c =
    c.loop-index.invariant
    ∙ members_skip c.args.marks.now c.loop-index.members c.loop-index.index c.loop-index.skip _ no_mark c.loop-index-test.true c.if-skip-gt0.true
    ∙ ap (λ b. behind c.loop-index.members (c.loop-index.index + 1) (members_at (c.loop-index.skip - 1) b (drop (c.loop-index.index + 1) c.args.marks.now))) (sym (not_first c.loop-index.index))

pub loop-index-preserved : goal.loop-index-preserved
loop-index-preserved c =
    let marks : List Marked = c.args.marks.now in
    let i : ℕ = c.loop-index.index in
    let none : c.loop-index.skip ≡ 0 = omega arith in
    let found : c.member_at-member.result ≡ member_at (get_or marks i no_mark) (drop (i + 1) marks) =
    c.member_at-member.ensures ∙ ap (member_at (get_or marks i no_mark)) (take_rest marks (i + 1)) in
    c.loop-index.invariant
    ∙ ap (λ n. behind c.loop-index.members i (members_at n (i == 0) (drop i marks))) none
    ∙ members_more marks c.loop-index.members i no_mark (i == 0) c.loop-index-test.true (sym c.ends_bracket.ensures ∙ c.if-ends_bracket.false)
    ∙ ap (λ (p : Member × ℕ). behind (c.loop-index.members ++ p.0 ∷ []) (i + 1) (members_at p.1 false (drop (i + 1) marks))) (sym found)
    ∙ (λ j. behind (sym c.in_ok-push.ensures.ok j) (i + 1) (members_at c.member_at-member.result.1 (sym (not_first i) j) (drop (i + 1) marks)))
