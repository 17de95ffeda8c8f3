use Rattle.std.proofs.Common.{rules, ◌≡◌, ◌+◌, ◌∷◌, ap, sym, ◌∙◌, arith}
use Rattle.ksh_pattern.specs.Match.{part_matches, matches, one_matches, any_number, repeated}
use Rattle.ksh_pattern.proofs.Levels.{group_matches}
use Rattle.pattern_plain.proofs.Weights.{weight, heaviest, group_weight}
use Rattle.pattern_plain.proofs.Pieces.{cut_found, cut_missing, number_found, number_missing}
use Rattle.pattern_plain.proofs.plain.+plain.Goals as goal

pub one-group-requires : goal.one-group-requires
one-group-requires t c =
    let w : weight c.args.part.now ≡ 1 + heaviest c.in-Group.alternatives = ap weight c.in-Group.is ∙ group_weight c.in-Group.kind c.in-Group.alternatives in
    rw (c.as_slice.ensures ∙ c.get.ensures) (omega (arith, w, c.decreases), tt)

pub one-returns-in-Group : goal.one-returns-in-Group
one-returns-in-Group t c =
    c.group.ensures
    ∙ ap (λ a. repeated c.in-Group.kind (one_matches a) c.args.text.now) (c.as_slice.ensures ∙ c.get.ensures)
    ∙ sym (ap (λ p. part_matches p c.args.text.now) c.in-Group.is ∙ group_matches c.in-Group.kind c.in-Group.alternatives c.args.text.now)

pub all-returns-then-all_at : goal.all-returns-then-all_at
all-returns-then-all_at t c =
    let e : c.args.parts.now ≡ c.in-Some.first.now ∷ c.in-Some.rest.now = search rules in
    sym (ap (λ ps. matches ps c.args.text.now) e
    ∙ cut_found (part_matches c.in-Some.first.now) (matches c.in-Some.rest.now) c.args.text.now c.loop-cut.cut c.loop-cut-test.true (sym c.all_at.ensures ∙ c.if-all_at.true))

pub all-returns : goal.all-returns
all-returns t c =
    let e : c.args.parts.now ≡ c.in-Some.first.now ∷ c.in-Some.rest.now = search rules in
    sym (ap (λ ps. matches ps c.args.text.now) e
    ∙ cut_missing (part_matches c.in-Some.first.now) (matches c.in-Some.rest.now) c.args.text.now (λ i l. c.loop-cut.invariant i (omega (arith, l, c.loop-cut-test.false))))

pub any_number-returns-then-either_at : goal.any_number-returns-then-either_at
any_number-returns-then-either_at t c =
    sym (number_found (one_matches c.args.alternatives.now) c.args.text.now c.loop-cut.cut c.loop-cut.invariant.begun c.loop-cut-test.true (sym c.either_at.ensures ∙ c.if-either_at.true))

pub any_number-returns : goal.any_number-returns
any_number-returns t c =
    sym (number_missing (one_matches c.args.alternatives.now) c.args.text.now c.loop-cut.invariant.some (λ i b l. c.loop-cut.invariant.none i b (omega (arith, l, c.loop-cut-test.false))))

pub one_and_more-returns-then-either_at : goal.one_and_more-returns-then-either_at
one_and_more-returns-then-either_at t c =
    sym (cut_found (one_matches c.args.alternatives.now) (any_number (one_matches c.args.alternatives.now)) c.args.text.now c.loop-cut.cut c.loop-cut-test.true (sym c.either_at.ensures ∙ c.if-either_at.true))

pub one_and_more-returns : goal.one_and_more-returns
one_and_more-returns t c =
    sym (cut_missing (one_matches c.args.alternatives.now) (any_number (one_matches c.args.alternatives.now)) c.args.text.now (λ i l. c.loop-cut.invariant i (omega (arith, l, c.loop-cut-test.false))))
