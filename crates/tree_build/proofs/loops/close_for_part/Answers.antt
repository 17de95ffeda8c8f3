use Rattle.std.proofs.Common.{rules, sym, ◌∙◌, ◌≡◌, [], ◌∷◌, ◌++◌, ap}
use Rattle.tree_build.specs.Loads.{below, top}
use Rattle.tree_build.proofs.Onto.{text_on, for_arithmetic_on}
use Rattle.tree_build.proofs.Compounding.{reads_for_part}
use Rattle.tree_build.specs.Frame.{ForArithmetic}
use Rattle.tree_build.proofs.Moving.{two_for_one}
use Rattle.tree_moves.specs.Tags as tag
use Rattle.tree_build.proofs.loops.close_for_part.Goals as goal

pub returns-clause-grows : goal.returns-clause-grows
returns-clause-grows c =
    let line = c.in-Some-ForArithmetic.line in
    let pieces = c.in-Some.pieces in
    let part = c.in-Ok.part in
    let taken : c.frames.inside.texts.words ≡ pieces ∷ c.pop-3.new.self = search rules in
    let added : c.add-ready.new.self ≡ (top [] c.frames.inside.compounds.parts ++ part ∷ []) ∷ below c.frames.inside.compounds.parts = search rules in
    reads_for_part c.args.sign c.args.bytes.now line _ part (top [] c.frames.inside.texts.words) _ _ _ _ (search rules) (rw taken (search rules))
    (sym c.frames.view_is ∙ text_on c.frames.inside.opened c.pop.new.self _ (search rules))
    (for_arithmetic_on c.pop.new.self c.pop-2.new.self _ line (search rules))
    (rw (added, taken) (for_arithmetic_on c.push_after.new.self c.pop-2.new.self _ line (search rules)))

pub returns-clause-moves_first : goal.returns-clause-moves_first
returns-clause-moves_first c =
    let line = c.in-Some-ForArithmetic.line in
    let pieces = c.in-Some.pieces in
    let part = c.in-Ok.part in
    let taken : c.frames.inside.texts.words ≡ pieces ∷ c.pop-3.new.self = search rules in
    let added : c.add-ready.new.self ≡ (top [] c.frames.inside.compounds.parts ++ part ∷ []) ∷ below c.frames.inside.compounds.parts = search rules in
    λ k. two_for_one tag.Text tag.ForArithmeticNone tag.ForArithmeticOne _ (ForArithmetic line (top [] c.frames.inside.compounds.parts)) (ForArithmetic line (top [] c.frames.inside.compounds.parts ++ part ∷ [])) _ _ _ _ (λ p q. (part, ap (λ xs. xs ++ part ∷ []) q))
    (sym c.frames.view_is ∙ text_on c.frames.inside.opened c.pop.new.self _ (search rules))
    (for_arithmetic_on c.pop.new.self c.pop-2.new.self _ line (search rules))
    (rw (added, taken) (for_arithmetic_on c.push_after.new.self c.pop-2.new.self _ line (search rules)))

pub returns-clause-moves_second : goal.returns-clause-moves_second
returns-clause-moves_second c =
    let line = c.in-Some-ForArithmetic.line in
    let pieces = c.in-Some.pieces in
    let part = c.in-Ok.part in
    let taken : c.frames.inside.texts.words ≡ pieces ∷ c.pop-3.new.self = search rules in
    let added : c.add-ready.new.self ≡ (top [] c.frames.inside.compounds.parts ++ part ∷ []) ∷ below c.frames.inside.compounds.parts = search rules in
    λ k. two_for_one tag.Text tag.ForArithmeticOne tag.ForArithmeticTwo _ (ForArithmetic line (top [] c.frames.inside.compounds.parts)) (ForArithmetic line (top [] c.frames.inside.compounds.parts ++ part ∷ [])) _ _ _ _ (λ p q. (q.0, part, ap (λ xs. xs ++ part ∷ []) q.1))
    (sym c.frames.view_is ∙ text_on c.frames.inside.opened c.pop.new.self _ (search rules))
    (for_arithmetic_on c.pop.new.self c.pop-2.new.self _ line (search rules))
    (rw (added, taken) (for_arithmetic_on c.push_after.new.self c.pop-2.new.self _ line (search rules)))

pub returns-clause-moves_third : goal.returns-clause-moves_third
returns-clause-moves_third c =
    let line = c.in-Some-ForArithmetic.line in
    let pieces = c.in-Some.pieces in
    let part = c.in-Ok.part in
    let taken : c.frames.inside.texts.words ≡ pieces ∷ c.pop-3.new.self = search rules in
    let added : c.add-ready.new.self ≡ (top [] c.frames.inside.compounds.parts ++ part ∷ []) ∷ below c.frames.inside.compounds.parts = search rules in
    λ k. two_for_one tag.Text tag.ForArithmeticTwo tag.ForArithmeticThree _ (ForArithmetic line (top [] c.frames.inside.compounds.parts)) (ForArithmetic line (top [] c.frames.inside.compounds.parts ++ part ∷ [])) _ _ _ _ (λ p q. (q.0, q.1, part, ap (λ xs. xs ++ part ∷ []) q.2))
    (sym c.frames.view_is ∙ text_on c.frames.inside.opened c.pop.new.self _ (search rules))
    (for_arithmetic_on c.pop.new.self c.pop-2.new.self _ line (search rules))
    (rw (added, taken) (for_arithmetic_on c.push_after.new.self c.pop-2.new.self _ line (search rules)))
