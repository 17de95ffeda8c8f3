use Rattle.std.proofs.Common.{rules, ◌∙◌, ◌≡◌, [], ◌∷◌, ap, false}
use Rattle.tree_parts.specs.Literals.{literal}
use Rattle.tree_build.specs.Frame.{Whole}
use Rattle.tree_build.specs.Tables.{is_assignment}
use Rattle.tree_build.proofs.Onto.{whole_on}
use Rattle.tree_build.proofs.MovingQ.{pushes_unary, pushes_binary}
use Rattle.tree_build.proofs.words.push_word.Goals as goal

pub returns-then-is_word-clause-moves_unary : goal.returns-then-is_word-clause-moves_unary
returns-then-is_word-clause-moves_unary c =
    let word = literal c.args.bytes.now false in
    let assigns = is_assignment c.args.sign.kind in
    let pushed : c.push-ready.new.self ≡ word ∷ c.frames.inside.texts.words = search rules in
    λ k test is. pushes_unary c.args.sign c.args.bytes.now assigns test _ _
    (rw pushed (whole_on c.push_after.new.self c.frames.inside.opened _ c.args.sign.from c.args.sign.to assigns (search rules))
    ∙ ap (λ fs. Whole word c.args.sign.from c.args.sign.to assigns ∷ fs) c.frames.view_is) is

pub returns-then-is_word-clause-moves_binary : goal.returns-then-is_word-clause-moves_binary
returns-then-is_word-clause-moves_binary c =
    let word = literal c.args.bytes.now false in
    let assigns = is_assignment c.args.sign.kind in
    let pushed : c.push-ready.new.self ≡ word ∷ c.frames.inside.texts.words = search rules in
    λ k test is. pushes_binary c.args.sign c.args.bytes.now assigns test _ _
    (rw pushed (whole_on c.push_after.new.self c.frames.inside.opened _ c.args.sign.from c.args.sign.to assigns (search rules))
    ∙ ap (λ fs. Whole word c.args.sign.from c.args.sign.to assigns ∷ fs) c.frames.view_is) is

pub returns-clause-moves_order : goal.returns-clause-moves_order
returns-clause-moves_order c =
    let word = literal c.args.bytes.now false in
    let pushed : c.push-ready-2.new.self ≡ word ∷ c.frames.inside.texts.words = search rules in
    λ k test is. pushes_binary c.args.sign c.args.bytes.now false test _ _
    (rw pushed (whole_on c.push_after-2.new.self c.frames.inside.opened _ c.args.sign.from c.args.sign.to false (search rules))
    ∙ ap (λ fs. Whole word c.args.sign.from c.args.sign.to false ∷ fs) c.frames.view_is) is
