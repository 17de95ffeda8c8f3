use Rattle.std.proofs.Common.{[], ◌∷◌}
use Rattle.tree_moves.specs.Tags as tag
use Rattle.tree_build.proofs.MovingS.{then_on_top}
use Rattle.tree_build.proofs.parameters.part_form.Goals as goal

pub returns-clause-moves : goal.returns-clause-moves
returns-clause-moves c = λ k. then_on_top (tag.Text ∷ tag.FormedTwice ∷ []) tag.FormedLast tag.Text _ _ _ _ (c.in_ok-end_first_text.ensures.moves k) c.open_text.ensures.moves
