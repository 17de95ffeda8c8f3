use Rattle.std.proofs.Common.{[], ◌∷◌}
use Rattle.tree_moves.specs.Tags as tag
use Rattle.tree_build.proofs.MovingS.{then_on_top}
use Rattle.tree_build.proofs.parameters.begin_form.Goals as goal

pub returns-clause-moves_once : goal.returns-clause-moves_once
returns-clause-moves_once c = λ f e. then_on_top (tag.ParameterOther ∷ []) tag.FormedOnce tag.Text _ _ _ _ (c.in_ok-open_form.ensures.moves_once f e) c.open_text.ensures.moves

pub returns-clause-moves_twice : goal.returns-clause-moves_twice
returns-clause-moves_twice c = λ f e two. then_on_top (tag.ParameterOther ∷ []) tag.FormedTwice tag.Text _ _ _ _ (c.in_ok-open_form.ensures.moves_twice f e two) c.open_text.ensures.moves
