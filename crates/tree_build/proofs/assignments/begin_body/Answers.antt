use Rattle.std.proofs.Common.{[], ◌∷◌}
use Rattle.tree_moves.specs.Tags as tag
use Rattle.tree_build.proofs.MovingS.{then_on_top}
use Rattle.tree_build.proofs.assignments.begin_body.Goals as goal

pub returns-clause-moves : goal.returns-clause-moves
returns-clause-moves c = then_on_top (tag.HereWord ∷ []) tag.HereBody tag.Text _ _ _ _ c.in_ok-open_body.ensures.moves c.open_text.ensures.moves
