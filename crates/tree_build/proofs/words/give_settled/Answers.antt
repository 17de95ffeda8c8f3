use Rattle.std.proofs.Common.{[], ◌∷◌}
use Rattle.tree_moves.specs.Tags as tag
use Rattle.tree_build.proofs.MovingQ.{given_assignment}
use Rattle.tree_build.proofs.words.give_settled.Goals as goal

pub returns-in_default : goal.returns-in_default
returns-in_default c = record {
  stays = c.give_assignment.ensures.stays;
  moves_simple = given_assignment (tag.Simple ∷ []) (tag.Simple ∷ []) c.at.result _ _ _ c.at.ensures c.in_default.not-Whole c.give_assignment.ensures.moves_simple;
  moves_value = given_assignment (tag.Value ∷ []) (tag.Value ∷ []) c.at.result _ _ _ c.at.ensures c.in_default.not-Whole c.give_assignment.ensures.moves_value;
}
