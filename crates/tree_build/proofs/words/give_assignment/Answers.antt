use Rattle.std.proofs.Common.{refl, [], ◌∷◌}
use Rattle.tree_moves.specs.Tags as tag
use Rattle.tree_build.proofs.MovingQ.{never_second}
use Rattle.tree_build.proofs.words.give_assignment.Goals as goal

pub returns-in_default : goal.returns-in_default
returns-in_default c = record {
  stays = c.give_simple_assignment.ensures.stays;
  moves_simple = c.give_simple_assignment.ensures.moves;
  moves_value = never_second tag.Assigned tag.Value [] (tag.Value ∷ []) c.at.result _ _ _ refl c.at.ensures c.in_default.not-Value;
}
