use Rattle.std.proofs.Common.{◌∙◌, sym, [], ◌∷◌}
use Rattle.tree_build.proofs.MovingR.{never_value, over_one}
use Rattle.tree_moves.specs.Tags as tag
use Rattle.tree_build.proofs.functions.give_function.Goals as goal

pub returns-in_default : goal.returns-in_default
returns-in_default c = record {
  stays = c.define.ensures.stays;
  moves_command = over_one tag.Defined tag.Finished tag.Stages _ _ _ c.define.ensures.moves;
  moves_member = never_value tag.Defined [] (tag.Value ∷ []) _ _ _ (λ e. c.in_default.not-Value (c.at.ensures ∙ e));
}
