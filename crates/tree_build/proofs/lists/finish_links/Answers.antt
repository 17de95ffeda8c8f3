use Rattle.std.proofs.Common.{◌∙◌, [], ◌∷◌}
use Rattle.tree_build.proofs.MovingP.{is_not_linked}
use Rattle.tree_moves.specs.Tags as tag
use Rattle.tree_build.proofs.lists.finish_links.Goals as goal

pub returns-in_default : goal.returns-in_default
returns-in_default c = record {
  stays = c.finish_one.ensures.stays;
  moves = is_not_linked (tag.Chain ∷ []) _ _ _ (λ e. c.in_default.not-Linked (c.at.ensures ∙ e)) c.finish_one.ensures.moves;
}
