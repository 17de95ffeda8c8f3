use Rattle.std.proofs.Common.{◌∙◌, sym, [], ◌∷◌}
use Rattle.tree_build.proofs.MovingR.{never_name, never_ready}
use Rattle.tree_moves.specs.Tags as tag
use Rattle.tree_build.proofs.loops.end_for_words.Goals as goal

pub returns-in_default : goal.returns-in_default
returns-in_default c = record {
  grows = c.do_parts.ensures.grows;
  moves_name = λ k. never_name (tag.ForBody ∷ []) _ _ _ (λ e. c.in_default.not-ForName (c.at.ensures ∙ e));
  moves_words = λ k. never_ready (tag.ForBody ∷ []) _ _ _ (λ e. c.in_default.not-ForReady (c.at.ensures ∙ e));
  moves_parts = c.do_parts.ensures.moves;
}
