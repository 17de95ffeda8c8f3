use Rattle.std.proofs.Common.{rules, [], ◌∷◌}
use Rattle.tree_build.proofs.MovingP.{after, ends_chain, fails_below}
use Rattle.tree_moves.specs.Tags as tag
use Rattle.tree_build.proofs.lists.end_list.Goals as goal

pub returns-in_err-finish_last-clause-moves_chain : goal.returns-in_err-finish_last-clause-moves_chain
returns-in_err-finish_last-clause-moves_chain c = fails_below (tag.Finished ∷ tag.Stages ∷ tag.Link ∷ []) (tag.Chain ∷ []) (tag.Lines ∷ []) (tag.Listed ∷ []) c.args.frames.now c.finish_last.new.frames c.finish_last.new.frames _ _ (search rules) c.in_err-finish_last.ensures.moves_chain

pub returns-clause-moves_lines : goal.returns-clause-moves_lines
returns-clause-moves_lines c = after (tag.Lines ∷ []) (tag.Lines ∷ []) (tag.Listed ∷ []) _ _ _ _ c.in_ok-finish_last.ensures.moves_lines c.close_list.ensures.moves_lines

pub returns-clause-moves_chain : goal.returns-clause-moves_chain
returns-clause-moves_chain c = ends_chain (tag.Listed ∷ []) _ _ _ _ c.in_ok-finish_last.ensures.moves_chain c.close_list.ensures.moves_chain
