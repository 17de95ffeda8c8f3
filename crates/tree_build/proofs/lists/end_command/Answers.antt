use Rattle.std.proofs.Common.{rules, [], ◌∷◌}
use Rattle.tree_build.proofs.MovingP.{ends_chain, fails_below}
use Rattle.tree_moves.specs.Tags as tag
use Rattle.tree_build.proofs.lists.end_command.Goals as goal

pub returns-in_err-finish_chain-clause-moves : goal.returns-in_err-finish_chain-clause-moves
returns-in_err-finish_chain-clause-moves c = λ k. fails_below (tag.Finished ∷ tag.Stages ∷ tag.Link ∷ []) (tag.Chain ∷ []) (tag.Lines ∷ []) (tag.Lines ∷ []) c.args.frames.now c.finish_chain.new.frames c.finish_chain.new.frames _ _ (search rules) c.in_err-finish_chain.ensures.moves

pub returns-clause-moves : goal.returns-clause-moves
returns-clause-moves c = λ k. ends_chain (tag.Lines ∷ []) _ _ _ _ c.in_ok-finish_chain.ensures.moves (c.end_chain.ensures.moves k)
