use Rattle.std.proofs.Common.{rules, [], ◌∷◌}
use Rattle.tree_build.proofs.MovingP.{fails_below, joins_on}
use Rattle.tree_moves.specs.Tags as tag
use Rattle.tree_build.proofs.lists.join.Goals as goal

pub returns-in_err-finish_pipeline-clause-moves : goal.returns-in_err-finish_pipeline-clause-moves
returns-in_err-finish_pipeline-clause-moves c = λ k. fails_below (tag.Finished ∷ tag.Stages ∷ []) (tag.Piped ∷ []) (tag.Link ∷ []) (tag.Linked ∷ []) c.args.frames.now c.finish_pipeline.new.frames c.finish_pipeline.new.frames _ _ (search rules) c.in_err-finish_pipeline.ensures.moves

pub returns-clause-moves : goal.returns-clause-moves
returns-clause-moves c = λ k. joins_on (tag.Linked ∷ []) _ _ _ _ c.in_ok-finish_pipeline.ensures.moves (c.link.ensures.moves k)
