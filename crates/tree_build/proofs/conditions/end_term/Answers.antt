use Rattle.std.proofs.Common.{rules, [], ◌∷◌}
use Rattle.tree_build.proofs.MovingP.{after, ends_operands, fails_below}
use Rattle.tree_moves.specs.Tags as tag
use Rattle.tree_build.proofs.conditions.end_term.Goals as goal

pub returns-in_err-finish_operands-clause-moves_operands : goal.returns-in_err-finish_operands-clause-moves_operands
returns-in_err-finish_operands-clause-moves_operands c = fails_below (tag.Operands ∷ []) (tag.Tested ∷ []) (tag.Terms ∷ []) (tag.Terms ∷ []) c.args.frames.now c.finish_operands.new.frames c.finish_operands.new.frames _ _ (search rules) c.in_err-finish_operands.ensures.moves_operands

pub returns-in_err-finish_operands-clause-moves_tested : goal.returns-in_err-finish_operands-clause-moves_tested
returns-in_err-finish_operands-clause-moves_tested c = fails_below (tag.Tested ∷ []) (tag.Tested ∷ []) (tag.Terms ∷ []) (tag.Terms ∷ []) c.args.frames.now c.finish_operands.new.frames c.finish_operands.new.frames _ _ (search rules) c.in_err-finish_operands.ensures.moves_tested

pub returns-clause-moves_operands : goal.returns-clause-moves_operands
returns-clause-moves_operands c = ends_operands (tag.Terms ∷ []) _ _ _ _ c.in_ok-finish_operands.ensures.moves_operands c.close_term.ensures.moves

pub returns-clause-moves_tested : goal.returns-clause-moves_tested
returns-clause-moves_tested c = after (tag.Tested ∷ tag.Terms ∷ []) (tag.Tested ∷ tag.Terms ∷ []) (tag.Terms ∷ []) _ _ _ _ (λ rest fits. c.in_ok-finish_operands.ensures.moves_tested (tag.Terms ∷ rest) fits) c.close_term.ensures.moves
