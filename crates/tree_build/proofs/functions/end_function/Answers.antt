use Rattle.std.proofs.Common.{[], ◌∷◌}
use Rattle.tree_moves.specs.Tags as tag
use Rattle.tree_build.proofs.MovingR.{then_below}
use Rattle.tree_build.proofs.functions.end_function.Goals as goal

pub returns-clause-moves_function : goal.returns-clause-moves_function
returns-clause-moves_function c = then_below tag.Compound tag.FunctionName tag.Defined tag.Stages (tag.Finished ∷ tag.Stages ∷ []) _ _ _ _ c.in_ok-close_function.ensures.moves c.give_function.ensures.moves_command

pub returns-clause-moves_member : goal.returns-clause-moves_member
returns-clause-moves_member c = then_below tag.Compound tag.FunctionName tag.Defined tag.Value (tag.Value ∷ []) _ _ _ _ c.in_ok-close_function.ensures.moves c.give_function.ensures.moves_member
