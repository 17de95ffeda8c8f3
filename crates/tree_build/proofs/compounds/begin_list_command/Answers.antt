use Rattle.std.proofs.Common.{rules, [], ◌∷◌}
use Rattle.tree_build.proofs.MovingP.{fails_below, then_lines}
use Rattle.tree_moves.specs.Tags as tag
use Rattle.tree_build.proofs.compounds.begin_list_command.Goals as goal

pub returns-in_err-open_compound-clause-moves : goal.returns-in_err-open_compound-clause-moves
returns-in_err-open_compound-clause-moves c = λ t e. fails_below [] (t ∷ []) [] (tag.Lines ∷ t ∷ []) c.args.frames.now c.open_compound.new.frames c.open_compound.new.frames _ _ (search rules) (c.in_err-open_compound.ensures.moves t e)

pub returns-clause-moves : goal.returns-clause-moves
returns-clause-moves c = λ t e. then_lines [] (t ∷ []) _ _ _ _ (c.in_ok-open_compound.ensures.moves t e) c.open_list.ensures.moves
