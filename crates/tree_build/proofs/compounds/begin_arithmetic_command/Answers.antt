use Rattle.std.proofs.Common.{rules, ap, [], ◌∷◌}
use Rattle.tree_build.specs.Fits.{opens}
use Rattle.tree_build.proofs.MovingP.{fails_below, then_text}
use Rattle.tree_moves.specs.Tags as tag
use Rattle.tree_build.proofs.compounds.begin_arithmetic_command.Goals as goal

pub returns-in_err-open_compound-clause-moves : goal.returns-in_err-open_compound-clause-moves
returns-in_err-open_compound-clause-moves c = λ k. fails_below [] (tag.ArithmeticCommand ∷ []) [] (tag.Text ∷ tag.ArithmeticCommand ∷ []) c.args.frames.now c.open_compound.new.frames c.open_compound.new.frames _ _ (search rules) (c.in_err-open_compound.ensures.moves tag.ArithmeticCommand (ap opens k))

pub returns-clause-moves : goal.returns-clause-moves
returns-clause-moves c = λ k. then_text [] (tag.ArithmeticCommand ∷ []) _ _ _ _ (c.in_ok-open_compound.ensures.moves tag.ArithmeticCommand (ap opens k)) c.open_text.ensures.moves
