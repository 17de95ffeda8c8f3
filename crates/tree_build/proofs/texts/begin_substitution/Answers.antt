use Rattle.std.proofs.Common.{[]}
use Rattle.tree_moves.specs.Tags as tag
use Rattle.tree_build.proofs.MovingS.{then_on_top}
use Rattle.tree_build.proofs.texts.begin_substitution.Goals as goal

pub returns-clause-moves_fork : goal.returns-clause-moves_fork
returns-clause-moves_fork c = λ k. then_on_top [] tag.SubstitutionFork tag.Lines _ _ _ _ (c.in_ok-open_substitution.ensures.moves_fork k) c.open_list.ensures.moves

pub returns-clause-moves_current : goal.returns-clause-moves_current
returns-clause-moves_current c = λ k. then_on_top [] tag.SubstitutionCurrent tag.Lines _ _ _ _ (c.in_ok-open_substitution.ensures.moves_current k) c.open_list.ensures.moves
