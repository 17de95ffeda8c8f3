use Rattle.std.proofs.Common.{[]}
use Rattle.tree_moves.specs.Tags as tag
use Rattle.tree_build.proofs.MovingS.{then_on_top}
use Rattle.tree_build.proofs.parameters.begin_subscript.Goals as goal

pub returns-clause-moves : goal.returns-clause-moves
returns-clause-moves c = λ k. then_on_top [] tag.Bracket tag.Text _ _ _ _ (c.in_ok-open_bracket.ensures.moves k) c.open_text.ensures.moves
