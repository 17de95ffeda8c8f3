use Rattle.std.proofs.Common.{[], ◌∷◌}
use Rattle.tree_moves.specs.Tags as tag
use Rattle.tree_build.proofs.MovingQ.{then_gives}
use Rattle.tree_build.proofs.assignments.end_body.Goals as goal

pub returns-clause-moves_simple : goal.returns-clause-moves_simple
returns-clause-moves_simple c = then_gives tag.Text tag.HereBody tag.Redirected tag.Simple (tag.Simple ∷ []) _ _ _ _ c.in_ok-close_body.ensures.moves c.give_redirection.ensures.moves_simple

pub returns-clause-moves_compound : goal.returns-clause-moves_compound
returns-clause-moves_compound c = then_gives tag.Text tag.HereBody tag.Redirected tag.Compound (tag.Compound ∷ []) _ _ _ _ c.in_ok-close_body.ensures.moves c.give_redirection.ensures.moves_compound
