use Rattle.std.proofs.Common.{rules, sym, ◌∙◌}
use Rattle.tree_build.proofs.Ending.{more_than_listed, never_both}
use Rattle.tree_build.proofs.Onto.{listed_on}
use Rattle.tree_build.proofs.frames.Frames.finish.Goals as goal

pub returns-clause-moves : goal.returns-clause-moves
returns-clause-moves c = λ fits e.
    more_than_listed _ c.pop.new.self _ _ (sym c.self.view_is ∙ listed_on c.self.inside.opened c.pop.new.self _ (search rules)) (λ none. never_both c.is_empty.result (c.is_empty.ensures.1 none) c.if-is_empty.false) fits
