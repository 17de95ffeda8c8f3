use Rattle.std.proofs.Common.{sym, ◌∙◌, ap, reverse}
use Rattle.tree_build.proofs.Turned.{none_turned}
use Rattle.tree_build.proofs.stack.Stack.is_empty.Goals as goal

pub returns : goal.returns
returns g c = (λ t. sym c.self.view_is ∙ ap reverse (c.is_empty.ensures.0 t), λ e. c.is_empty.ensures.1 (none_turned c.self.inside.items (c.self.view_is ∙ e)))
