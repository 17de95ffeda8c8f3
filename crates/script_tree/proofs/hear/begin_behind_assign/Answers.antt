use Rattle.tree_build.specs.Places.{place_at}
use Rattle.script_tree.proofs.Defaults.{assign_default}
use Rattle.script_tree.proofs.Fitted.{assign_is}
use Rattle.script_tree.proofs.hear.begin_behind_assign.Goals as goal

pub returns-in_default : goal.returns-in_default
returns-in_default c = record {
  grows = c.begin_assigned.ensures.grows;
  moves = λ f m k. assign_default (place_at c.args.frames.now 0) c.at.result _ _ _ c.at.ensures c.in_default.not-Keyed (c.begin_assigned.ensures.moves (assign_is c.args.sign c.args.bytes.now f m k), tt);
}
