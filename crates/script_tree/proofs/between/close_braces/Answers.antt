use Rattle.tree_build.specs.Places.{place_at}
use Rattle.script_tree.proofs.Defaults.{brace_default}
use Rattle.script_tree.proofs.Fitted.{current_moves}
use Rattle.script_tree.proofs.between.close_braces.Goals as goal

pub returns-in_default : goal.returns-in_default
returns-in_default c = record {
  grows = c.close_substitution.ensures.grows;
  moves = brace_default c.args.sign.kind (place_at c.args.frames.now 1) c.at.result _ _ _ c.at.ensures c.in_default.not-Group (current_moves c.args.sign.kind _ _ _ c.close_substitution.ensures.moves_current);
}
