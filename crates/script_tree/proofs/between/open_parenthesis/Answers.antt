use Rattle.std.proofs.Common.{ap}
use Rattle.tree_build.specs.Fits.{opens}
use Rattle.tree_build.specs.Places.{place_at}
use Rattle.tree_moves.specs.Tags as tag
use Rattle.script_tree.proofs.Defaults.{open_default}
use Rattle.script_tree.proofs.between.open_parenthesis.Goals as goal

pub returns-in_default : goal.returns-in_default
returns-in_default c = record {
  grows = c.begin_list_command.ensures.grows;
  moves = λ k. open_default (place_at c.args.frames.now 0) c.at.result _ _ _ c.at.ensures c.in_default.not-Simple c.in_default.not-Cases c.in_default.not-Terms c.in_default.not-Assigning c.in_default.not-Whole
      (c.begin_list_command.ensures.moves tag.Subshell (ap opens k), tt);
}
