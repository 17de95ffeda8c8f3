use Rattle.tree_build.specs.Places.{place_at}
use Rattle.script_tree.proofs.Defaults.{bracket_default}
use Rattle.script_tree.proofs.Fitted.{subscript_moves}
use Rattle.script_tree.proofs.hear.close_bracket.Goals as goal

pub returns-in_default : goal.returns-in_default
returns-in_default c = record {
  grows = c.hear_literal.ensures.grows;
  moves = λ f m k. bracket_default (place_at c.args.frames.now 1) (place_at c.args.frames.now 0) c.at.result _ _ _ c.at.ensures c.in_default.not-Subscript
      (subscript_moves c.args.sign c.args.bytes.now _ _ _ f m k c.hear_literal.ensures.moves);
}
