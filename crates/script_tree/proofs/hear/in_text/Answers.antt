use Rattle.tree_build.specs.Heard.{Lexed}
use Rattle.tree_build.specs.Places.{place_at}
use Rattle.tree_build.proofs.Steps.{grows_in}
use Rattle.script_tree.proofs.Defaults.{text_default}
use Rattle.script_tree.proofs.Fitted.{literal_moves}
use Rattle.script_tree.proofs.hear.in_text.Goals as goal

pub returns-in_default : goal.returns-in_default
returns-in_default c = record {
  grows = grows_in c.args.script.now (Lexed c.args.sign c.args.bytes.now) c.args.frames.now c.hear_literal.new.frames c.hear_literal.result c.hear_literal.ensures.grows;
  moves = λ f b. text_default c.args.sign.mode c.args.sign.kind (place_at c.args.frames.now 0) (place_at c.args.frames.now 1) _ _ _ c.in_default.not-Expand c.in_default.not-OpenParameter c.in_default.not-OpenCurrent c.in_default.not-OpenSubstitution c.in_default.not-Backquote c.in_default.not-OpenArithmetic c.in_default.not-WordEnd c.in_default.not-Separator c.in_default.not-Close
      (literal_moves c.args.sign c.args.bytes.now _ _ _ f b c.hear_literal.ensures.moves);
}
