use Rattle.tree_build.specs.Places.{place_at}
use Rattle.script_tree.proofs.Defaults.{between_default}
use Rattle.script_tree.proofs.between.between.Goals as goal

pub returns-in_default : goal.returns-in_default
returns-in_default c = record {
  grows = c.word.ensures.grows;
  moves = λ f b. between_default c.args.sign.mode c.args.sign.kind (place_at c.args.frames.now 0) (place_at c.args.frames.now 1) _ _ _ c.in_default.not-Newline c.in_default.not-NewlineBodies c.in_default.not-Semicolon c.in_default.not-Ampersand c.in_default.not-BarAmpersand c.in_default.not-AndIf c.in_default.not-OrIf c.in_default.not-Bar c.in_default.not-DoubleSemicolon c.in_default.not-SemicolonAmpersand c.in_default.not-DoubleParenthesis c.in_default.not-Open c.in_default.not-Close c.in_default.not-Backquote c.in_default.not-Redirect c.in_default.not-HereRedirect
      (c.word.ensures.moves f b);
}
