use Rattle.ksh_syntax.specs.declared.kind.Mode.TheVariants as mode
use Rattle.tree_build.specs.Places.{place_at}
use Rattle.script_tree.proofs.Defaults.{token_at, token_between, token_default}
use Rattle.script_tree.proofs.Tables.{taken_moves}
use Rattle.script_tree.proofs.hear.hear_token.Goals as goal

pub returns-in-Command-clause-moves : goal.returns-in-Command-clause-moves
returns-in-Command-clause-moves c f = taken_moves c.args.sign.mode c.args.sign.kind _ _ _ f.lexed
    (token_between c.args.sign.mode c.args.sign.kind (place_at c.args.frames.now 0) (place_at c.args.frames.now 1) _ _ _ c.in-Command.is (c.between.ensures.moves f))

pub returns-in-Parameter-clause-moves : goal.returns-in-Parameter-clause-moves
returns-in-Parameter-clause-moves c f = taken_moves c.args.sign.mode c.args.sign.kind _ _ _ f.lexed
    (token_at mode.Parameter c.args.sign.mode c.args.sign.kind (place_at c.args.frames.now 0) (place_at c.args.frames.now 1) _ _ _ c.in-Parameter.is (c.in_braces.ensures.moves f))

pub returns-in-Form-clause-moves : goal.returns-in-Form-clause-moves
returns-in-Form-clause-moves c f = taken_moves c.args.sign.mode c.args.sign.kind _ _ _ f.lexed
    (token_at mode.Form c.args.sign.mode c.args.sign.kind (place_at c.args.frames.now 0) (place_at c.args.frames.now 1) _ _ _ c.in-Form.is (c.behind_name.ensures.moves f))

pub returns-in-Target-clause-moves : goal.returns-in-Target-clause-moves
returns-in-Target-clause-moves c f = taken_moves c.args.sign.mode c.args.sign.kind _ _ _ f.lexed
    (token_at mode.Target c.args.sign.mode c.args.sign.kind (place_at c.args.frames.now 0) (place_at c.args.frames.now 1) _ _ _ c.in-Target.is (c.behind_path.ensures.moves f c.in-Target.is))

pub returns-in_default : goal.returns-in_default
returns-in_default c = record {
  grows = c.in_text.ensures.grows;
  moves = λ f. taken_moves c.args.sign.mode c.args.sign.kind _ _ _ f.lexed
      (token_default c.args.sign.mode c.args.sign.kind (place_at c.args.frames.now 0) (place_at c.args.frames.now 1) _ _ _ c.in_default.not-Command c.in_default.not-Pattern c.in_default.not-Condition c.in_default.not-Value c.in_default.not-Parameter c.in_default.not-Form c.in_default.not-Target (c.in_text.ensures.moves f));
}
