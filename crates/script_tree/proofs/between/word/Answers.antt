use Rattle.tree_build.specs.Places.{place_at}
use Rattle.script_tree.proofs.Defaults.{word_default}
use Rattle.script_tree.proofs.between.word.Goals as goal

pub returns-in_default : goal.returns-in_default
returns-in_default c = record {
  grows = c.prepared_word.ensures.grows;
  moves = λ f b. word_default c.args.sign.mode c.args.sign.kind (place_at c.args.frames.now 1) (place_at c.args.frames.now 0) c.at.result _ _ _ c.at.ensures c.in_default.not-Stages c.in_default.not-FunctionName
      c.in_default.not-Listed c.in_default.not-For c.in_default.not-ForName c.in_default.not-ForReady c.in_default.not-ForArithmetic c.in_default.not-Function c.in_default.not-CaseWord c.in_default.not-MemberBody c.in_default.not-Cases c.in_default.not-Terms
      (c.prepared_word.ensures.moves f b);
}
