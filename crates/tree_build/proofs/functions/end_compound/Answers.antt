use Rattle.std.proofs.Common.{◌∙◌, sym, [], ◌∷◌}
use Rattle.ksh_syntax.specs.declared.part.Mark.TheVariants as mark
use Rattle.tree_build.specs.Heard.{Marked}
use Rattle.tree_build.proofs.MovingR.{never_broken, never_function_name, over_one}
use Rattle.tree_build.proofs.Steps.{grows_in}
use Rattle.tree_moves.specs.Tags as tag
use Rattle.tree_build.proofs.functions.end_compound.Goals as goal

pub returns-in_default : goal.returns-in_default
returns-in_default c = record {
  grows = grows_in c.args.script.now (Marked mark.CompoundEnds c.args.moment) _ _ _ c.close_compound.ensures.grows;
  moves_command = over_one tag.Compound tag.Finished tag.Stages _ _ _ c.close_compound.ensures.moves;
  moves_function = never_function_name tag.Compound (tag.Stages ∷ []) (tag.Finished ∷ tag.Stages ∷ []) _ _ _ (λ e. c.in_default.not-FunctionName (c.at.ensures ∙ e));
  moves_member = never_function_name tag.Compound (tag.Value ∷ []) (tag.Value ∷ []) _ _ _ (λ e. c.in_default.not-FunctionName (c.at.ensures ∙ e));
  moves_named = never_broken tag.Compound [] (tag.Value ∷ []) _ _ _ (λ e. c.in_default.not-Value (c.at.ensures ∙ e));
}
