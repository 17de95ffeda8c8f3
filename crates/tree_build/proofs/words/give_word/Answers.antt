use Rattle.std.proofs.Common.{refl, [], ◌∷◌}
use Rattle.tree_moves.specs.Tags as tag
use Rattle.tree_build.proofs.MovingQ.{never_second}
use Rattle.tree_build.proofs.words.give_word.Goals as goal

pub returns-in_default : goal.returns-in_default
returns-in_default c = record {
  stays = c.give_entry.ensures.stays;
  moves_simple = never_second tag.Whole tag.Simple [] (tag.Simple ∷ []) c.at.result _ _ _ refl c.at.ensures c.in_default.not-Simple;
  moves_first = never_second tag.WholeName tag.SimpleEmpty [] (tag.SimpleName ∷ []) c.at.result _ _ _ refl c.at.ensures c.in_default.not-Simple;
  moves_for = never_second tag.AnyWhole tag.ForWords [] (tag.ForWords ∷ []) c.at.result _ _ _ refl c.at.ensures c.in_default.not-ForWords;
  moves_case = never_second tag.AnyWhole tag.Case [] (tag.CaseWord ∷ []) c.at.result _ _ _ refl c.at.ensures c.in_default.not-Case;
  moves_pattern = never_second tag.AnyWhole tag.Patterns [] (tag.Patterns ∷ []) c.at.result _ _ _ refl c.at.ensures c.in_default.not-Patterns;
  moves_unary = never_second tag.WholeUnary tag.OperandsNone [] (tag.OperandsUnary ∷ []) c.at.result _ _ _ refl c.at.ensures c.in_default.not-Operands;
  moves_operand = never_second tag.AnyWhole tag.OperandsNone [] (tag.OperandsOne ∷ []) c.at.result _ _ _ refl c.at.ensures c.in_default.not-Operands;
  moves_both = never_second tag.WholeBinary tag.OperandsUnary [] (tag.OperandsBoth ∷ []) c.at.result _ _ _ refl c.at.ensures c.in_default.not-Operands;
  moves_binary = never_second tag.WholeBinary tag.OperandsOne [] (tag.OperandsBinary ∷ []) c.at.result _ _ _ refl c.at.ensures c.in_default.not-Operands;
  moves_second = never_second tag.AnyWhole tag.OperandsUnary [] (tag.Operands ∷ []) c.at.result _ _ _ refl c.at.ensures c.in_default.not-Operands;
  moves_third = never_second tag.AnyWhole tag.OperandsBinary [] (tag.Operands ∷ []) c.at.result _ _ _ refl c.at.ensures c.in_default.not-Operands;
  moves_entry = c.give_entry.ensures.moves_entry;
  moves_name = c.give_entry.ensures.moves_name;
  moves_named = c.give_entry.ensures.moves_named;
}
