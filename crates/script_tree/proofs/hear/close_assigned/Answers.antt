use Rattle.std.proofs.Common.{rules, [], ◌∷◌}
use Rattle.tree_moves.specs.Tags as tag
use Rattle.script_tree.proofs.Joined.{fails_first, rows_then}
use Rattle.script_tree.proofs.hear.close_assigned.Goals as goal

pub returns-in_err-close_word-clause-moves : goal.returns-in_err-close_word-clause-moves
returns-in_err-close_word-clause-moves c k =
    fails_first (Unit {0}) ((tag.Text ∷ tag.Assigning ∷ [], tag.Assigned ∷ []) ∷ []) ((tag.Assigned ∷ tag.Simple ∷ [], tag.Simple ∷ []) ∷ (tag.Assigned ∷ tag.Value ∷ [], tag.Value ∷ []) ∷ []) c.args.frames.now c.close_word.new.frames c.close_word.new.frames _ _ (search rules)
    (c.in_err-close_word.ensures.moves_assigned k, tt)

pub returns-clause-moves : goal.returns-clause-moves
returns-clause-moves c k =
    rows_then {A = Unit {0}} ((tag.Text ∷ tag.Assigning ∷ [], tag.Assigned ∷ []) ∷ []) ((tag.Assigned ∷ tag.Simple ∷ [], tag.Simple ∷ []) ∷ (tag.Assigned ∷ tag.Value ∷ [], tag.Value ∷ []) ∷ []) c.args.frames.now c.close_word.new.frames c.give_assignment.new.frames tt _
    (c.in_ok-close_word.ensures.moves_assigned k, tt)
    (c.give_assignment.ensures.moves_simple, (c.give_assignment.ensures.moves_value, tt))
