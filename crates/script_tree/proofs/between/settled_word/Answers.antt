use Rattle.std.proofs.Common.{rules, [], ◌∷◌}
use Rattle.script_tree.proofs.Fitted.{push_moves}
use Rattle.script_tree.specs.Taken.{push_steps, settle_steps}
use Rattle.script_tree.proofs.Joined.{fails_first, rows_then}
use Rattle.script_tree.proofs.between.settled_word.Goals as goal

pub returns-in_err-push_word-clause-moves : goal.returns-in_err-push_word-clause-moves
returns-in_err-push_word-clause-moves c f b =
    fails_first (Unit {0}) (push_steps c.args.sign.kind) settle_steps c.args.frames.now c.push_word.new.frames c.push_word.new.frames _ _ (search rules)
    (push_moves c.args.sign c.args.bytes.now _ _ _ f b c.in_err-push_word.ensures.moves_plain c.in_err-push_word.ensures.moves_assignment c.in_err-push_word.ensures.moves_name c.in_err-push_word.ensures.moves_unary c.in_err-push_word.ensures.moves_binary c.in_err-push_word.ensures.moves_order)

pub returns-clause-moves : goal.returns-clause-moves
returns-clause-moves c f b =
    rows_then {A = Unit {0}} (push_steps c.args.sign.kind) settle_steps c.args.frames.now c.push_word.new.frames c.settle_word.new.frames tt _
    (push_moves c.args.sign c.args.bytes.now _ _ _ f b c.in_ok-push_word.ensures.moves_plain c.in_ok-push_word.ensures.moves_assignment c.in_ok-push_word.ensures.moves_name c.in_ok-push_word.ensures.moves_unary c.in_ok-push_word.ensures.moves_binary c.in_ok-push_word.ensures.moves_order)
    (c.settle_word.ensures.moves_simple, (c.settle_word.ensures.moves_first, (c.settle_word.ensures.moves_for, (c.settle_word.ensures.moves_case, (c.settle_word.ensures.moves_pattern, (c.settle_word.ensures.moves_unary, (c.settle_word.ensures.moves_operand, (c.settle_word.ensures.moves_both, (c.settle_word.ensures.moves_binary, (c.settle_word.ensures.moves_second, (c.settle_word.ensures.moves_third, (c.settle_word.ensures.moves_entry, (c.settle_word.ensures.moves_name, (c.settle_word.ensures.moves_named, (c.settle_word.ensures.moves_simple_assignment, (c.settle_word.ensures.moves_value_assignment, (c.settle_word.ensures.moves_simple_redirection, (c.settle_word.ensures.moves_compound_redirection, (c.settle_word.ensures.moves_here, tt)))))))))))))))))))
