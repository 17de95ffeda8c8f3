use Rattle.std.proofs.Common.{rules, [], ◌∷◌}
use Rattle.script_tree.specs.Taken.{close_word_steps, settle_steps}
use Rattle.script_tree.proofs.Joined.{fails_first, rows_then}
use Rattle.script_tree.proofs.hear.close_and_settle.Goals as goal

pub returns-in_err-close_word-clause-moves : goal.returns-in_err-close_word-clause-moves
returns-in_err-close_word-clause-moves c k =
    fails_first (Unit {0}) close_word_steps settle_steps c.args.frames.now c.close_word.new.frames c.close_word.new.frames _ _ (search rules)
    (c.in_err-close_word.ensures.moves_plain k, (c.in_err-close_word.ensures.moves_assignment k, (c.in_err-close_word.ensures.moves_element k, tt)))

pub returns-clause-moves : goal.returns-clause-moves
returns-clause-moves c k =
    rows_then {A = Unit {0}} close_word_steps settle_steps c.args.frames.now c.close_word.new.frames c.settle_word.new.frames tt _
    (c.in_ok-close_word.ensures.moves_plain k, (c.in_ok-close_word.ensures.moves_assignment k, (c.in_ok-close_word.ensures.moves_element k, tt)))
    (c.settle_word.ensures.moves_simple, (c.settle_word.ensures.moves_first, (c.settle_word.ensures.moves_for, (c.settle_word.ensures.moves_case, (c.settle_word.ensures.moves_pattern, (c.settle_word.ensures.moves_unary, (c.settle_word.ensures.moves_operand, (c.settle_word.ensures.moves_both, (c.settle_word.ensures.moves_binary, (c.settle_word.ensures.moves_second, (c.settle_word.ensures.moves_third, (c.settle_word.ensures.moves_entry, (c.settle_word.ensures.moves_name, (c.settle_word.ensures.moves_named, (c.settle_word.ensures.moves_simple_assignment, (c.settle_word.ensures.moves_value_assignment, (c.settle_word.ensures.moves_simple_redirection, (c.settle_word.ensures.moves_compound_redirection, (c.settle_word.ensures.moves_here, tt)))))))))))))))))))
