use Rattle.std.proofs.Common.{rules, [], ◌∷◌}
use Rattle.tree_moves.specs.Tags as tag
use Rattle.script_tree.specs.Taken.{push, settle_steps}
use Rattle.script_tree.proofs.Joined.{fails_first, rows_then}
use Rattle.script_tree.proofs.hear.settle_and_begin_member.Goals as goal

pub returns-in_err-settle_word-clause-moves : goal.returns-in_err-settle_word-clause-moves
returns-in_err-settle_word-clause-moves c =
    fails_first (Unit {0}) settle_steps (push (tag.MemberBody ∷ [])) c.args.frames.now c.settle_word.new.frames c.settle_word.new.frames _ _ (search rules)
    (c.in_err-settle_word.ensures.moves_simple, (c.in_err-settle_word.ensures.moves_first, (c.in_err-settle_word.ensures.moves_for, (c.in_err-settle_word.ensures.moves_case, (c.in_err-settle_word.ensures.moves_pattern, (c.in_err-settle_word.ensures.moves_unary, (c.in_err-settle_word.ensures.moves_operand, (c.in_err-settle_word.ensures.moves_both, (c.in_err-settle_word.ensures.moves_binary, (c.in_err-settle_word.ensures.moves_second, (c.in_err-settle_word.ensures.moves_third, (c.in_err-settle_word.ensures.moves_entry, (c.in_err-settle_word.ensures.moves_name, (c.in_err-settle_word.ensures.moves_named, (c.in_err-settle_word.ensures.moves_simple_assignment, (c.in_err-settle_word.ensures.moves_value_assignment, (c.in_err-settle_word.ensures.moves_simple_redirection, (c.in_err-settle_word.ensures.moves_compound_redirection, (c.in_err-settle_word.ensures.moves_here, tt)))))))))))))))))))

pub returns-clause-moves : goal.returns-clause-moves
returns-clause-moves c =
    rows_then {A = Unit {0}} settle_steps (push (tag.MemberBody ∷ [])) c.args.frames.now c.settle_word.new.frames c.begin_member_body.new.frames tt _
    (c.in_ok-settle_word.ensures.moves_simple, (c.in_ok-settle_word.ensures.moves_first, (c.in_ok-settle_word.ensures.moves_for, (c.in_ok-settle_word.ensures.moves_case, (c.in_ok-settle_word.ensures.moves_pattern, (c.in_ok-settle_word.ensures.moves_unary, (c.in_ok-settle_word.ensures.moves_operand, (c.in_ok-settle_word.ensures.moves_both, (c.in_ok-settle_word.ensures.moves_binary, (c.in_ok-settle_word.ensures.moves_second, (c.in_ok-settle_word.ensures.moves_third, (c.in_ok-settle_word.ensures.moves_entry, (c.in_ok-settle_word.ensures.moves_name, (c.in_ok-settle_word.ensures.moves_named, (c.in_ok-settle_word.ensures.moves_simple_assignment, (c.in_ok-settle_word.ensures.moves_value_assignment, (c.in_ok-settle_word.ensures.moves_simple_redirection, (c.in_ok-settle_word.ensures.moves_compound_redirection, (c.in_ok-settle_word.ensures.moves_here, tt)))))))))))))))))))
    (c.begin_member_body.ensures.moves, tt)
