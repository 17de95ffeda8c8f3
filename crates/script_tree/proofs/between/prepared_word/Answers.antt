use Rattle.std.proofs.Common.{rules, [], ◌∷◌}
use Rattle.tree_build.specs.Places.{place_at}
use Rattle.script_tree.specs.Taken.{any_word_steps, prepare_steps}
use Rattle.script_tree.proofs.Joined.{fails_first, rows_then}
use Rattle.script_tree.proofs.between.prepared_word.Goals as goal

pub returns-in_err-prepare-clause-moves : goal.returns-in_err-prepare-clause-moves
returns-in_err-prepare-clause-moves c f b =
    fails_first (Unit {0}) (prepare_steps (place_at c.args.frames.now 0)) (any_word_steps c.args.sign.mode c.args.sign.kind) c.args.frames.now c.prepare.new.frames c.prepare.new.frames _ _ (search rules)
    c.in_err-prepare.ensures.moves

pub returns-clause-moves : goal.returns-clause-moves
returns-clause-moves c f b =
    rows_then {A = Unit {0}} (prepare_steps (place_at c.args.frames.now 0)) (any_word_steps c.args.sign.mode c.args.sign.kind) c.args.frames.now c.prepare.new.frames c.any_word.new.frames tt _
    c.in_ok-prepare.ensures.moves
    (c.any_word.ensures.moves f b)
