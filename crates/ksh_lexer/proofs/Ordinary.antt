-- A byte that is ordinary in a mode stands for itself there.
use Rattle.std.proofs.Common.{◌≡◌, ℕ, ◌<◌, true, false, List, length, slice_index, Option, Some, arith}
use Rattle.std.specs.Prelude.{slice_get}
use Rattle.std.proofs.lemmas.Bool.Decides.{nat_tests}
use Rattle.std.proofs.lemmas.Option.{slice_get-get_or}
use Rattle.ksh_lexer.specs.declared.mode.LexMode.{LexMode}
use Rattle.ksh_lexer.specs.declared.mode.LexMode.TheVariants as mode
use Rattle.ksh_lexer.specs.declared.mode.BraceEnd.TheVariants as until
use Rattle.ksh_lexer.specs.Begin.{begins, is_ordinary, is_run, runs}
use Rattle.ksh_lexer.specs.Reach.{next}

ordinary : (m : LexMode) (b : ℕ) (second third : Option ℕ) → is_ordinary m b ≡ true → is_run (begins m (Some b) second third) ≡ true
ordinary mode.Command b second third e = cc
ordinary mode.Argument b second third e = cc
ordinary mode.Pattern b second third e = cc
ordinary mode.Condition b second third e = cc
ordinary mode.Value b second third e = cc
ordinary mode.Parameter b second third e = cc
ordinary mode.Form b second third e = cc
ordinary mode.Target b second third e = cc
ordinary mode.Word b second third e = grind (arith, nat_tests)
ordinary (mode.Quoted opening) b second third e = grind (arith, nat_tests)
ordinary mode.Group b second third e = grind (arith, nat_tests)
ordinary (mode.Braced until.Brace) b second third e = grind (arith, nat_tests)
ordinary (mode.Braced until.Colon) b second third e = grind (arith, nat_tests)
ordinary (mode.Braced until.Slash) b second third e = grind (arith, nat_tests)
ordinary mode.Subscript b second third e = grind (arith, nat_tests)
ordinary mode.Arithmetic b second third e = grind (arith, nat_tests)
ordinary mode.LoopArithmetic b second third e = grind (arith, nat_tests)
ordinary mode.Parentheses b second third e = grind (arith, nat_tests)
ordinary (mode.HereBody tabs true) b second third e = grind (arith, nat_tests)
ordinary (mode.HereBody tabs false) b second third e = grind (arith, nat_tests)

pub ordinary_runs : (m : LexMode) (text : List ℕ) (place : ℕ) → place < length text → is_ordinary m (slice_index text place) ≡ true → runs m text place ≡ true
ordinary_runs m text place h e =
    rw (slice_get-get_or text place 0 h) (ordinary m (slice_index text place) (slice_get text (next text place)) (slice_get text (next text (next text place))) e)
