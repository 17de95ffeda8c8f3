-- Each row of the table of moves is covered by what is taken.
use Rattle.std.specs.Prelude.{◌≡◌, Bool, true, false, not, ◌||◌, List, [], ◌∷◌, Option, Some, None, Result}
use Rattle.std.specs.List.{list_all}
use Rattle.std.proofs.Common.{refl, sym, ◌∙◌, ap}
use Rattle.ksh_grammar.proofs.Checked.{all_at}
use Rattle.ksh_syntax.specs.declared.kind.Mode.{Mode}
use Rattle.ksh_syntax.specs.declared.kind.Kind.{Kind}
use Rattle.ksh_syntax.specs.declared.part.Mark.{Mark}
use Rattle.ksh_syntax.specs.declared.part.Mark.TheVariants as mark
use Rattle.ksh_syntax.specs.Takes.{kind_number, mode_number}
use Rattle.ksh_syntax.proofs.Everything.{kinds, kind_at, modes, mode_at}
use Rattle.tree_moves.specs.Moves.{Row, token_rows, mark_rows}
use Rattle.tree_moves.specs.Turns.{is_lexed}
use Rattle.tree_build.specs.Fits.{Moves}
use Rattle.tree_build.specs.Frame.{Frame}
use Rattle.tree_build.specs.Places.{place_at}
use Rattle.tree_build.specs.Tables.{is_silent_mark}
use Rattle.tree_build.specs.declared.place.Place.{Place}
use Rattle.tree_build.specs.declared.place.Place.TheVariants as place
use Rattle.tree_build.specs.declared.unbuilt.Unbuilt.{Unbuilt}
use Rattle.script_tree.specs.Steps.{AllMove, MarkMoves}
use Rattle.script_tree.specs.Taken.{token_steps, mark_steps}
use Rattle.script_tree.proofs.Covered.{all_covered, all_covered_move}

abbrev kind_covered : Place → Mode → Kind → Bool
kind_covered second m k = not (is_lexed (m, k)) || all_covered (token_steps m k) second (token_rows m k)

abbrev mode_covered : Place → Mode → Bool
mode_covered second m = list_all (kind_covered second m) kinds

all_modes : (second : Place) → list_all (mode_covered second) modes ≡ true
all_modes second = refl

lexed_covered : (second : Place) (m : Mode) (k : Kind) → is_lexed (m, k) ≡ true → all_covered (token_steps m k) second (token_rows m k) ≡ true
lexed_covered second m k e =
    by_lexed (is_lexed (m, k)) e (all_at (kind_covered second m) kinds (kind_number k) k (kind_at k) (all_at (mode_covered second) modes (mode_number m) m (mode_at m) (all_modes second)))
  where
    by_lexed : (b : Bool) → b ≡ true → (not b || all_covered (token_steps m k) second (token_rows m k)) ≡ true → all_covered (token_steps m k) second (token_rows m k) ≡ true
    by_lexed true e h = h
    by_lexed false e h = cc

-- what is taken for a token does what the table says
pub taken_moves : {A : Type 0} (m : Mode) (k : Kind) (old new : List Frame) (res : Result A Unbuilt) → is_lexed (m, k) ≡ true
    → AllMove (token_steps m k (place_at old 0) (place_at old 1)) old new res → AllMove (token_rows m k) old new res
taken_moves m k old new res e steps = all_covered_move (token_steps m k) (token_rows m k) old new res (lexed_covered (place_at old 1) m k e) steps

-- ---- marks

abbrev rows_of : Option (List Row) → List Row
rows_of (Some rows) = rows
rows_of None = []

mark_covered : (second : Place) (m : Mark) → all_covered (λ p below. mark_steps m p) second (rows_of (mark_rows m)) ≡ true
mark_covered second mark.SimpleBegins = refl
mark_covered second _ = refl

-- what is taken for a mark does what the table says, where the mark isn't told for others
pub mark_moves : {A : Type 0} (m : Mark) (old new : List Frame) (res : Result A Unbuilt) → (is_silent_mark m ≡ true → ⊥)
    → AllMove (mark_steps m (place_at old 0)) old new res → MarkMoves m old new res
mark_moves mark.Opens old new res loud steps = absurd (loud refl)
mark_moves mark.Closes old new res loud steps = absurd (loud refl)
mark_moves mark.CommandWord old new res loud steps = absurd (loud refl)
mark_moves mark.CommandName old new res loud steps = absurd (loud refl)
mark_moves m old new res loud steps = all_covered_move (λ p below. mark_steps m p) (rows_of (mark_rows m)) old new res (mark_covered (place_at old 1) m) steps

-- a mark that is told for others
pub mark_passes : {A : Type 0} (m : Mark) (old new : List Frame) (res : Result A Unbuilt) → is_silent_mark m ≡ true
    → (is_silent_mark m ≡ true → (place_at old 0 ≡ place.Nothing → ⊥) → Moves ([], []) old new res) → MarkMoves m old new res
mark_passes mark.Opens old new res e passes = passes refl
mark_passes mark.Closes old new res e passes = passes refl
mark_passes mark.CommandWord old new res e passes = passes refl
mark_passes mark.CommandName old new res e passes = passes refl
mark_passes m old new res e passes = absurd cc
