-- What a step is known to do says what a row of a table says, where the row fits at all.
use Rattle.std.specs.Prelude.{◌≡◌, ℕ, Bool, true, false, not, ◌||◌, ◌&&◌, List, [], ◌∷◌, ◌++◌, Option, Some, None, Result, Ok, Err}
use Rattle.std.specs.List.{list_all, list_any}
use Rattle.std.proofs.Common.{refl, sym, ◌∙◌, ap, subst, append_assoc}
use Rattle.ksh_grammar.proofs.Begins.{and_left, and_right}
use Rattle.tree_moves.specs.Moves.{Row}
use Rattle.tree_moves.specs.Tags.{Tag}
use Rattle.tree_build.specs.Fits.{Fits, Moves}
use Rattle.tree_build.specs.Frame.{Frame}
use Rattle.tree_build.specs.Places.{place_at}
use Rattle.tree_build.specs.declared.place.Place.{Place}
use Rattle.tree_build.specs.declared.unbuilt.Unbuilt.{Unbuilt}
use Rattle.tree_build.specs.declared.unbuilt.Unbuilt.TheVariants as unbuilt
use Rattle.script_tree.specs.Steps.{AllMove, Cut, Above, Below, Apart, cut, is_also}
use Rattle.script_tree.proofs.Joined.{CutSays, cut_says}
use Rattle.script_tree.proofs.Tagged.{tag_place, top_place, below_place, is_also_is}

abbrev all_also : List Tag → List Tag → Bool
all_also [] [] = true
all_also [] (u ∷ us) = false
all_also (t ∷ ts) [] = false
all_also (t ∷ ts) (u ∷ us) = is_also t u && all_also ts us

abbrev covers_by : Cut → Row → Row → Bool
covers_by (Above more) known r = all_also (known.1 ++ more) r.1
covers_by (Below more) known r = false
covers_by Apart known r = false

-- one row says what another says
abbrev pub covers : Row → Row → Bool
covers r known = covers_by (cut r.0 known.0) known r

abbrev pub covered : List Row → Row → Bool
covered rows r = list_any (covers r) rows

all_also_fits : (ts us : List Tag) → all_also ts us ≡ true → (rest : List Tag) (fs : List Frame) → Fits (ts ++ rest) fs → Fits (us ++ rest) fs
all_also_fits [] [] e rest fs h = h
all_also_fits [] (u ∷ us) e rest fs h = absurd cc
all_also_fits (t ∷ ts) [] e rest fs h = absurd cc
all_also_fits (t ∷ ts) (u ∷ us) e rest [] h = h
all_also_fits (t ∷ ts) (u ∷ us) e rest (f ∷ fs) h = (
  is_also_is t u f (and_left (is_also t u) (all_also ts us) e) h.0,
  all_also_fits ts us (and_right (is_also t u) (all_also ts us) e) rest fs h.1,
)

covers_moves : {A : Type 0} (c : Cut) (known r : Row) (old new : List Frame) (res : Result A Unbuilt) → CutSays c r.0 known.0 → covers_by c known r ≡ true → Moves known old new res → Moves r old new res
covers_moves (Above more) known r old new (Ok x) says e m = λ rest h.
    all_also_fits (known.1 ++ more) r.1 e rest new (subst (λ ts. Fits ts new) (sym (append_assoc known.1 more rest)) (m (more ++ rest) (says rest old h)))
covers_moves (Above more) known r old new (Err unbuilt.Stray) says e m = λ rest h. m (more ++ rest) (says rest old h)
covers_moves (Above more) known r old new (Err unbuilt.Memory) says e m = tt
covers_moves (Below more) known r old new res says e m = absurd cc
covers_moves Apart known r old new res says e m = absurd cc

pub covered_moves : {A : Type 0} (rows : List Row) (r : Row) (old new : List Frame) (res : Result A Unbuilt) → covered rows r ≡ true → AllMove rows old new res → Moves r old new res
covered_moves [] r old new res e m = absurd cc
covered_moves (known ∷ rows) r old new res e m = by_first (covers r known) refl e (λ more. covered_moves rows r old new res more m.1)
  where
    by_first : (b : Bool) → covers r known ≡ b → (b || list_any (covers r) rows) ≡ true → (list_any (covers r) rows ≡ true → Moves r old new res) → Moves r old new res
    by_first true c e later = covers_moves (cut r.0 known.0) known r old new res (cut_says r.0 known.0) c m.0
    by_first false c e later = later e

-- what a row says is only asked where it fits
pub where_it_fits : {A : Type 0} (r : Row) (old new : List Frame) (res : Result A Unbuilt) → ((rest : List Tag) → Fits (r.0 ++ rest) old → Moves r old new res) → Moves r old new res
where_it_fits r old new (Ok x) m = λ rest h. m rest h rest h
where_it_fits r old new (Err unbuilt.Stray) m = λ rest h. m rest h rest h
where_it_fits r old new (Err unbuilt.Memory) m = tt

-- ---- by what stands on top

-- steps are known by what stands on top, and what below that
abbrev pub Steps : Type 0
Steps = Place → Place → List Row

abbrev by_places : Steps → Row → Option Place → Option Place → Bool
by_places steps r (Some p) (Some q) = covered (steps p q) r
by_places steps r (Some p) None = false
by_places steps r None below = false

-- the row is covered, whatever stands below where it looks at one frame
abbrev pub row_covered : Steps → Place → List Tag → Row → Bool
row_covered steps second [] r = false
row_covered steps second (t ∷ []) r = by_places steps r (tag_place t) (Some second)
row_covered steps second (t ∷ u ∷ ts) r = by_places steps r (tag_place t) (tag_place u)

abbrev pub all_covered : Steps → Place → List Row → Bool
all_covered steps second rows = list_all (λ r. row_covered steps second r.0 r) rows

places_move : {A : Type 0} (steps : Steps) (r : Row) (top below : Option Place) (old new : List Frame) (res : Result A Unbuilt)
    → ((p : Place) → top ≡ Some p → place_at old 0 ≡ p) → ((q : Place) → below ≡ Some q → place_at old 1 ≡ q)
    → by_places steps r top below ≡ true → AllMove (steps (place_at old 0) (place_at old 1)) old new res → Moves r old new res
places_move {A} steps r (Some p) (Some q) old new res at_top at_below e m =
    covered_moves (steps p q) r old new res e
    (subst (λ b. AllMove {A = A} (steps p b) old new res) (at_below q refl) (subst (λ t. AllMove {A = A} (steps t (place_at old 1)) old new res) (at_top p refl) m))
places_move steps r (Some p) None old new res at_top at_below e m = absurd cc
places_move steps r None below old new res at_top at_below e m = absurd cc

row_moves : {A : Type 0} (steps : Steps) (ts : List Tag) (r : Row) (rest : List Tag) (old new : List Frame) (res : Result A Unbuilt)
    → Fits (ts ++ rest) old → row_covered steps (place_at old 1) ts r ≡ true → AllMove (steps (place_at old 0) (place_at old 1)) old new res → Moves r old new res
row_moves steps [] r rest old new res h e m = absurd cc
row_moves steps (t ∷ []) r rest old new res h e m =
    places_move steps r (tag_place t) (Some (place_at old 1)) old new res (λ p s. top_place t rest old p s h) (λ q s. some_same s) e m
  where
    some_same : {q : Place} → Some (place_at old 1) ≡ Some q → place_at old 1 ≡ q
    some_same s = cc
row_moves steps (t ∷ u ∷ ts) r rest old new res h e m =
    places_move steps r (tag_place t) (tag_place u) old new res (λ p s. top_place t (u ∷ ts ++ rest) old p s h) (λ q s. below_place t u (ts ++ rest) old q s h) e m

-- what the steps do covers a table
pub all_covered_move : {A : Type 0} (steps : Steps) (rows : List Row) (old new : List Frame) (res : Result A Unbuilt)
    → all_covered steps (place_at old 1) rows ≡ true → AllMove (steps (place_at old 0) (place_at old 1)) old new res → AllMove rows old new res
all_covered_move steps [] old new res e m = tt
all_covered_move steps (r ∷ rows) old new res e m =
    let test : Row → Bool = λ r. row_covered steps (place_at old 1) r.0 r in (
      where_it_fits r old new res (λ rest h. row_moves steps r.0 r rest old new res h (and_left (test r) (list_all test rows) e) m),
      all_covered_move steps rows old new res (and_right (test r) (list_all test rows) e) m,
    )
