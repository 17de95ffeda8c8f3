-- One step behind another, row by row.
use Rattle.std.specs.Prelude.{◌≡◌, Bool, true, false, ◌&&◌, List, [], ◌∷◌, ◌++◌, Result, Ok, Err, if◌then◌else◌}
use Rattle.std.proofs.Common.{refl, sym, ◌∙◌, ap, subst, append_assoc}
use Rattle.tree_moves.specs.Moves.{Row}
use Rattle.tree_moves.specs.Tags.{Tag}
use Rattle.tree_build.specs.Fits.{Fits, Moves}
use Rattle.tree_build.specs.Frame.{Frame}
use Rattle.tree_build.specs.declared.unbuilt.Unbuilt.{Unbuilt}
use Rattle.tree_build.specs.declared.unbuilt.Unbuilt.TheVariants as unbuilt
use Rattle.script_tree.specs.Steps.{AllMove, Cut, Above, Below, Apart, cut, is_also, joined, then_row, then_rows}
use Rattle.script_tree.proofs.Tagged.{is_also_is}

-- what a comparison says of frames
abbrev pub CutSays : Cut → List Tag → List Tag → Type 0
CutSays (Above more) ts us = (rest : List Tag) (fs : List Frame) → Fits (ts ++ rest) fs → Fits (us ++ (more ++ rest)) fs
CutSays (Below more) ts us = (rest : List Tag) (fs : List Frame) → Fits (ts ++ (more ++ rest)) fs → Fits (us ++ rest) fs
CutSays Apart ts us = Unit {0}

under_tag : (t u : Tag) (ts us : List Tag) (fs : List Frame) → is_also t u ≡ true → ((gs : List Frame) → Fits ts gs → Fits us gs) → Fits (t ∷ ts) fs → Fits (u ∷ us) fs
under_tag t u ts us [] e says h = h
under_tag t u ts us (f ∷ fs) e says h = (is_also_is t u f e h.0, says fs h.1)

under_cut : (c : Cut) (t u : Tag) (ts us : List Tag) → is_also t u ≡ true → CutSays c ts us → CutSays c (t ∷ ts) (u ∷ us)
under_cut (Above more) t u ts us e says = λ rest fs h. under_tag t u (ts ++ rest) (us ++ (more ++ rest)) fs e (says rest) h
under_cut (Below more) t u ts us e says = λ rest fs h. under_tag t u (ts ++ (more ++ rest)) (us ++ rest) fs e (says rest) h
under_cut Apart t u ts us e says = tt

pub cut_says : (ts us : List Tag) → CutSays (cut ts us) ts us
cut_says ts [] = λ rest fs h. h
cut_says [] (u ∷ us) = λ rest fs h. h
cut_says (t ∷ ts) (u ∷ us) = by_first (is_also t u) refl (cut_says ts us)
  where
    by_first : (b : Bool) → is_also t u ≡ b → CutSays (cut ts us) ts us → CutSays (if b then cut ts us else Apart) (t ∷ ts) (u ∷ us)
    by_first true e says = under_cut (cut ts us) t u ts us e says
    by_first false e says = tt

pub all_append : {A : Type 0} (rs ss : List Row) (old new : List Frame) (res : Result A Unbuilt) → AllMove rs old new res → AllMove ss old new res → AllMove (rs ++ ss) old new res
all_append [] ss old new res a b = b
all_append (r ∷ rs) ss old new res a b = (a.0, all_append rs ss old new res a.1 b)

-- ---- the first step succeeds

above_moves : {A B : Type 0} (first next : Row) (more : List Tag) (old mid new : List Frame) (x : A) (res : Result B Unbuilt) → CutSays (Above more) first.1 next.0
    → Moves first old mid (Ok x) → Moves next mid new res → Moves (first.0, next.1 ++ more) old new res
above_moves first next more old mid new x (Ok y) says a b = λ rest h.
    subst (λ ts. Fits ts new) (sym (append_assoc next.1 more rest)) (b (more ++ rest) (says rest mid (a rest h)))
above_moves first next more old mid new x (Err unbuilt.Stray) says a b = λ rest h. b (more ++ rest) (says rest mid (a rest h))
above_moves first next more old mid new x (Err unbuilt.Memory) says a b = tt

below_moves : {A B : Type 0} (first next : Row) (more : List Tag) (old mid new : List Frame) (x : A) (res : Result B Unbuilt) → CutSays (Below more) first.1 next.0
    → Moves first old mid (Ok x) → Moves next mid new res → Moves (first.0 ++ more, next.1) old new res
below_moves first next more old mid new x (Ok y) says a b = λ rest h. b rest (says rest mid (a (more ++ rest) (subst (λ ts. Fits ts old) (append_assoc first.0 more rest) h)))
below_moves first next more old mid new x (Err unbuilt.Stray) says a b = λ rest h. b rest (says rest mid (a (more ++ rest) (subst (λ ts. Fits ts old) (append_assoc first.0 more rest) h)))
below_moves first next more old mid new x (Err unbuilt.Memory) says a b = tt

joined_moves : {A B : Type 0} (c : Cut) (first next : Row) (old mid new : List Frame) (x : A) (res : Result B Unbuilt) → CutSays c first.1 next.0
    → Moves first old mid (Ok x) → Moves next mid new res → AllMove (joined c first next) old new res
joined_moves (Above more) first next old mid new x res says a b = (above_moves first next more old mid new x res says a b, tt)
joined_moves (Below more) first next old mid new x res says a b = (below_moves first next more old mid new x res says a b, tt)
joined_moves Apart first next old mid new x res says a b = tt

row_then : {A B : Type 0} (r : Row) (ns : List Row) (old mid new : List Frame) (x : A) (res : Result B Unbuilt) → Moves r old mid (Ok x) → AllMove ns mid new res → AllMove (then_row r ns) old new res
row_then r [] old mid new x res a b = tt
row_then r (n ∷ ns) old mid new x res a b =
    all_append (joined (cut r.1 n.0) r n) (then_row r ns) old new res (joined_moves (cut r.1 n.0) r n old mid new x res (cut_says r.1 n.0) a b.0) (row_then r ns old mid new x res a b.1)

pub rows_then : {A B : Type 0} (rs ns : List Row) (old mid new : List Frame) (x : A) (res : Result B Unbuilt) → AllMove rs old mid (Ok x) → AllMove ns mid new res → AllMove (then_rows rs ns) old new res
rows_then [] ns old mid new x res a b = tt
rows_then (r ∷ rs) ns old mid new x res a b = all_append (then_row r ns) (then_rows rs ns) old new res (row_then r ns old mid new x res a.0 b) (rows_then rs ns old mid new x res a.1 b)

-- ---- the first step fails

joined_fails : (A B : Type 0) (c : Cut) (first next : Row) (old mid new : List Frame) (e : Unbuilt) → Moves {A = A} first old mid (Err e) → AllMove {A = B} (joined c first next) old new (Err e)
joined_fails A B (Above more) first next old mid new unbuilt.Stray a = (a, tt)
joined_fails A B (Below more) first next old mid new unbuilt.Stray a = ((λ rest h. a (more ++ rest) (subst (λ ts. Fits ts old) (append_assoc first.0 more rest) h)), tt)
joined_fails A B (Above more) first next old mid new unbuilt.Memory a = (tt, tt)
joined_fails A B (Below more) first next old mid new unbuilt.Memory a = (tt, tt)
joined_fails A B Apart first next old mid new e a = tt

row_fails : (A B : Type 0) (r : Row) (ns : List Row) (old mid new : List Frame) (e : Unbuilt) → Moves {A = A} r old mid (Err e) → AllMove {A = B} (then_row r ns) old new (Err e)
row_fails A B r [] old mid new e a = tt
row_fails A B r (n ∷ ns) old mid new e a =
    all_append {A = B} (joined (cut r.1 n.0) r n) (then_row r ns) old new (Err e) (joined_fails A B (cut r.1 n.0) r n old mid new e a) (row_fails A B r ns old mid new e a)

pub rows_fail : (A B : Type 0) (rs ns : List Row) (old mid new : List Frame) (e : Unbuilt) → AllMove {A = A} rs old mid (Err e) → AllMove {A = B} (then_rows rs ns) old new (Err e)
rows_fail A B [] ns old mid new e a = tt
rows_fail A B (r ∷ rs) ns old mid new e a = all_append {A = B} (then_row r ns) (then_rows rs ns) old new (Err e) (row_fails A B r ns old mid new e a.0) (rows_fail A B rs ns old mid new e a.1)

pub fails_first : {B : Type 0} (A : Type 0) (rs ns : List Row) (old mid new : List Frame) (e : Unbuilt) (res : Result B Unbuilt) → res ≡ Err e → AllMove {A = A} rs old mid (Err e) → AllMove (then_rows rs ns) old new res
fails_first {B} A rs ns old mid new e res is a = subst (λ r. AllMove {A = B} (then_rows rs ns) old new r) (sym is) (rows_fail A B rs ns old mid new e a)
