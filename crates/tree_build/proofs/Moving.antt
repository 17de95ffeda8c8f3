-- What steps do to the tags of frames.
use Rattle.std.specs.Prelude.{◌≡◌, List, [], ◌∷◌, ◌++◌, Result, Ok, Err}
use Rattle.std.proofs.Common.{refl, sym, ◌∙◌, ap, subst, append_assoc}
use Rattle.tree_build.specs.Fits.{Fits, Is, Moves}
use Rattle.tree_build.specs.Frame.{Frame}
use Rattle.tree_build.specs.declared.unbuilt.Unbuilt.{Unbuilt}
use Rattle.tree_build.specs.declared.unbuilt.Unbuilt.TheVariants as unbuilt
use Rattle.tree_moves.specs.Moves.{Row}
use Rattle.tree_moves.specs.Tags.{Tag}

pub fits_at : (ts : List Tag) (fs gs : List Frame) → fs ≡ gs → Fits ts fs → Fits ts gs
fits_at ts fs gs e = subst (Fits ts) e

-- ---- what a step does where it succeeds

-- a frame comes on top
pub opens_frame : (t : Tag) (k : Frame) (old new : List Frame) → Is t k → new ≡ k ∷ old → (rest : List Tag) → Fits rest old → Fits (t ∷ rest) new
opens_frame t k old new is n rest h = fits_at (t ∷ rest) (k ∷ old) new (sym n) (is, h)

-- the frame on top goes on
pub one_for_one : (a t : Tag) (f k : Frame) (old s new : List Frame) → (Is a f → Is t k) → old ≡ f ∷ s → new ≡ k ∷ s → (rest : List Tag) → Fits (a ∷ rest) old → Fits (t ∷ rest) new
one_for_one a t f k old s new is o n rest h =
    let fits : Fits (a ∷ rest) (f ∷ s) = fits_at (a ∷ rest) old (f ∷ s) o h in
    fits_at (t ∷ rest) (k ∷ s) new (sym n) (is fits.0, fits.1)

-- two frames become one
pub two_for_one : (a b t : Tag) (f g k : Frame) (old s1 s2 new : List Frame) → (Is a f → Is b g → Is t k) → old ≡ f ∷ s1 → s1 ≡ g ∷ s2 → new ≡ k ∷ s2
    → (rest : List Tag) → Fits (a ∷ b ∷ rest) old → Fits (t ∷ rest) new
two_for_one a b t f g k old s1 s2 new is o o' n rest h =
    let fits : Fits (a ∷ b ∷ rest) (f ∷ g ∷ s2) = fits_at (a ∷ b ∷ rest) old (f ∷ g ∷ s2) (o ∙ ap (λ fs. f ∷ fs) o') h in
    fits_at (t ∷ rest) (k ∷ s2) new (sym n) (is fits.0 fits.1.0, fits.1.1)

-- three frames become one
pub three_for_one : (a b c t : Tag) (f g j k : Frame) (old s1 s2 s3 new : List Frame) → (Is a f → Is b g → Is c j → Is t k) → old ≡ f ∷ s1 → s1 ≡ g ∷ s2 → s2 ≡ j ∷ s3 → new ≡ k ∷ s3
    → (rest : List Tag) → Fits (a ∷ b ∷ c ∷ rest) old → Fits (t ∷ rest) new
three_for_one a b c t f g j k old s1 s2 s3 new is o o' o'' n rest h =
    let fits : Fits (a ∷ b ∷ c ∷ rest) (f ∷ g ∷ j ∷ s3) = fits_at (a ∷ b ∷ c ∷ rest) old (f ∷ g ∷ j ∷ s3) (o ∙ ap (λ fs. f ∷ fs) (o' ∙ ap (λ fs. g ∷ fs) o'')) h in
    fits_at (t ∷ rest) (k ∷ s3) new (sym n) (is fits.0 fits.1.0 fits.1.1.0, fits.1.1.1)

-- ---- one step behind another

-- a step that fails, where more stands below
pub fails_over : (A B : Type 0) (a b c more : List Tag) (old new new' : List Frame) (e : Unbuilt) → Moves {A = A} (a, b) old new (Err e) → Moves {A = B} (a ++ more, c) old new' (Err e)
fails_over A B a b c more old new new' unbuilt.Stray h = λ rest fits. h (more ++ rest) (subst (λ ts. Fits ts old) (append_assoc a more rest) fits)
fails_over A B a b c more old new new' unbuilt.Memory h = tt

-- a step over more than it looks at
pub moves_over : {A : Type 0} (a b more : List Tag) (old new : List Frame) (r : Result A Unbuilt) → Moves (a, b) old new r → Moves (a ++ more, b ++ more) old new r
moves_over a b more old new (Ok x) h = λ rest fits.
    subst (λ ts. Fits ts new) (sym (append_assoc b more rest)) (h (more ++ rest) (subst (λ ts. Fits ts old) (append_assoc a more rest) fits))
moves_over a b more old new (Err unbuilt.Stray) h = λ rest fits. h (more ++ rest) (subst (λ ts. Fits ts old) (append_assoc a more rest) fits)
moves_over a b more old new (Err unbuilt.Memory) h = tt

-- two steps, the first of which succeeds
pub then_moves : {A B : Type 0} (a b c : List Tag) (old between new : List Frame) (x : A) (r : Result B Unbuilt) → Moves (a, b) old between (Ok x) → Moves (b, c) between new r → Moves (a, c) old new r
then_moves a b c old between new x (Ok y) first second = λ rest fits. second rest (first rest fits)
then_moves a b c old between new x (Err unbuilt.Stray) first second = λ rest fits. second rest (first rest fits)
then_moves a b c old between new x (Err unbuilt.Memory) first second = tt

-- the second comes on top
pub then_opens : {A B : Type 0} (a b top : List Tag) (old between new : List Frame) (x : A) (r : Result B Unbuilt) → Moves (a, b) old between (Ok x) → Moves ([], top) between new r → Moves (a, top ++ b) old new r
then_opens a b top old between new x (Ok y) first second = λ rest fits. subst (λ ts. Fits ts new) (sym (append_assoc top b rest)) (second (b ++ rest) (first rest fits))
then_opens a b top old between new x (Err unbuilt.Stray) first second = λ rest fits. second (b ++ rest) (first rest fits)
then_opens a b top old between new x (Err unbuilt.Memory) first second = tt

-- ---- rows that do not fit

-- a row that fits no frames is followed by any step
pub never_fits : {A : Type 0} (r : Row) (old new : List Frame) (res : Result A Unbuilt) → ((rest : List Tag) → Fits (r.0 ++ rest) old → ⊥) → Moves r old new res
never_fits r old new (Ok a) never = λ rest fits. absurd (never rest fits)
never_fits r old new (Err unbuilt.Stray) never = never
never_fits r old new (Err unbuilt.Memory) never = tt
