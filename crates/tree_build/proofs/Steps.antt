-- How frames read on.
use Rattle.std.specs.Prelude.{◌≡◌, ℕ, List, [], ◌∷◌, Result, Ok, Err}
use Rattle.std.proofs.Common.{refl, sym, ◌∙◌, ap, subst}
use Rattle.tree_build.specs.Frame.{Frame}
use Rattle.tree_build.specs.declared.unbuilt.Unbuilt.{Unbuilt}
use Rattle.tree_build.specs.Heard.{Heard}
use Rattle.tree_build.specs.Frames.{Hears, Keeps, HearsIn, KeepsIn, Grows, Stays, GrowsIn, StaysIn, Stands}
use Rattle.tree_build.specs.Reads.{Reads}

-- equal frames hear the same
hears_at : (script : List ℕ) (old old' new new' : List Frame) (h : Heard) → old ≡ old' → new ≡ new' → HearsIn script h old' new' → HearsIn script h old new
hears_at script old old' new new' h o n hears from to st = subst (λ fs. Stands script from fs to) (sym n) (hears from to (subst (λ fs. Stands script from fs (h ∷ to)) o st))

keeps_at : (script : List ℕ) (old old' new new' : List Frame) → old ≡ old' → new ≡ new' → KeepsIn script old' new' → KeepsIn script old new
keeps_at script old old' new new' o n keeps from to st = subst (λ fs. Stands script from fs to) (sym n) (keeps from to (subst (λ fs. Stands script from fs to) o st))

-- ---- with a token or a mark, where the script's bytes are looked at

-- the frame on top goes on
pub step_on_in : (script : List ℕ) (h : Heard) (f f' : Frame) (old rest new : List Frame) → ((p q : List Heard) → Reads script p (h ∷ q) f → Reads script p q f')
    → old ≡ f ∷ rest → new ≡ f' ∷ rest → HearsIn script h old new
step_on_in script h f f' old rest new step o n = hears_at script old (f ∷ rest) new (f' ∷ rest) h o n (λ from to st. (st.0, st.1, step st.0 to st.2))

-- the frame on top is closed into that below it
pub step_close_in : (script : List ℕ) (h : Heard) (f g f' : Frame) (old s1 s2 new : List Frame) → ((p r q : List Heard) → Reads script p r f → Reads script r (h ∷ q) g → Reads script p q f')
    → old ≡ g ∷ s1 → s1 ≡ f ∷ s2 → new ≡ f' ∷ s2 → HearsIn script h old new
step_close_in script h f g f' old s1 s2 new step o o' n = hears_at script old (g ∷ f ∷ s2) new (f' ∷ s2) h (o ∙ ap (λ fs. g ∷ fs) o') n
    (λ from to st. (st.1.0, st.1.1, step st.1.0 st.0 to st.1.2 st.2))

-- the same without one
pub step_fold_in : (script : List ℕ) (f g f' : Frame) (old s1 s2 new : List Frame) → ((p r q : List Heard) → Reads script p r f → Reads script r q g → Reads script p q f')
    → old ≡ g ∷ s1 → s1 ≡ f ∷ s2 → new ≡ f' ∷ s2 → KeepsIn script old new
step_fold_in script f g f' old s1 s2 new step o o' n = keeps_at script old (g ∷ f ∷ s2) new (f' ∷ s2) (o ∙ ap (λ fs. g ∷ fs) o') n
    (λ from to st. (st.1.0, st.1.1, step st.1.0 st.0 to st.1.2 st.2))

-- ---- with a token or a mark

pub step_on : (h : Heard) (f f' : Frame) (old rest new : List Frame) → ((script : List ℕ) (p q : List Heard) → Reads script p (h ∷ q) f → Reads script p q f')
    → old ≡ f ∷ rest → new ≡ f' ∷ rest → Hears h old new
step_on h f f' old rest new step o n script = step_on_in script h f f' old rest new (step script) o n

-- a frame is opened
pub step_open : (h : Heard) (f : Frame) (old new : List Frame) → ((script : List ℕ) (q : List Heard) → Reads script (h ∷ q) q f) → new ≡ f ∷ old → Hears h old new
step_open h f old new step n script = hears_at script old old new (f ∷ old) h refl n (λ from to st. (h ∷ to, st, step script to))

pub step_close : (h : Heard) (f g f' : Frame) (old s1 s2 new : List Frame) → ((script : List ℕ) (p r q : List Heard) → Reads script p r f → Reads script r (h ∷ q) g → Reads script p q f')
    → old ≡ g ∷ s1 → s1 ≡ f ∷ s2 → new ≡ f' ∷ s2 → Hears h old new
step_close h f g f' old s1 s2 new step o o' n script = step_close_in script h f g f' old s1 s2 new (step script) o o' n

-- the two on top are closed into that below them
pub step_close_two : (h : Heard) (f g k f' : Frame) (old s1 s2 s3 new : List Frame)
    → ((script : List ℕ) (p r t q : List Heard) → Reads script p r f → Reads script r t g → Reads script t (h ∷ q) k → Reads script p q f')
    → old ≡ k ∷ s1 → s1 ≡ g ∷ s2 → s2 ≡ f ∷ s3 → new ≡ f' ∷ s3 → Hears h old new
step_close_two h f g k f' old s1 s2 s3 new step o o' o'' n script =
    hears_at script old (k ∷ g ∷ f ∷ s3) new (f' ∷ s3) h (o ∙ ap (λ fs. k ∷ fs) (o' ∙ ap (λ fs. g ∷ fs) o'')) n
    (λ from to st. (st.1.1.0, st.1.1.1, step script st.1.1.0 st.1.0 st.0 to st.1.1.2 st.1.2 st.2))

-- ---- without one

pub step_turn : (f f' : Frame) (old rest new : List Frame) → ((script : List ℕ) (p q : List Heard) → Reads script p q f → Reads script p q f') → old ≡ f ∷ rest → new ≡ f' ∷ rest → Keeps old new
step_turn f f' old rest new step o n script = keeps_at script old (f ∷ rest) new (f' ∷ rest) o n (λ from to st. (st.0, st.1, step script st.0 to st.2))

pub step_add : (f : Frame) (old new : List Frame) → ((script : List ℕ) (q : List Heard) → Reads script q q f) → new ≡ f ∷ old → Keeps old new
step_add f old new step n script = keeps_at script old old new (f ∷ old) refl n (λ from to st. (to, st, step script to))

pub step_fold : (f g f' : Frame) (old s1 s2 new : List Frame) → ((script : List ℕ) (p r q : List Heard) → Reads script p r f → Reads script r q g → Reads script p q f')
    → old ≡ g ∷ s1 → s1 ≡ f ∷ s2 → new ≡ f' ∷ s2 → Keeps old new
step_fold f g f' old s1 s2 new step o o' n script = step_fold_in script f g f' old s1 s2 new (step script) o o' n

-- ---- one after another

pub stays_grows : {A : Type 0} (h : Heard) (old between new : List Frame) (r : Result A Unbuilt) → Keeps old between → Grows h between new r → Grows h old new r
stays_grows h old between new (Ok a) keeps hears = λ script from to st. hears script from to (keeps script from (h ∷ to) st)
stays_grows h old between new (Err e) keeps hears = hears

pub grows_stays : {A : Type 0} (h : Heard) (old between new : List Frame) (r : Result A Unbuilt) → Hears h old between → Stays between new r → Grows h old new r
grows_stays h old between new (Ok a) hears keeps = λ script from to st. keeps script from to (hears script from to st)
grows_stays h old between new (Err e) hears keeps = keeps

pub stays_stays : {A : Type 0} (old between new : List Frame) (r : Result A Unbuilt) → Keeps old between → Stays between new r → Stays old new r
stays_stays old between new (Ok a) first then = λ script from to st. then script from to (first script from to st)
stays_stays old between new (Err e) first then = then

pub nothing_stays : (fs : List Frame) → Keeps fs fs
nothing_stays fs script from to st = st

-- ---- where the script's bytes are looked at

pub grows_in : {A : Type 0} (script : List ℕ) (h : Heard) (old new : List Frame) (r : Result A Unbuilt) → Grows h old new r → GrowsIn script h old new r
grows_in script h old new (Ok a) hears = λ from to st. hears script from to st
grows_in script h old new (Err e) hears = hears

pub stays_in : {A : Type 0} (script : List ℕ) (old new : List Frame) (r : Result A Unbuilt) → Stays old new r → StaysIn script old new r
stays_in script old new (Ok a) keeps = λ from to st. keeps script from to st
stays_in script old new (Err e) keeps = keeps

pub nothing_stays_in : (script : List ℕ) (fs : List Frame) → KeepsIn script fs fs
nothing_stays_in script fs from to st = st

pub stays_stays_in : {A : Type 0} (script : List ℕ) (old between new : List Frame) (r : Result A Unbuilt) → Keeps old between → Stays between new r → StaysIn script old new r
stays_stays_in script old between new r first then = stays_in script old new r (stays_stays old between new r first then)

pub stays_grows_in : {A : Type 0} (script : List ℕ) (h : Heard) (old between new : List Frame) (r : Result A Unbuilt) → KeepsIn script old between → Grows h between new r → GrowsIn script h old new r
stays_grows_in script h old between new (Ok a) keeps hears = λ from to st. hears script from to (keeps from (h ∷ to) st)
stays_grows_in script h old between new (Err e) keeps hears = hears

pub stays_in_grows_in : {A : Type 0} (script : List ℕ) (h : Heard) (old between new : List Frame) (r : Result A Unbuilt) → KeepsIn script old between → GrowsIn script h between new r → GrowsIn script h old new r
stays_in_grows_in script h old between new (Ok a) keeps hears = λ from to st. hears from to (keeps from (h ∷ to) st)
stays_in_grows_in script h old between new (Err e) keeps hears = hears

pub grows_stays_in : {A : Type 0} (script : List ℕ) (h : Heard) (old between new : List Frame) (r : Result A Unbuilt) → Hears h old between → StaysIn script between new r → GrowsIn script h old new r
grows_stays_in script h old between new (Ok a) hears keeps = λ from to st. keeps from to (hears script from to st)
grows_stays_in script h old between new (Err e) hears keeps = keeps

pub grows_in_stays : {A : Type 0} (script : List ℕ) (h : Heard) (old between new : List Frame) (r : Result A Unbuilt) → HearsIn script h old between → Stays between new r → GrowsIn script h old new r
grows_in_stays script h old between new (Ok a) hears keeps = λ from to st. keeps script from to (hears from to st)
grows_in_stays script h old between new (Err e) hears keeps = keeps
