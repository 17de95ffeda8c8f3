-- Loops: what is left of a program, once a transcript has come so far.
use Rattle.std.specs.Prelude.{◌≡◌, ℕ, suc, ◌≤◌, List, [], ◌∷◌, refl, Result, Ok, Err}
use Rattle.std.proofs.Common.{get_or, drop, length, ◌+◌, ◌<◌, ap, add-one, drop-cons, subst, sym, arith}
use Rattle.ksh_meaning.specs.Prog.{Prog, Done, Spent, and_then}
use Rattle.ksh_meaning.specs.Finished.{Done_so_far, Finished, Means}
use Rattle.ksh_meaning.specs.Laws.{means_then, means_stop, means_done}
use Rattle.shell_state.specs.declared.state.Stop.{Stop}
use Rattle.shell_state.specs.declared.state.ShellState.{ShellState}
use Rattle.std.proofs.Math.Nat.{le_refl}
use Rattle.std.proofs.Math.ListN.{drop_of_length-le}
use Rattle.shell_state.specs.declared.state.Flow.{Flow}
use Rattle.shell_state.specs.declared.state.Flow.TheVariants.{Next, Exit}
use Rattle.ksh_script.specs.declared.tree.Item.{Item}
use Rattle.ksh_meaning.specs.Units.{End, ends}
use Rattle.ksh_meaning.specs.Faults.{goes_on}
use Rattle.ksh_meaning.specs.Mean.{work, list_of}

-- whatever q does from y on, p does from x on
pub record Remains {A : Type 0} (b c : ℕ) (x y : Done_so_far) (p q : ℕ → Prog A) : Type 0 where
  pub rest : (z : Done_so_far) (r : Result A Stop) → Means c y z q r → Means b x z p r

pub remains_all : {A : Type 0} (b : ℕ) (x : Done_so_far) (p : ℕ → Prog A) → Remains b b x x p p
remains_all b x p = record { rest = λ z r m. m }

-- one part was done
pub remains_on : {A B : Type 0} {b c d : ℕ} {x y z : Done_so_far} {p : ℕ → Prog B} (q : ℕ → Prog A) (k : ℕ → A → Prog B) {a : A} → d ≤ c → Remains b c x y p (λ n. and_then (q n) (k n)) → Means c y z q (Ok a) → Remains b d x z p (λ n. k n a)
remains_on q k le h m = record { rest = λ w r l. h.rest w r (means_then q k le m l) }

-- the last part ended the whole
pub remains_stop : {A B : Type 0} {b c : ℕ} {x y z : Done_so_far} {p : ℕ → Prog B} (q : ℕ → Prog A) (k : ℕ → A → Prog B) {e : Stop} → Remains b c x y p (λ n. and_then (q n) (k n)) → Means c y z q (Err e) → Means b x z p (Err e)
remains_stop {z} q k {e} h m = h.rest z (Err e) (means_stop q k m)

along_at : {A : Type 0} (x y : Done_so_far) (p q : Prog A) (r : Result A Stop) → p ≡ q → Finished x y p r → Finished x y q r
along_at x y p q r e h = subst (λ p. Finished x y p r) e h

pub means_along : {A : Type 0} {b : ℕ} {x y : Done_so_far} {p q : ℕ → Prog A} {r : Result A Stop} → ((n : ℕ) → p n ≡ q n) → Means b x y p r → Means b x y q r
means_along {x} {y} {p} {q} {r} e m = record { at = λ n h. along_at x y (p n) (q n) r (e n) (m.at n h) }

pub remains_along : {A : Type 0} {b c : ℕ} {x y : Done_so_far} {p q q' : ℕ → Prog A} → ((n : ℕ) → q n ≡ q' n) → Remains b c x y p q → Remains b c x y p q'
remains_along e h = record { rest = λ z r m. h.rest z r (means_along (λ n. sym (e n)) m) }

-- ---- the loop over a list

module _ {b c : ℕ} {x y : Done_so_far} {p : ℕ → Prog End} (list : List Item) (i : ℕ) (item : Item) (s : ShellState) where
  pub list_step : item ≡ get_or list i item → i < length list → Remains b c x y p (λ n. list_of (work n) (drop i list) s) → Remains b c x y p (λ n. and_then (work n item s) (goes_on (list_of (work n) (drop (i + 1) list))))
  list_step e lt h =
      let f : drop i list ≡ item ∷ drop (i + 1) list = rw (add-one, drop-cons list i item) (ap (λ v. v ∷ drop (suc i) list) (sym e)) in
      remains_along (λ n. ap (λ l. list_of (work n) l s) f) h

pub leaves : (rest : ShellState → Prog End) (s : ShellState) (flow : Flow) → (flow ≡ Next → ⊥) → goes_on rest (s, flow) ≡ ends s flow
leaves rest s Next h = absurd (h refl)
leaves rest s Exit h = refl

pub list_left : {b c : ℕ} {x y z : Done_so_far} {p : ℕ → Prog End} (q : ℕ → Prog End) (rest : ℕ → ShellState → Prog End) (s : ShellState) (flow : Flow) → (flow ≡ Next → ⊥) → Remains b c x y p (λ n. and_then (q n) (goes_on (rest n))) → Means c y z q (Ok (s, flow)) → Means b x z p (Ok (s, flow))
list_left {c} {z} q rest s flow isnt h m = h.rest z (Ok (s, flow)) (means_then q (λ n. goes_on (rest n)) (le_refl c) m (means_along (λ n. sym (leaves (rest n) s flow isnt)) (means_done c z (s, flow))))

pub list_end : {b c : ℕ} {x y : Done_so_far} {p : ℕ → Prog End} (list : List Item) (i : ℕ) (s : ShellState) → length list ≤ i → Remains b c x y p (λ n. list_of (work n) (drop i list) s) → Means b x y p (Ok (s, Next))
list_end {c} {y} list i s le h = h.rest y (Ok (s, Next)) (means_along (λ n. sym (ap (λ l. list_of (work n) l s) (drop_of_length-le list le))) (means_done c y (s, Next)))
