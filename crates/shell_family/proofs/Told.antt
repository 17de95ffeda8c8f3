-- Transcripts that grow by one entry.
use Rattle.std.proofs.Common.{◌≡◌, ◌≢◌, ℕ, ◌+◌, ◌⊎◌, inl, inr, List, [], ◌∷◌, ◌++◌, map, All, Option, Some, None, refl, ap, sym, ◌∙◌, arith, append_assoc, subst, Bool}
use Rattle.std.proofs.lemmas.List.Elements.{All-push, All-weaker, All-head, All-tail, All-cons, All-nil}
use Rattle.std.specs.Prelude.{is_some, eqb, cond}
use Rattle.kernel_ask.specs.Seen.{more, emptied}
use Rattle.kernel_ask.specs.declared.ask.Answer.{Answer}
use Rattle.kernel_ask.specs.declared.ask.Answer.TheVariants.{Forked as SaysForked, Begun as SaysBegun, NoThread}
use Rattle.kernel_ask.specs.declared.ask.Ask.{Ask}
use Rattle.kernel_ask.specs.declared.ask.Ask.TheVariants.{Asked, Fork, Begin, WaitShell}
use Rattle.kernel_ask.specs.declared.ask.Handle.{Handle}
use Rattle.kernel_ask.specs.declared.ask.Phase.{Phase}
use Rattle.kernel_ask.specs.declared.ask.Entry.{Entry}
use Rattle.shell_thread.specs.Kept.{with}
use Rattle.shell_family.specs.Told.{ForTold, Has, Saw, In, Starts, StartsForked, Follows, ForksStart, fork_of, forks_in, at_child, is_settled, no_threads, no_threads_in, is_unstarted}
use Rattle.shell_family.proofs.Counts.{in_more, in_end, in_split}

module _ {F : Type 0} where
  told_same : (d : Option (List (Entry F))) (x : Ask F) (y : Answer) → is_some (more d x y) ≡ is_some d
  told_same None x y = refl
  told_same (Some es) x y = refl

  -- one entry more leaves the world and whether it is told
  pub from_more : (o : ℕ) (d : Option (List (Entry F))) (x : Ask F) (y : Answer) → ◌≡◌ {A = ℕ × Bool} (o, is_some (more d x y)) (o, is_some d)
  from_more o d x y = ap (λ (b : Bool). (o, b)) (told_same d x y)

  emptied_same : (d : Option (List (Entry F))) → is_some (emptied d) ≡ is_some d
  emptied_same None = refl
  emptied_same (Some es) = refl

  pub from_emptied : (o : ℕ) (d : Option (List (Entry F))) → ◌≡◌ {A = ℕ × Bool} (o, is_some (emptied d)) (o, is_some d)
  from_emptied o d = ap (λ (b : Bool). (o, b)) (emptied_same d)

  pub has_more : (d : Option (List (Entry F))) (a x : Ask F) (b y : Answer) → Has d a b → Has (more d x y) a b
  has_more None a x b y h = tt
  has_more (Some es) a x b y h = in_more _ es _ h

  pub has_last : (d : Option (List (Entry F))) (a : Ask F) (b : Answer) → Has (more d a b) a b
  has_last None a b = tt
  has_last (Some es) a b = in_end _ es

  pub saw_more : (d : Option (List (Entry F))) (a x : Ask F) (b y : Answer) → Saw (more d x y) a b → Saw d a b ⊎ ((a ≡ x) × (b ≡ y))
  saw_more None a x b y h = inl h
  saw_more (Some es) a x b y h =
      elim (in_split _ _ es h) [ inl p ↦ inl p | inr e ↦ inr (ap (λ (z : Entry F). z.ask) e, ap (λ (z : Entry F). z.answer) e) ]

  -- an entry of a transcript that was two entries shorter
  pub has_saw : (d : Option (List (Entry F))) (x y a a' : Ask F) (b c v v' : Answer) → Saw (more (more d x b) y c) a v → Has d a' v' → Saw d a' v'
  has_saw None x y a a' b c v v' z h = absurd z
  has_saw (Some es) x y a a' b c v v' z h = h

  follows_join : (x : Ask F) (y : Answer) (es fs : List (Entry F)) → Follows x y es → Follows x y (es ++ fs)
  follows_join (Asked c) y es fs h = tt
  follows_join (Begin k) y es fs h = tt
  follows_join (WaitShell k) y es fs h = tt
  follows_join (Fork s keep) y es fs h = forked y es h
    where
      starts : (k : ℕ) (es : List (Entry F)) → Starts k es → Starts k (es ++ fs)
      starts k [] h = absurd h
      starts k (e ∷ es) h = h

      forked : (y : Answer) (es : List (Entry F)) → StartsForked y es → StartsForked y (es ++ fs)
      forked (SaysForked k) es h = starts k es h
      forked _ es h = tt

  starts_join : (es fs : List (Entry F)) → ForksStart es → ForksStart fs → ForksStart (es ++ fs)
  starts_join [] fs h g = g
  starts_join (e ∷ es) fs h g = (follows_join e.ask e.answer es fs h.0, starts_join es fs h.1 g)

  pub starts_more : (d : Option (List (Entry F))) (x : Ask F) (y : Answer) → Follows x y [] → ForTold d ForksStart → ForTold (more d x y) ForksStart
  starts_more None x y q h = tt
  starts_more (Some es) x y q h = starts_join es (record { ask = x; answer = y } ∷ []) h (q, tt)

  -- a fork, and its start at once
  pub starts_forked :
      (d : Option (List (Entry F))) (start : F) (keep : List Handle) (k : ℕ) (y : Answer) → (y ≡ SaysBegun) ⊎ (y ≡ NoThread)
      → ForTold d ForksStart → ForTold (more (more d (Fork start keep) (SaysForked k)) (Begin k) y) ForksStart
  starts_forked None start keep k y says h = tt
  starts_forked (Some es) start keep k y says h =
      rw (append_assoc es (record { ask = Fork start keep; answer = SaysForked k } ∷ []) (record { ask = Begin k; answer = y } ∷ []))
      (starts_join es (record { ask = Fork start keep; answer = SaysForked k } ∷ record { ask = Begin k; answer = y } ∷ []) h ((refl, says), (tt, tt)))

  forks_end : (k : ℕ) (es : List (Entry F)) (x : Ask F) (y : Answer) → forks_in k (es ++ record { ask = x; answer = y } ∷ []) ≡ forks_in k es + fork_of k x y
  forks_end k [] x y = omega arith
  forks_end k (e ∷ es) x y = omega (arith, forks_end k es x y)

  -- an entry of no forked child, beside children of the same number
  pub forks_same :
      (d : Option (List (Entry F))) (ps qs : List Phase) (x : Ask F) (y : Answer) → ((k : ℕ) → fork_of k x y ≡ 0) → ((k : ℕ) → at_child is_settled qs k ≡ at_child is_settled ps k)
      → ForTold d (λ es. (k : ℕ) → forks_in k es ≡ at_child is_settled ps k) → ForTold (more d x y) (λ es. (k : ℕ) → forks_in k es ≡ at_child is_settled qs k)
  forks_same None ps qs x y none same h = tt
  forks_same (Some es) ps qs x y none same h = λ k. omega (arith, forks_end k es x y, none k, same k, h k)

  -- a fork and its start, beside one child more
  pub forks_forked :
      (d : Option (List (Entry F))) (ps qs : List Phase) (start : F) (keep : List Handle) (k : ℕ) (y : Answer)
      → ((j : ℕ) → at_child is_settled qs j ≡ at_child is_settled ps j + cond (eqb j k) 1 0)
      → ForTold d (λ es. (j : ℕ) → forks_in j es ≡ at_child is_settled ps j)
      → ForTold (more (more d (Fork start keep) (SaysForked k)) (Begin k) y) (λ es. (j : ℕ) → forks_in j es ≡ at_child is_settled qs j)
  forks_forked None ps qs start keep k y same h = tt
  forks_forked (Some es) ps qs start keep k y same h = λ j.
      omega (arith, forks_end j (es ++ record { ask = Fork start keep; answer = SaysForked k } ∷ []) (Begin k) y, forks_end j es (Fork start keep) (SaysForked k), same j, h j)

  none_in_end : (es : List (Entry F)) (x : Ask F) (y : Answer) → no_threads_in (es ++ record { ask = x; answer = y } ∷ []) ≡ no_threads_in es + is_unstarted x y
  none_in_end [] x y = omega arith
  none_in_end (e ∷ es) x y = omega (arith, none_in_end es x y)

  pub no_threads_same : (d : Option (List (Entry F))) (x : Ask F) (y : Answer) → is_unstarted x y ≡ 0 → no_threads (more d x y) ≡ no_threads d
  no_threads_same None x y h = refl
  no_threads_same (Some es) x y h = omega (arith, none_in_end es x y)

  pub no_threads_more : (d : Option (List (Entry F))) (x : Ask F) (y : Answer) → is_unstarted x y ≡ 1
      → (n : ℕ) × (no_threads (more d x y) ≡ no_threads d + n) × ((n ≡ 0) ⊎ (n ≡ 1))
  no_threads_more None x y h = (0, refl, inl refl)
  no_threads_more (Some es) x y h = (1, omega (arith, none_in_end es x y), inr refl)

-- what holds of each and of one more
pub told_with : {X : Type 0} (P Q : X → Type 0) (o : Option (List X)) (x : X) → ((y : X) → P y → Q y) → Q x → ForTold o (λ xs. All P xs) → ForTold (with o x) (λ xs. All Q xs)
told_with P Q None x f q h = tt
told_with P Q (Some xs) x f q h = All-push Q xs x (All-weaker P Q f xs h) q

pub told_weaker : {X : Type 0} (P Q : X → Type 0) (o : Option X) → ((x : X) → P x → Q x) → ForTold o P → ForTold o Q
told_weaker P Q None f h = tt
told_weaker P Q (Some x) f h = f x h

pub all_parts : {X : Type 0} (P : X → Type 0) (xs : List X) (x : X) (ys : List X) → All P (xs ++ x ∷ ys) → All P xs × P x × All P ys
all_parts P [] x ys h = (All-nil P, All-head P x ys h, All-tail P x ys h)
all_parts P (z ∷ xs) x ys h =
    let r = all_parts P xs x ys (All-tail P z (xs ++ x ∷ ys) h) in
    (All-cons P z xs (All-head P z (xs ++ x ∷ ys) h) r.0, r.1, r.2)
