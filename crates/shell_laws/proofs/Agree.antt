-- The proof that equal answers lead to equal asks.
use Rattle.std.proofs.Common.{◌≡◌, ℕ, zero, suc, ◌≤◌, ◌+◌, List, [], ◌∷◌, length, take, map, Option, Some, None, refl, ap, sym, ◌∙◌, subst, arith}
use Rattle.kernel_ask.specs.declared.ask.Answer.{Answer}
use Rattle.kernel_ask.specs.declared.ask.Entry.{Entry}
use Rattle.ksh_meaning.specs.Mean.{Whole, list_of, work}
use Rattle.ksh_meaning.specs.Prog.{Prog, Done, Spent as IsSpent, Asks, Fed, feed}
use Rattle.ksh_meaning.specs.Theorem.{calls, answers}
use Rattle.ksh_meaning.specs.Units.{End}
use Rattle.shell_family.specs.Meaning.{Run}
use Rattle.shell_laws.specs.Agree.{IsWhole, nth, DoesAs, SameSoFar}
use Rattle.shell_state.specs.declared.start.Start.{Start}
use Rattle.shell_thread.specs.declared.album.ShellStop.{ShellStop}
use Rattle.shell_thread.specs.declared.album.ShellStop.TheVariants.{Meant, Spent, Memory, Unrun, Before}

-- a program that isn't waiting for an answer
abbrev IsOver : {A : Type 0} → Prog A → Type 0
IsOver (Done a) = Unit {0}
IsOver IsSpent = Unit {0}
IsOver (Asks c go) = ⊥

head_of : (x y : Answer) (xs ys : List Answer) → x ∷ xs ≡ y ∷ ys → x ≡ y
head_of x y xs ys h = cc

tail_of : (x y : Answer) (xs ys : List Answer) → x ∷ xs ≡ y ∷ ys → xs ≡ ys
tail_of x y xs ys h = cc

record Same {A : Type 0} (p : Prog A) (xs ys : List Answer) (n : ℕ) : Type 0 where
  so_far : take n (feed p xs).asks ≡ take n (feed p ys).asks
  next : nth (feed p xs).asks n ≡ nth (feed p ys).asks n
  rest : n ≡ length xs → (feed p xs).rest ≡ (feed p ys).rest

ended_same : {A : Type 0} (a : A) (n : ℕ) → Same (Done a) [] [] n
unfolding feed
ended_same a n = record { so_far = refl; next = refl; rest = λ h. refl }

spent_same : {A : Type 0} (n : ℕ) → Same {A = A} IsSpent [] [] n
unfolding feed
spent_same n = record { so_far = refl; next = refl; rest = λ h. refl }

agree : {A : Type 0} (p : Prog A) (n : ℕ) (xs ys : List Answer) → (feed p xs).left ≡ [] → (feed p ys).left ≡ [] → IsOver (feed p xs).rest → IsOver (feed p ys).rest
    → n ≤ length xs → n ≤ length ys → take n xs ≡ take n ys → Same p xs ys n
unfolding feed
agree (Done a) n xs ys l m o q h k e = rw (l, m) (ended_same a n)
agree IsSpent n xs ys l m o q h k e = rw (l, m) (spent_same n)
agree (Asks c go) n [] ys l m o q h k e = absurd o
agree (Asks c go) n (x ∷ xs) [] l m o q h k e = absurd q
agree (Asks c go) zero (x ∷ xs) (y ∷ ys) l m o q h k e = record { so_far = refl; next = refl; rest = λ z. absurd (omega arith) }
agree (Asks c go) (suc n) (x ∷ xs) (y ∷ ys) l m o q h k e =
    let a : x ≡ y = head_of x y (take n xs) (take n ys) e in
    let b : take n xs ≡ take n ys = tail_of x y (take n xs) (take n ys) e in
    let m' : (feed (go x) ys).left ≡ [] = subst (λ z. (feed (go z) ys).left ≡ []) (sym a) m in
    let q' : IsOver (feed (go x) ys).rest = subst (λ z. IsOver (feed (go z) ys).rest) (sym a) q in
    let s = agree (go x) n xs ys l m' o q' (omega arith) (omega arith) b in
    rw (← a) (record { so_far = ap (λ r. c ∷ r) s.so_far; next = s.next; rest = λ z. s.rest (omega arith) })

-- what a whole run is of its program
record Ran (p : Prog End) (es : List (Entry Start)) (s : ShellStop) (v : ℕ) : Type 0 where
  asks : (feed p (answers es)).asks ≡ calls es
  left : (feed p (answers es)).left ≡ []
  over : IsOver (feed p (answers es)).rest

ran : (start : Start) (es : List (Entry Start)) (s : ShellStop) (v : ℕ) → IsWhole s → Run start es s v → Ran (list_of (work start.state.budget) start.body start.state) es s v
ran start es Meant v whole r = record { asks = ap (λ f. f.asks) r.1; left = ap (λ f. f.left) r.1; over = subst (λ f. IsOver f.rest) (sym r.1) tt }
ran start es Spent v whole r = record { asks = ap (λ f. f.asks) r.0; left = ap (λ f. f.left) r.0; over = subst (λ f. IsOver f.rest) (sym r.0) tt }
ran start es Memory v whole r = absurd whole
ran start es Unrun v whole r = absurd whole
ran start es Before v whole r = absurd whole

done_is : (a b : End) → (let p : Prog End = Done a in p ≡ Done b) → a ≡ b
done_is a b h = cc

outcomes : (start : Start) (es fs : List (Entry Start)) (s t : ShellStop) (v w : ℕ) → IsWhole s → IsWhole t → Run start es s v → Run start fs t w
    → (Whole start (answers es)).rest ≡ (Whole start (answers fs)).rest → (s ≡ t) × (v ≡ w)
outcomes start es fs Meant Meant v w a b r q e =
    let i : r.0 ≡ q.0 = done_is r.0 q.0 (sym (ap (λ f. f.rest) r.1) ∙ e ∙ ap (λ f. f.rest) q.1) in (refl, r.2 ∙ ap (λ (z : End). z.0.status) i ∙ sym q.2)
outcomes start es fs Meant Spent v w a b r q e = absurd (let i : Done r.0 ≡ IsSpent = sym (ap (λ f. f.rest) r.1) ∙ e ∙ ap (λ f. f.rest) q.0 in cc)
outcomes start es fs Spent Meant v w a b r q e = absurd (let i : IsSpent ≡ Done q.0 = sym (ap (λ f. f.rest) r.0) ∙ e ∙ ap (λ f. f.rest) q.1 in cc)
outcomes start es fs Spent Spent v w a b r q e = (refl, r.1 ∙ sym q.1)
outcomes start es fs Memory t v w a b r q e = absurd a
outcomes start es fs Unrun t v w a b r q e = absurd a
outcomes start es fs Before t v w a b r q e = absurd a
outcomes start es fs Meant Memory v w a b r q e = absurd b
outcomes start es fs Meant Unrun v w a b r q e = absurd b
outcomes start es fs Meant Before v w a b r q e = absurd b
outcomes start es fs Spent Memory v w a b r q e = absurd b
outcomes start es fs Spent Unrun v w a b r q e = absurd b
outcomes start es fs Spent Before v w a b r q e = absurd b

same_length : (es : List (Entry Start)) → length (answers es) ≡ length es
same_length [] = refl
same_length (e ∷ es) = ap (λ n. suc n) (same_length es)

pub same_so_far : SameSoFar
same_so_far start es fs s t v w n whole whole' r q h k e =
    let a = ran start es s v whole r in
    let b = ran start fs t w whole' q in
    let le : n ≤ length (answers es) = rw (same_length es) h in
    let le' : n ≤ length (answers fs) = rw (same_length fs) k in
    let m = agree (list_of (work start.state.budget) start.body start.state) n (answers es) (answers fs) a.left b.left a.over b.over le le' e in
    record {
      so_far = sym (ap (take n) a.asks) ∙ m.so_far ∙ ap (take n) b.asks;
      next = sym (ap (λ l. nth l n) a.asks) ∙ m.next ∙ ap (λ l. nth l n) b.asks;
      outcome = λ z. outcomes start es fs s t v w whole whole' r q (m.rest (z ∙ sym (same_length es)));
    }
