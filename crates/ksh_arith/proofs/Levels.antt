-- The grammar, a step of the code at a time.
use Rattle.std.proofs.Math.Nat.{suc-ne-zero, eq-or-lt_of_le}
use Rattle.std.proofs.Math.Logic.{◌⊎◌, inl, inr}
use Rattle.std.proofs.Common.{◌≡◌, ◌∙◌, add-one, ap, refl, arith, ℕ, zero, suc, ◌+◌, ◌-◌, ◌<◌, ◌≤◌, ◌==◌, max, sym, Bool, true, false, nat_le, List, [], ◌∷◌, ◌++◌, length, drop, Some, None, Ok, Err}
use Rattle.arith_tree.specs.declared.expr.ArithLink.{ArithLink}
use Rattle.arith_tree.specs.declared.expr.ChainOp.{ChainOp}
use Rattle.ksh_arith.specs.declared.fault.ArithRefused.{ArithRefused}
use Rattle.ksh_arith.specs.declared.fault.ArithRefused.TheVariants as refused
use Rattle.ksh_arith.specs.declared.part.Part.{Part}
use Rattle.ksh_arith.specs.declared.part.Part.TheVariants as piece
use Rattle.ksh_arith.specs.Grammar.{Fails, Reads, Reader, then_read, is_blank, skipped, operator_at, assigning, read_by, at_level, signed, behind, power_behind, choice_behind, assign_behind, links_read, linked, chain_read, joins, height_of}
use Rattle.ksh_arith.specs.LevelAt.{level_at}
use Rattle.ksh_arith.proofs.Operators.{same, no_power, no_operator, no_choice, no_assign, no_comma}
use Rattle.std.proofs.lemmas.Bool.Decides.{nat_tests}

less_one : (n : ℕ) → suc n - 1 ≡ n
less_one n = omega arith

-- what fails first fails the whole
pub stops : {A B : Type 0} (e : ArithRefused) (x : Reads A) (k : A → List ℕ → Reads B) → Fails e x → Fails e (then_read x k)
stops refused.Memory x k h = tt
stops (refused.Bad at) x k h = ap (λ y. then_read y k) h
stops (refused.TooDeep at) x k h = ap (λ y. then_read y k) h

pub read_none : (levels level : ℕ) (text : List ℕ) → levels ≡ 0 → read_by levels level text ≡ Err (refused.TooDeep (length text))
unfolding read_by
read_none zero level text e = refl
read_none (suc d) level text e = absurd (suc-ne-zero d e)

skipped_by : (b : ℕ) (bs : List ℕ) (t : Bool) → is_blank b ≡ t → skipped (skipped bs) ≡ skipped bs → skipped (skipped (b ∷ bs)) ≡ skipped (b ∷ bs)
unfolding skipped
skipped_by b bs true e same = rw e same
skipped_by b bs false e same = rw e (rw e refl)

pub skipped_twice : (text : List ℕ) → skipped (skipped text) ≡ skipped text
unfolding skipped
skipped_twice [] = refl
skipped_twice (b ∷ bs) = skipped_by b bs (is_blank b) refl (skipped_twice bs)

module _ (d : ℕ) (below : ℕ → Reader) (level tighter : ℕ) (first : Part) (links : List ArithLink) (height : ℕ) (rest : List ℕ) where
  pub links_zero : (left : ℕ) → left ≡ 0 → links_read d below left level tighter first links height rest ≡ chain_read first links height rest
  unfolding links_read
  links_zero zero e = refl
  links_zero (suc n) e = absurd (suc-ne-zero n e)

  pub links_none : (left : ℕ) → 0 < left → operator_at level (skipped rest) ≡ None → links_read d below left level tighter first links height rest ≡ chain_read first links height (skipped rest)
  unfolding links_read
  links_none zero some e = absurd (let f : ⊥ = omega (arith, some) in f)
  links_none (suc n) some e = ap (λ o. linked d below tighter (links_read d below n level tighter first) first links height o (skipped rest)) e

  pub links_deep : (left : ℕ) (o : ChainOp × ℕ) → 0 < left → operator_at level (skipped rest) ≡ Some o → nat_le d height ≡ true → links_read d below left level tighter first links height rest ≡ Err (refused.TooDeep (length (skipped rest)))
  unfolding links_read
  links_deep zero o some e t = absurd (let f : ⊥ = omega (arith, some) in f)
  links_deep (suc n) o some e t = ap (λ x. linked d below tighter (links_read d below n level tighter first) first links height x (skipped rest)) e ∙ rw t refl

  pub links_stop : (left : ℕ) (o : ChainOp × ℕ) (e : ArithRefused) → 0 < left → operator_at level (skipped rest) ≡ Some o → nat_le d height ≡ false → Fails e (below tighter (drop o.1 (skipped rest))) → Fails e (links_read d below left level tighter first links height rest)
  unfolding links_read
  links_stop zero o e some is t h = absurd (let f : ⊥ = omega (arith, some) in f)
  links_stop (suc n) o e some is t h = rw (is, t) (stops e (below tighter (drop o.1 (skipped rest))) (λ q more. links_read d below n level tighter first (links ++ joins o.0 q ∷ []) (max height (height_of q)) more) h)

  pub links_more : (left : ℕ) (o : ChainOp × ℕ) (q : Part) (more : List ℕ) → 0 < left → operator_at level (skipped rest) ≡ Some o → nat_le d height ≡ false → below tighter (drop o.1 (skipped rest)) ≡ Ok (q, more)
      → links_read d below left level tighter first links height rest ≡ links_read d below (left - 1) level tighter first (links ++ joins o.0 q ∷ []) (max height (height_of q)) more
  unfolding links_read
  links_more zero o q more some is t h = absurd (let f : ⊥ = omega (arith, some) in f)
  links_more (suc n) o q more some is t h = rw (is, t, h, less_one n) refl

assign_by : (d : ℕ) (below : ℕ → Reader) (text : List ℕ) (p : Part) → assigning text ≡ None → assign_behind d below p text ≡ Ok (p, text)
assign_by d below text (piece.Variable path height) none = rw none refl
assign_by d below text (piece.Other e height) none = refl

-- a level adds nothing where another goes on
module _ (d : ℕ) (below : ℕ → Reader) (p : Part) (text : List ℕ) (plain : skipped text ≡ text) where
  links_idle : (level tighter left : ℕ) → operator_at level text ≡ None → links_read d below left level tighter p [] (height_of p) text ≡ Ok (p, text)
  unfolding links_read
  links_idle level tighter zero none = refl
  links_idle level tighter (suc n) none = rw (plain, none) refl

  assign_idle : assigning text ≡ None → assign_behind d below p text ≡ Ok (p, text)
  assign_idle none = assign_by d below text p none

  idle_by : (n : ℕ) (t0 t10 t11 t12 : Bool) → (n == 0) ≡ t0 → nat_le n 10 ≡ t10 → (n == 11) ≡ t11 → (n == 12) ≡ t12 → n ≤ 13 → (n ≡ level_at text → ⊥) → behind d below n p text ≡ Ok (p, text)
  unfolding behind power_behind choice_behind
  idle_by n true t10 t11 t12 e0 e10 e11 e12 few apart = rw (e0, no_power text (rw (same n 0 e0) at apart)) refl
  idle_by n false true t11 t12 e0 e10 e11 e12 few apart =
      let within : n - 1 ≤ 9 = grind (arith, nat_tests) in
      let next : n - 1 + 1 ≡ n = grind (arith, nat_tests) in
      rw (e0, e10) (links_idle (n - 1) n (length text) (no_operator (n - 1) text within (λ e. apart (sym next ∙ e))))
  idle_by n false false true t12 e0 e10 e11 e12 few apart = rw (e0, e10, e11, no_choice text (rw (same n 11 e11) at apart)) refl
  idle_by n false false false true e0 e10 e11 e12 few apart = rw (e0, e10, e11, e12) (assign_idle (no_assign text (rw (same n 12 e12) at apart)))
  idle_by n false false false false e0 e10 e11 e12 few apart =
      let last : n ≡ 13 = grind (arith, nat_tests) in
      rw (e0, e10, e11, e12) (links_idle 10 13 (length text) (no_comma text (rw last at apart)))

  pub idle : (n : ℕ) → n ≤ 13 → (n ≡ level_at text → ⊥) → behind d below n p text ≡ Ok (p, text)
  idle n few apart = idle_by n (n == 0) (nat_le n 10) (n == 11) (n == 12) refl refl refl refl few apart

module _ (d : ℕ) (below : ℕ → Reader) (text : List ℕ) where
  -- what was read up to a level, and then what that level adds
  raised : (n : ℕ) (p : Part) (rest : List ℕ) → at_level d below n text ≡ Ok (p, rest) → at_level d below (suc n) text ≡ behind d below n p (skipped rest)
  unfolding at_level
  raised n p rest h = ap (λ r. then_read r (λ p rest. behind d below n p (skipped rest))) h

  -- levels that add nothing are passed over
  passed : (k n : ℕ) (p : Part) (rest : List ℕ) → at_level d below n text ≡ Ok (p, rest) → n + k ≤ 13 → ((i : ℕ) → n ≤ i → i ≤ n + k → i ≡ level_at (skipped rest) → ⊥) → at_level d below (suc (n + k)) text ≡ Ok (p, skipped rest)
  passed zero n p rest h few apart =
      let here : n + 0 ≡ n = omega arith in
      rw here (raised n p rest h ∙ idle d below p (skipped rest) (skipped_twice rest) n (omega arith) (apart n (omega arith) (omega arith)))
  passed (suc k) n p rest h few apart =
      let here : n + suc k ≡ suc (n + k) = omega arith in
      let before : at_level d below (suc (n + k)) text ≡ Ok (p, skipped rest) = passed k n p rest h (omega arith) (λ i low high. apart i low (omega arith)) in
      rw here (raised (suc (n + k)) p (skipped rest) before ∙ rw (skipped_twice rest) (idle d below p (skipped rest) (skipped_twice rest) (suc (n + k)) (omega arith) (apart (suc (n + k)) (omega arith) (omega arith))))

  -- up to a level, where none from there on goes on below it
  pub passed_to : (n level : ℕ) (p : Part) (rest : List ℕ) → at_level d below n text ≡ Ok (p, rest) → n < level → level ≤ 14 → ((i : ℕ) → n ≤ i → i < level → i ≡ level_at (skipped rest) → ⊥) → at_level d below level text ≡ Ok (p, skipped rest)
  passed_to n level p rest h above few apart =
      let here : level ≡ suc (n + (level - 1 - n)) = omega arith in
      rw here (passed (level - 1 - n) n p rest h (omega arith) (λ i low high. apart i low (omega arith)))

  reached_by : (n at : ℕ) (p : Part) (rest : List ℕ) → at_level d below n text ≡ Ok (p, rest) → (n ≡ at) ⊎ (n < at) → at ≤ 13 → at ≡ level_at (skipped rest) → at_level d below (suc at) text ≡ behind d below at p (skipped rest)
  reached_by n at p rest h (inl e) few is = raised at p rest (rw e at h)
  reached_by n at p rest h (inr above) few is =
      let before : at_level d below at text ≡ Ok (p, skipped rest) = passed_to n at p rest h above (omega arith) (λ i low high e. let f : ⊥ = omega (arith, e, is, high) in f) in
      raised at p (skipped rest) before ∙ rw (skipped_twice rest) refl

  -- to the level that goes on
  pub reached : (n at : ℕ) (p : Part) (rest : List ℕ) → at_level d below n text ≡ Ok (p, rest) → n ≤ at → at ≤ 13 → at ≡ level_at (skipped rest) → at_level d below (suc at) text ≡ behind d below at p (skipped rest)
  reached n at p rest h from few is = reached_by n at p rest h (eq-or-lt_of_le from) few is

  -- what failed at a level fails at those above it
  failed : (k n : ℕ) (e : ArithRefused) → Fails e (at_level d below n text) → Fails e (at_level d below (n + k) text)
  unfolding at_level
  failed zero n e h = let here : n + 0 ≡ n = omega arith in rw here h
  failed (suc k) n e h =
      let here : n + suc k ≡ suc (n + k) = omega arith in
      rw here (stops e (at_level d below (n + k) text) (λ p rest. behind d below (n + k) p (skipped rest)) (failed k n e h))

  pub failed_at : (n level : ℕ) (e : ArithRefused) → Fails e (at_level d below n text) → n ≤ level → Fails e (at_level d below level text)
  failed_at n level e h low =
      let here : level ≡ n + (level - n) = omega arith in
      rw here (failed (level - n) n e h)

-- the levels of the grammar are those of `at_level`
pub read_some : (levels level : ℕ) (text : List ℕ) → (levels ≡ 0 → ⊥) → read_by levels level text ≡ at_level levels (read_by (levels - 1)) level text
unfolding read_by
read_some zero level text some = absurd (some refl)
read_some (suc d) level text some = rw (less_one d) refl

at_first : (d : ℕ) (below : ℕ → Reader) (text : List ℕ) → at_level d below 0 text ≡ signed d below (skipped text)
unfolding at_level
at_first d below text = refl

-- a level that is read by a loop over the levels up to it
module _ (levels level : ℕ) (text : List ℕ) where
  -- what was read up to a level
  abbrev pub So_far : ℕ → Part → List ℕ → Type 0
  So_far n p rest = at_level levels (read_by (levels - 1)) n text ≡ Ok (p, rest)

  pub read_starts : (front : List ℕ) (p : Part) (rest : List ℕ) → front ≡ skipped text → signed levels (read_by (levels - 1)) front ≡ Ok (p, rest) → So_far 0 p rest
  read_starts front p rest is h = at_first levels (read_by (levels - 1)) text ∙ (rw is at h)

  module _ (some : levels ≡ 0 → ⊥) where
    pub read_failed : (front : List ℕ) (e : ArithRefused) → front ≡ skipped text → Fails e (signed levels (read_by (levels - 1)) front) → Fails e (read_by levels level text)
    read_failed front e is h =
        let start : Fails e (at_level levels (read_by (levels - 1)) 0 text) = rw (at_first levels (read_by (levels - 1)) text) (rw is at h) in
        rw (read_some levels level text some) (failed_at levels (read_by (levels - 1)) text 0 level e start (omega arith))

    pub read_ends : (from : ℕ) (p : Part) (rest : List ℕ) → So_far from p rest → from ≡ level → read_by levels level text ≡ Ok (p, rest)
    read_ends from p rest so_far last = read_some levels level text some ∙ (rw last at so_far)

    module _ (from next : ℕ) (p : Part) (rest front : List ℕ) (so_far : So_far from p rest) (is : front ≡ skipped rest) (found : next ≡ level_at front) (few : level ≤ 14) where
      apart : (next < from) ⊎ ((from ≤ next) × (level ≤ next)) → (i : ℕ) → from ≤ i → i < level → i ≡ level_at (skipped rest) → ⊥
      apart (inl before) i low high e = let here : next ≡ level_at (skipped rest) = rw is at found in let f : ⊥ = omega (arith, e, here, before, low) in f
      apart (inr behind) i low high e = let here : next ≡ level_at (skipped rest) = rw is at found in let f : ⊥ = omega (arith, e, here, behind.1, high) in f

      -- no level that is left goes on
      pub read_stays : from < level → (next < from) ⊎ ((from ≤ next) × (level ≤ next)) → read_by levels level text ≡ Ok (p, front)
      read_stays above out = read_some levels level text some ∙ passed_to levels (read_by (levels - 1)) text from level p rest so_far above few (apart out) ∙ rw is refl

      next_read : from ≤ next → next < level → at_level levels (read_by (levels - 1)) (next + 1) text ≡ behind levels (read_by (levels - 1)) next p front
      next_read low high =
          let here : next ≡ level_at (skipped rest) = rw is at found in
          rw (add-one next, is) (reached levels (read_by (levels - 1)) text from next p rest so_far low (omega arith) here)

      -- the next that goes on adds something
      pub read_goes : (q : Part) (more : List ℕ) → from ≤ next → next < level → behind levels (read_by (levels - 1)) next p front ≡ Ok (q, more) → So_far (next + 1) q more
      read_goes q more low high h = next_read low high ∙ h

      -- or fails
      pub read_stops : (e : ArithRefused) → from ≤ next → next < level → Fails e (behind levels (read_by (levels - 1)) next p front) → Fails e (read_by levels level text)
      read_stops e low high h =
          let up : Fails e (at_level levels (read_by (levels - 1)) (next + 1) text) = rw (next_read low high) h in
          rw (read_some levels level text some) (failed_at levels (read_by (levels - 1)) text (next + 1) level e up (omega arith))
