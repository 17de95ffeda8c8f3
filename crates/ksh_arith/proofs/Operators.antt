-- Where an operator stands, its level is the one that is looked up, and so every other level adds nothing there.
use Rattle.std.proofs.Math.Nat.{suc-ne-zero}
use Rattle.std.proofs.Common.{◌≡◌, ◌∙◌, ap, sym, refl, arith, ℕ, zero, suc, ◌+◌, ◌-◌, ◌<◌, ◌≤◌, Bool, true, false, not, ◌==◌, ◌&&◌, ◌||◌, nat_le, List, [], ◌∷◌, length, drop, Option, Some, None, Result, Ok, Err}
use Rattle.std.proofs.lemmas.Bool.Decides.{Decides-eqb, nat_tests}
use Rattle.arith_tree.specs.declared.expr.BinaryOp.{BinaryOp}
use Rattle.arith_tree.specs.declared.expr.ChainOp.{ChainOp}
use Rattle.ksh_arith.specs.Grammar.{begins, begins_two, stands_alone, Spelled, Assigning, multiplying, adding, shifting, comparing, equating, bit_and, bit_xor, bit_or, both, either, comma, operator_at, assigning}
use Rattle.ksh_arith.specs.LevelAt.{doubled, with_equals, angled, loose_level, level_by, level_at}

-- the byte that a text begins with, and what stands behind it
pub first_is : (b : ℕ) (text : List ℕ) → begins b text ≡ true → text ≡ b ∷ drop 1 text
unfolding begins
first_is b [] h = cc
first_is b (x ∷ xs) h = let e : x ≡ b = (Decides-eqb x b).0 h in ap (λ y. y ∷ xs) e

level_of : (b : ℕ) (text : List ℕ) → begins b text ≡ true → level_at text ≡ level_by b (drop 1 text)
unfolding level_at
level_of b text h = ap level_at (first_is b text h)

and_both : (a b : Bool) → (a && b) ≡ true → (a ≡ true) × (b ≡ true)
and_both true true h = (refl, refl)
and_both true false h = cc
and_both false b h = cc

not_either : (a b : Bool) → not (a || b) ≡ true → (a ≡ false) × (b ≡ false)
not_either false false h = (refl, refl)
not_either false true h = cc
not_either true b h = cc

-- two bytes that differ don't both stand first
not_two : (b c : ℕ) (text : List ℕ) → (b == c) ≡ false → begins c text ≡ true → begins b text ≡ false
unfolding begins
not_two b c [] apart h = refl
not_two b c (x ∷ xs) apart h =
    let e : x ≡ c = (Decides-eqb x c).0 h in
    grind (arith, nat_tests)

-- a byte that stands alone has the level of one byte, and a byte that stands twice that of two
module _ (b twice once : ℕ) (text : List ℕ) where
  alone : stands_alone b b 61 text ≡ true → doubled b twice once (drop 1 text) ≡ once
  alone h =
      let p = and_both (begins b text) _ h in
      let q = not_either (begins b (drop 1 text)) (begins 61 (drop 1 text)) p.1 in
      rw (q.0, q.1) refl

  twofold : begins_two b b text ≡ true → doubled b twice once (drop 1 text) ≡ twice
  twofold h = rw (and_both (begins b text) (begins b (drop 1 text)) h).1 refl

  with_assign : (b == 61) ≡ false → begins_two b 61 text ≡ true → doubled b twice once (drop 1 text) ≡ 12
  with_assign apart h =
      let e = (and_both (begins b text) (begins 61 (drop 1 text)) h).1 in
      rw (not_two b 61 (drop 1 text) apart e, e) refl

module _ (b equals other : ℕ) (text : List ℕ) where
  equal : begins_two b 61 text ≡ true → with_equals equals other (drop 1 text) ≡ equals
  equal h = rw (and_both (begins b text) (begins 61 (drop 1 text)) h).1 refl

  unequal : stands_alone b 61 61 text ≡ true → with_equals equals other (drop 1 text) ≡ other
  unequal h =
      let p = and_both (begins b text) _ h in
      rw (not_either (begins 61 (drop 1 text)) (begins 61 (drop 1 text)) p.1).0 refl

drop_more : (text : List ℕ) → drop 1 (drop 1 text) ≡ drop 2 text
drop_more [] = refl
drop_more (x ∷ []) = refl
drop_more (x ∷ (y ∷ ys)) = refl

not_not : (a : Bool) → not a ≡ true → a ≡ false
not_not false h = refl
not_not true h = cc

module _ (b : ℕ) (text : List ℕ) where
  shifts : (begins_two b b text && not (begins 61 (drop 2 text))) ≡ true → angled b (drop 1 text) ≡ 3
  shifts h =
      let p = and_both (begins_two b b text) _ h in
      let q = and_both (begins b text) (begins b (drop 1 text)) p.0 in
      rw (q.1, drop_more text, not_not _ p.1) refl

  shift_assigns : (begins_two b b text && begins 61 (drop 2 text)) ≡ true → angled b (drop 1 text) ≡ 12
  shift_assigns h =
      let p = and_both (begins_two b b text) _ h in
      let q = and_both (begins b text) (begins b (drop 1 text)) p.0 in
      rw (q.1, drop_more text, p.1) refl

  compares : (b == 61) ≡ false → begins_two b 61 text ≡ true → angled b (drop 1 text) ≡ 4
  compares apart h =
      let e = (and_both (begins b text) (begins 61 (drop 1 text)) h).1 in
      rw (not_two b 61 (drop 1 text) apart e) refl

  compares_alone : stands_alone b b 61 text ≡ true → angled b (drop 1 text) ≡ 4
  compares_alone h =
      let p = and_both (begins b text) _ h in
      rw (not_either (begins b (drop 1 text)) (begins 61 (drop 1 text)) p.1).0 refl

mul_level_by : (text : List ℕ) (o : ChainOp × ℕ) (t0 t1 t2 : Bool) → stands_alone 42 42 61 text ≡ t0 → stands_alone 47 61 61 text ≡ t1 → stands_alone 37 61 61 text ≡ t2 → multiplying text ≡ Some o → level_at text ≡ 1
unfolding level_by loose_level
mul_level_by text o true t1 t2 e0 e1 e2 h = level_of 42 text (and_both _ _ e0).0 ∙ alone 42 0 1 text e0
mul_level_by text o false true t2 e0 e1 e2 h = level_of 47 text (and_both _ _ e1).0 ∙ unequal 47 12 1 text e1
mul_level_by text o false false true e0 e1 e2 h = level_of 37 text (and_both _ _ e2).0 ∙ unequal 37 12 1 text e2
mul_level_by text o false false false e0 e1 e2 h = let n : None ≡ Some o = rw (e0, e1, e2) at h in cc

mul_level : (text : List ℕ) (o : ChainOp × ℕ) → multiplying text ≡ Some o → level_at text ≡ 1
mul_level text o h = mul_level_by text o (stands_alone 42 42 61 text) (stands_alone 47 61 61 text) (stands_alone 37 61 61 text) refl refl refl h

add_level_by : (text : List ℕ) (o : ChainOp × ℕ) (t0 t1 : Bool) → stands_alone 43 43 61 text ≡ t0 → stands_alone 45 45 61 text ≡ t1 → adding text ≡ Some o → level_at text ≡ 2
unfolding level_by loose_level
add_level_by text o true t1 e0 e1 h = level_of 43 text (and_both _ _ e0).0 ∙ alone 43 14 2 text e0
add_level_by text o false true e0 e1 h = level_of 45 text (and_both _ _ e1).0 ∙ alone 45 14 2 text e1
add_level_by text o false false e0 e1 h = let n : None ≡ Some o = rw (e0, e1) at h in cc

add_level : (text : List ℕ) (o : ChainOp × ℕ) → adding text ≡ Some o → level_at text ≡ 2
add_level text o h = add_level_by text o (stands_alone 43 43 61 text) (stands_alone 45 45 61 text) refl refl h

shift_level_by : (text : List ℕ) (o : ChainOp × ℕ) (t0 t1 : Bool) → (begins_two 60 60 text && not (begins 61 (drop 2 text))) ≡ t0 → (begins_two 62 62 text && not (begins 61 (drop 2 text))) ≡ t1 → shifting text ≡ Some o → level_at text ≡ 3
unfolding level_by loose_level
shift_level_by text o true t1 e0 e1 h = level_of 60 text (and_both _ _ (and_both _ _ e0).0).0 ∙ shifts 60 text e0
shift_level_by text o false true e0 e1 h = level_of 62 text (and_both _ _ (and_both _ _ e1).0).0 ∙ shifts 62 text e1
shift_level_by text o false false e0 e1 h = let n : None ≡ Some o = rw (e0, e1) at h in cc

shift_level : (text : List ℕ) (o : ChainOp × ℕ) → shifting text ≡ Some o → level_at text ≡ 3
shift_level text o h = shift_level_by text o ((begins_two 60 60 text && not (begins 61 (drop 2 text)))) ((begins_two 62 62 text && not (begins 61 (drop 2 text)))) refl refl h

compare_level_by : (text : List ℕ) (o : ChainOp × ℕ) (t0 t1 t2 t3 : Bool) → begins_two 60 61 text ≡ t0 → stands_alone 60 60 61 text ≡ t1 → begins_two 62 61 text ≡ t2 → stands_alone 62 62 61 text ≡ t3 → comparing text ≡ Some o → level_at text ≡ 4
unfolding level_by loose_level
compare_level_by text o true t1 t2 t3 e0 e1 e2 e3 h = level_of 60 text (and_both _ _ e0).0 ∙ compares 60 text refl e0
compare_level_by text o false true t2 t3 e0 e1 e2 e3 h = level_of 60 text (and_both _ _ e1).0 ∙ compares_alone 60 text e1
compare_level_by text o false false true t3 e0 e1 e2 e3 h = level_of 62 text (and_both _ _ e2).0 ∙ compares 62 text refl e2
compare_level_by text o false false false true e0 e1 e2 e3 h = level_of 62 text (and_both _ _ e3).0 ∙ compares_alone 62 text e3
compare_level_by text o false false false false e0 e1 e2 e3 h = let n : None ≡ Some o = rw (e0, e1, e2, e3) at h in cc

compare_level : (text : List ℕ) (o : ChainOp × ℕ) → comparing text ≡ Some o → level_at text ≡ 4
compare_level text o h = compare_level_by text o (begins_two 60 61 text) (stands_alone 60 60 61 text) (begins_two 62 61 text) (stands_alone 62 62 61 text) refl refl refl refl h

equal_level_by : (text : List ℕ) (o : ChainOp × ℕ) (t0 t1 : Bool) → begins_two 61 61 text ≡ t0 → begins_two 33 61 text ≡ t1 → equating text ≡ Some o → level_at text ≡ 5
unfolding level_by loose_level
equal_level_by text o true t1 e0 e1 h = level_of 61 text (and_both _ _ e0).0 ∙ equal 61 5 12 text e0
equal_level_by text o false true e0 e1 h = level_of 33 text (and_both _ _ e1).0 ∙ equal 33 5 14 text e1
equal_level_by text o false false e0 e1 h = let n : None ≡ Some o = rw (e0, e1) at h in cc

equal_level : (text : List ℕ) (o : ChainOp × ℕ) → equating text ≡ Some o → level_at text ≡ 5
equal_level text o h = equal_level_by text o (begins_two 61 61 text) (begins_two 33 61 text) refl refl h

bit_and_level_by : (text : List ℕ) (o : ChainOp × ℕ) (t0 : Bool) → stands_alone 38 38 61 text ≡ t0 → bit_and text ≡ Some o → level_at text ≡ 6
unfolding level_by loose_level
bit_and_level_by text o true e0 h = level_of 38 text (and_both _ _ e0).0 ∙ alone 38 9 6 text e0
bit_and_level_by text o false e0 h = let n : None ≡ Some o = rw e0 at h in cc

bit_and_level : (text : List ℕ) (o : ChainOp × ℕ) → bit_and text ≡ Some o → level_at text ≡ 6
bit_and_level text o h = bit_and_level_by text o (stands_alone 38 38 61 text) refl h

bit_xor_level_by : (text : List ℕ) (o : ChainOp × ℕ) (t0 : Bool) → stands_alone 94 61 61 text ≡ t0 → bit_xor text ≡ Some o → level_at text ≡ 7
unfolding level_by loose_level
bit_xor_level_by text o true e0 h = level_of 94 text (and_both _ _ e0).0 ∙ unequal 94 12 7 text e0
bit_xor_level_by text o false e0 h = let n : None ≡ Some o = rw e0 at h in cc

bit_xor_level : (text : List ℕ) (o : ChainOp × ℕ) → bit_xor text ≡ Some o → level_at text ≡ 7
bit_xor_level text o h = bit_xor_level_by text o (stands_alone 94 61 61 text) refl h

bit_or_level_by : (text : List ℕ) (o : ChainOp × ℕ) (t0 : Bool) → stands_alone 124 124 61 text ≡ t0 → bit_or text ≡ Some o → level_at text ≡ 8
unfolding level_by loose_level
bit_or_level_by text o true e0 h = level_of 124 text (and_both _ _ e0).0 ∙ alone 124 10 8 text e0
bit_or_level_by text o false e0 h = let n : None ≡ Some o = rw e0 at h in cc

bit_or_level : (text : List ℕ) (o : ChainOp × ℕ) → bit_or text ≡ Some o → level_at text ≡ 8
bit_or_level text o h = bit_or_level_by text o (stands_alone 124 124 61 text) refl h

both_level_by : (text : List ℕ) (o : ChainOp × ℕ) (t0 : Bool) → begins_two 38 38 text ≡ t0 → both text ≡ Some o → level_at text ≡ 9
unfolding level_by loose_level
both_level_by text o true e0 h = level_of 38 text (and_both _ _ e0).0 ∙ twofold 38 9 6 text e0
both_level_by text o false e0 h = let n : None ≡ Some o = rw e0 at h in cc

both_level : (text : List ℕ) (o : ChainOp × ℕ) → both text ≡ Some o → level_at text ≡ 9
both_level text o h = both_level_by text o (begins_two 38 38 text) refl h

either_level_by : (text : List ℕ) (o : ChainOp × ℕ) (t0 : Bool) → begins_two 124 124 text ≡ t0 → either text ≡ Some o → level_at text ≡ 10
unfolding level_by loose_level
either_level_by text o true e0 h = level_of 124 text (and_both _ _ e0).0 ∙ twofold 124 10 8 text e0
either_level_by text o false e0 h = let n : None ≡ Some o = rw e0 at h in cc

either_level : (text : List ℕ) (o : ChainOp × ℕ) → either text ≡ Some o → level_at text ≡ 10
either_level text o h = either_level_by text o (begins_two 124 124 text) refl h

comma_level_by : (text : List ℕ) (o : ChainOp × ℕ) (t0 : Bool) → begins 44 text ≡ t0 → comma text ≡ Some o → level_at text ≡ 13
unfolding level_by loose_level
comma_level_by text o true e0 h = level_of 44 text e0
comma_level_by text o false e0 h = let n : None ≡ Some o = rw e0 at h in cc

comma_level : (text : List ℕ) (o : ChainOp × ℕ) → comma text ≡ Some o → level_at text ≡ 13
comma_level text o h = comma_level_by text o (begins 44 text) refl h

assign_level_by : (text : List ℕ) (o : Option BinaryOp × ℕ) (t0 t1 t2 t3 t4 t5 t6 t7 t8 t9 t10 : Bool) → stands_alone 61 61 61 text ≡ t0 → begins_two 43 61 text ≡ t1 → begins_two 45 61 text ≡ t2 → begins_two 42 61 text ≡ t3 → begins_two 47 61 text ≡ t4 → begins_two 37 61 text ≡ t5 → begins_two 38 61 text ≡ t6 → begins_two 94 61 text ≡ t7 → begins_two 124 61 text ≡ t8 → (begins_two 60 60 text && begins 61 (drop 2 text)) ≡ t9 → (begins_two 62 62 text && begins 61 (drop 2 text)) ≡ t10 → assigning text ≡ Some o → level_at text ≡ 12
unfolding level_by loose_level assigning
assign_level_by text o true t1 t2 t3 t4 t5 t6 t7 t8 t9 t10 e0 e1 e2 e3 e4 e5 e6 e7 e8 e9 e10 h = level_of 61 text (and_both _ _ e0).0 ∙ unequal 61 5 12 text e0
assign_level_by text o false true t2 t3 t4 t5 t6 t7 t8 t9 t10 e0 e1 e2 e3 e4 e5 e6 e7 e8 e9 e10 h = level_of 43 text (and_both _ _ e1).0 ∙ with_assign 43 14 2 text refl e1
assign_level_by text o false false true t3 t4 t5 t6 t7 t8 t9 t10 e0 e1 e2 e3 e4 e5 e6 e7 e8 e9 e10 h = level_of 45 text (and_both _ _ e2).0 ∙ with_assign 45 14 2 text refl e2
assign_level_by text o false false false true t4 t5 t6 t7 t8 t9 t10 e0 e1 e2 e3 e4 e5 e6 e7 e8 e9 e10 h = level_of 42 text (and_both _ _ e3).0 ∙ with_assign 42 0 1 text refl e3
assign_level_by text o false false false false true t5 t6 t7 t8 t9 t10 e0 e1 e2 e3 e4 e5 e6 e7 e8 e9 e10 h = level_of 47 text (and_both _ _ e4).0 ∙ equal 47 12 1 text e4
assign_level_by text o false false false false false true t6 t7 t8 t9 t10 e0 e1 e2 e3 e4 e5 e6 e7 e8 e9 e10 h = level_of 37 text (and_both _ _ e5).0 ∙ equal 37 12 1 text e5
assign_level_by text o false false false false false false true t7 t8 t9 t10 e0 e1 e2 e3 e4 e5 e6 e7 e8 e9 e10 h = level_of 38 text (and_both _ _ e6).0 ∙ with_assign 38 9 6 text refl e6
assign_level_by text o false false false false false false false true t8 t9 t10 e0 e1 e2 e3 e4 e5 e6 e7 e8 e9 e10 h = level_of 94 text (and_both _ _ e7).0 ∙ equal 94 12 7 text e7
assign_level_by text o false false false false false false false false true t9 t10 e0 e1 e2 e3 e4 e5 e6 e7 e8 e9 e10 h = level_of 124 text (and_both _ _ e8).0 ∙ with_assign 124 10 8 text refl e8
assign_level_by text o false false false false false false false false false true t10 e0 e1 e2 e3 e4 e5 e6 e7 e8 e9 e10 h = level_of 60 text (and_both _ _ (and_both _ _ e9).0).0 ∙ shift_assigns 60 text e9
assign_level_by text o false false false false false false false false false false true e0 e1 e2 e3 e4 e5 e6 e7 e8 e9 e10 h = level_of 62 text (and_both _ _ (and_both _ _ e10).0).0 ∙ shift_assigns 62 text e10
assign_level_by text o false false false false false false false false false false false e0 e1 e2 e3 e4 e5 e6 e7 e8 e9 e10 h = let n : None ≡ Some o = rw (e0, e1, e2, e3, e4, e5, e6, e7, e8, e9, e10) at h in cc

assign_level : (text : List ℕ) (o : Option BinaryOp × ℕ) → assigning text ≡ Some o → level_at text ≡ 12
assign_level text o h = assign_level_by text o (stands_alone 61 61 61 text) (begins_two 43 61 text) (begins_two 45 61 text) (begins_two 42 61 text) (begins_two 47 61 text) (begins_two 37 61 text) (begins_two 38 61 text) (begins_two 94 61 text) (begins_two 124 61 text) ((begins_two 60 60 text && begins 61 (drop 2 text))) ((begins_two 62 62 text && begins 61 (drop 2 text))) refl refl refl refl refl refl refl refl refl refl refl h

pub same : (k i : ℕ) → (k == i) ≡ true → k ≡ i
same k i h = (Decides-eqb k i).0 h

operator_by : (k : ℕ) (text : List ℕ) (o : ChainOp × ℕ) (t0 t1 t2 t3 t4 t5 t6 t7 t8 t9 : Bool) → (k == 0) ≡ t0 → (k == 1) ≡ t1 → (k == 2) ≡ t2 → (k == 3) ≡ t3 → (k == 4) ≡ t4 → (k == 5) ≡ t5 → (k == 6) ≡ t6 → (k == 7) ≡ t7 → (k == 8) ≡ t8 → (k == 9) ≡ t9 → k ≤ 9 → operator_at k text ≡ Some o → level_at text ≡ k + 1
unfolding operator_at
operator_by k text o true t1 t2 t3 t4 t5 t6 t7 t8 t9 e0 e1 e2 e3 e4 e5 e6 e7 e8 e9 few h = rw (same k 0 e0) (mul_level text o (rw (e0) at h))
operator_by k text o false true t2 t3 t4 t5 t6 t7 t8 t9 e0 e1 e2 e3 e4 e5 e6 e7 e8 e9 few h = rw (same k 1 e1) (add_level text o (rw (e0, e1) at h))
operator_by k text o false false true t3 t4 t5 t6 t7 t8 t9 e0 e1 e2 e3 e4 e5 e6 e7 e8 e9 few h = rw (same k 2 e2) (shift_level text o (rw (e0, e1, e2) at h))
operator_by k text o false false false true t4 t5 t6 t7 t8 t9 e0 e1 e2 e3 e4 e5 e6 e7 e8 e9 few h = rw (same k 3 e3) (compare_level text o (rw (e0, e1, e2, e3) at h))
operator_by k text o false false false false true t5 t6 t7 t8 t9 e0 e1 e2 e3 e4 e5 e6 e7 e8 e9 few h = rw (same k 4 e4) (equal_level text o (rw (e0, e1, e2, e3, e4) at h))
operator_by k text o false false false false false true t6 t7 t8 t9 e0 e1 e2 e3 e4 e5 e6 e7 e8 e9 few h = rw (same k 5 e5) (bit_and_level text o (rw (e0, e1, e2, e3, e4, e5) at h))
operator_by k text o false false false false false false true t7 t8 t9 e0 e1 e2 e3 e4 e5 e6 e7 e8 e9 few h = rw (same k 6 e6) (bit_xor_level text o (rw (e0, e1, e2, e3, e4, e5, e6) at h))
operator_by k text o false false false false false false false true t8 t9 e0 e1 e2 e3 e4 e5 e6 e7 e8 e9 few h = rw (same k 7 e7) (bit_or_level text o (rw (e0, e1, e2, e3, e4, e5, e6, e7) at h))
operator_by k text o false false false false false false false false true t9 e0 e1 e2 e3 e4 e5 e6 e7 e8 e9 few h = rw (same k 8 e8) (both_level text o (rw (e0, e1, e2, e3, e4, e5, e6, e7, e8) at h))
operator_by k text o false false false false false false false false false true e0 e1 e2 e3 e4 e5 e6 e7 e8 e9 few h = rw (same k 9 e9) (either_level text o (rw (e0, e1, e2, e3, e4, e5, e6, e7, e8, e9) at h))
operator_by k text o false false false false false false false false false false e0 e1 e2 e3 e4 e5 e6 e7 e8 e9 few h = absurd (let f : ⊥ = grind (arith, nat_tests) in f)

-- the operators of a level stand where that level goes on, one of those that group from the left
pub operator_level : (k : ℕ) (text : List ℕ) (o : ChainOp × ℕ) → k ≤ 9 → operator_at k text ≡ Some o → level_at text ≡ k + 1
operator_level k text o few h = operator_by k text o (k == 0) (k == 1) (k == 2) (k == 3) (k == 4) (k == 5) (k == 6) (k == 7) (k == 8) (k == 9) refl refl refl refl refl refl refl refl refl refl few h

pub comma_at : (text : List ℕ) (o : ChainOp × ℕ) → operator_at 10 text ≡ Some o → level_at text ≡ 13
unfolding operator_at
comma_at text o h = comma_level text o h

none_by : (k n : ℕ) (text : List ℕ) (o : Spelled) → o ≡ operator_at k text → ((p : ChainOp × ℕ) → operator_at k text ≡ Some p → level_at text ≡ n) → (n ≡ level_at text → ⊥) → operator_at k text ≡ None
none_by k n text None e at apart = sym e
none_by k n text (Some p) e at apart = absurd (apart (sym (at p (sym e))))

-- where another level goes on, no operator of that level stands
pub no_operator : (k : ℕ) (text : List ℕ) → k ≤ 9 → (k + 1 ≡ level_at text → ⊥) → operator_at k text ≡ None
no_operator k text few apart = none_by k (k + 1) text (operator_at k text) refl (λ p h. operator_level k text p few h) apart

pub no_comma : (text : List ℕ) → (13 ≡ level_at text → ⊥) → operator_at 10 text ≡ None
no_comma text apart = none_by 10 13 text (operator_at 10 text) refl (comma_at text) apart

no_assign_by : (text : List ℕ) (o : Assigning) → o ≡ assigning text → (12 ≡ level_at text → ⊥) → assigning text ≡ None
no_assign_by text None e apart = sym e
no_assign_by text (Some p) e apart = absurd (apart (sym (assign_level text p (sym e))))

pub no_assign : (text : List ℕ) → (12 ≡ level_at text → ⊥) → assigning text ≡ None
no_assign text apart = no_assign_by text (assigning text) refl apart

power_by : (text : List ℕ) (t : Bool) → begins_two 42 42 text ≡ t → (0 ≡ level_at text → ⊥) → begins_two 42 42 text ≡ false
unfolding level_by
power_by text false e apart = e
power_by text true e apart = absurd (apart (sym (level_of 42 text (and_both _ _ e).0 ∙ twofold 42 0 1 text e)))

pub no_power : (text : List ℕ) → (0 ≡ level_at text → ⊥) → begins_two 42 42 text ≡ false
no_power text apart = power_by text (begins_two 42 42 text) refl apart

choice_by : (text : List ℕ) (t : Bool) → begins 63 text ≡ t → (11 ≡ level_at text → ⊥) → begins 63 text ≡ false
unfolding level_by loose_level
choice_by text false e apart = e
choice_by text true e apart = absurd (apart (sym (level_of 63 text e)))

pub no_choice : (text : List ℕ) → (11 ≡ level_at text → ⊥) → begins 63 text ≡ false
no_choice text apart = choice_by text (begins 63 text) refl apart
