-- Chains from the front of a path.
use Rattle.std.proofs.Common.{◌≡◌, ℕ, suc, ◌+◌, ◌-◌, ◌<◌, ◌≤◌, Bool, true, false, List, [], ◌∷◌, ◌++◌, length, take, nat_le, Option, Some, None, refl, ap, sym, ◌∙◌, arith}
use Rattle.std.proofs.lemmas.Bool.Decides.{nat_tests}
use Rattle.std.proofs.lemmas.List.{take_all, take-take, length-take-le, length-append}
use Rattle.var_types.specs.declared.path.Path.{Path}
use Rattle.var_types.specs.declared.path.Step.{Step}
use Rattle.var_types.specs.declared.cell.Cell.{Cell}
use Rattle.var_types.specs.declared.value.Value.{Value}
use Rattle.var_types.specs.declared.value.Value.TheVariants as value
use Rattle.var_types.specs.Rows.{Rows, cell_at}
use Rattle.ksh_nameref.specs.Chains.{next, after, and_then, is_reference, is_blind, row_is, target_of, target_in, holds_in, EndsAt}
use Rattle.ksh_nameref.specs.Targets.{front, NoneFrom, HasNoTarget, ChainHasCause}
use Rattle.ksh_nameref.specs.declared.fault.RefFault.{RefFault}
use Rattle.ksh_nameref.specs.declared.fault.RefFault.TheVariants as fault

further : {H : Type 0} (rows : Rows H) (p t : Path) (n : ℕ) → next rows p ≡ Some t → after rows (suc n) p ≡ after rows n t
further rows p t n h = ap (λ o. and_then o (after rows n)) h

-- a reference before a chain
pub ends_later : {H : Type 0} (rows : Rows H) (p t to : Path) → next rows p ≡ Some t → EndsAt rows t to → EndsAt rows p to
ends_later rows p t to h e = record { count = suc e.count; reached = further rows p t e.count h ∙ e.reached; last = e.last }

pub cause_later : {H : Type 0} (rows : Rows H) (p t : Path) (e : RefFault) → next rows p ≡ Some t → ChainHasCause rows t e → ChainHasCause rows p e
cause_later rows p t fault.Loop h c = record {
  once = suc c.once;
  again = suc c.again;
  rises = omega (arith, c.rises);
  first = c.first;
  second = c.second;
  reached = further rows p t c.once h ∙ c.reached;
  reached_again = further rows p t c.again h ∙ c.reached_again;
  same = c.same;
}
cause_later rows p t fault.NoTarget h c = record { last = c.last; ends = ends_later rows p t c.last h c.ends; blind = c.blind }
cause_later rows p t fault.Memory h c = tt

-- a reference that points nowhere
blind_in : {H : Type 0} (o : Option (Cell H)) → holds_in is_reference o ≡ true → target_in o ≡ None → holds_in is_blind o ≡ true
blind_in None h n = h
blind_in (Some c) h n = blind_value c.value h n
  where
    blind_value : (v : Value) → is_reference v ≡ true → target_of v ≡ None → is_blind v ≡ true
    blind_value value.Unset a b = a
    blind_value (value.Plain t) a b = a
    blind_value (value.Number z) a b = a
    blind_value value.Compound a b = a
    blind_value value.Indexed a b = a
    blind_value value.Assoc a b = a
    blind_value (value.Reference q) a b = cc
    blind_value value.NoReference a b = a
    blind_value (value.Instance q) a b = a

pub no_target : {H : Type 0} (rows : Rows H) (p : Path) → row_is is_reference rows p ≡ true → next rows p ≡ None → HasNoTarget rows p
no_target rows p h n = record {
  last = p;
  ends = record { count = 0; reached = refl; last = n };
  blind = blind_in (cell_at p rows) h n;
}

-- a path is the front of all its steps
pub front_whole : (path : Path) → front path (length path.steps) ≡ path
front_whole path = ap (λ (steps : List Step). record { scope = path.scope; name = path.name; steps = steps }) (take_all (length path.steps) path.steps (omega arith))

pub front_is : (path p : Path) (n : ℕ) → p.scope ≡ path.scope → p.name ≡ path.name → p.steps ≡ take n path.steps → p ≡ front path n
front_is path p n s m t = λ i. record { scope = s i; name = m i; steps = t i }

known_le : (a b : ℕ) → nat_le a b ≡ true → a ≤ b
known_le a b t = grind (arith, nat_tests)

known_gt : (a b : ℕ) → nat_le a b ≡ false → b < a
known_gt a b t = grind (arith, nat_tests)

pub none_further : {H : Type 0} (rows : Rows H) (path p : Path) (n : ℕ) → p ≡ front path n → row_is is_reference rows p ≡ false → NoneFrom rows path (n + 1) → NoneFrom rows path n
none_further rows path p n e r h m l k = by_place (nat_le (n + 1) m) refl
  where
    by_place : (b : Bool) → nat_le (n + 1) m ≡ b → row_is is_reference rows (front path m) ≡ false
    by_place true t = h m (known_le (n + 1) m t) k
    by_place false t = ap (λ j. row_is is_reference rows (front path j)) (omega (arith, l, known_gt (n + 1) m t)) ∙ ap (row_is is_reference rows) (sym e) ∙ r

pub none_past : {H : Type 0} (rows : Rows H) (path : Path) → NoneFrom rows path (length path.steps + 1)
none_past rows path m l k = absurd (omega (arith, l, k))

pub last_off : (old new : List Step) (last : Step) → old ≡ new ++ last ∷ [] → new ≡ take (length old - 1) old
last_off old new last e =
    let count : length old - 1 ≡ length new = omega (arith, ap length e ∙ length-append new (last ∷ [])) in
    sym (ap (λ n. take n old) count ∙ ap (take (length new)) e ∙ take_whole new)
  where
    take_whole : (xs : List Step) → take (length xs) (xs ++ last ∷ []) ≡ xs
    take_whole [] = refl
    take_whole (x ∷ xs) = ap (λ ys. x ∷ ys) (take_whole xs)

-- a front without its last step
pub front_shorter : (path : Path) (n : ℕ) → n ≤ length path.steps → front (front path n) (length (take n path.steps) - 1) ≡ front path (n - 1)
front_shorter path n l =
    ap (λ (steps : List Step). record { scope = path.scope; name = path.name; steps = steps })
    (ap (λ m. take (m - 1) (take n path.steps)) (length-take-le n path.steps l) ∙ take-take (n - 1) n path.steps (omega arith))
