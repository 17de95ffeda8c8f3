-- Marked bytes and tokens, one further.
use Rattle.std.proofs.Common.{◌≡◌, ℕ, zero, suc, ◌+◌, ◌-◌, ◌<◌, ◌≤◌, ◌==◌, Bool, true, false, ◌||◌, ◌&&◌, not, List, [], ◌∷◌, ◌++◌, length, map, take, drop, get_or, refl, ap, sym, ◌∙◌, arith, Option, Some, None, if◌then◌else◌, append_assoc, drop_of_length-le}
use Rattle.std.proofs.lemmas.List.{drop_more, append-nil}
use Rattle.std.proofs.lemmas.Bool.Decides.{nat_tests}
use Rattle.ksh_pattern.specs.declared.marked.Marked.{Marked}
use Rattle.ksh_pattern.specs.declared.byte_test.Member.{Member}
use Rattle.ksh_pattern.specs.declared.token.Token.{Token}
use Rattle.ksh_pattern.specs.Reading.{is_plain, spells, Members, behind, member_at, members_at, token_at, tokens_of}

pub spells_short : (text : List ℕ) (ms : List Marked) (i d : ℕ) → i < length text → length ms ≤ i → spells (drop i text) (drop i ms) ≡ false
spells_short text ms i d h k = λ j. spells (drop_more text i d h j) (drop_of_length-le ms k j)

-- behind nothing, and behind two stretches
behind_none : (r : Members) → behind [] 0 r ≡ r
behind_none None = refl
behind_none (Some r) = ap (λ n. Some (r.0, n)) (let same : 0 + r.1 ≡ r.1 = omega arith in same)

pub behind_twice : (xs ys : List Member) (n k : ℕ) (r : Members) → behind xs n (behind ys k r) ≡ behind (xs ++ ys) (n + k) r
behind_twice xs ys n k None = refl
behind_twice xs ys n k (Some r) =
    let same : n + (k + r.1) ≡ (n + k) + r.1 = omega arith in
    λ j. Some (sym (append_assoc xs ys r.0) j, same j)

-- the members from a place on, where a byte is skipped, where the bracket ends, and where a member begins
pub members_skip : (ms : List Marked) (xs : List Member) (i skip : ℕ) (first : Bool) (d : Marked) → i < length ms → 0 < skip
    → behind xs i (members_at skip first (drop i ms)) ≡ behind xs (i + 1) (members_at (skip - 1) false (drop (i + 1) ms))
members_skip ms xs i zero first d h k = absurd (omega arith)
members_skip ms xs i (suc skip) first d h k =
    ap (λ v. behind xs i (members_at (suc skip) first v)) (drop_more ms i d h)
    ∙ behind_twice xs [] i 1 (members_at skip false (drop (i + 1) ms))
    ∙ (λ j. behind (append-nil xs j) (i + 1) (members_at ((let same : skip ≡ suc skip - 1 = omega arith in same) j) false (drop (i + 1) ms)))

pub members_end : (ms : List Marked) (xs : List Member) (i : ℕ) (d : Marked) (first : Bool) → i < length ms → (is_plain 93 (get_or ms i d) && not first) ≡ true
    → behind xs i (members_at 0 first (drop i ms)) ≡ Some (xs, i + 1)
members_end ms xs i d first h e =
    ap (λ v. behind xs i (members_at 0 first v)) (drop_more ms i d h)
    ∙ ap (λ b. behind xs i (if b then Some ([], 1) else behind ((member_at (get_or ms i d) (drop (i + 1) ms)).0 ∷ []) 1 (members_at (member_at (get_or ms i d) (drop (i + 1) ms)).1 false (drop (i + 1) ms)))) e
    ∙ ap (λ ys. Some (ys, i + 1)) (append-nil xs)

pub members_more : (ms : List Marked) (xs : List Member) (i : ℕ) (d : Marked) (first : Bool) → i < length ms → (is_plain 93 (get_or ms i d) && not first) ≡ false
    → behind xs i (members_at 0 first (drop i ms))
    ≡ behind (xs ++ (member_at (get_or ms i d) (drop (i + 1) ms)).0 ∷ []) (i + 1) (members_at (member_at (get_or ms i d) (drop (i + 1) ms)).1 false (drop (i + 1) ms))
members_more ms xs i d first h e =
    ap (λ v. behind xs i (members_at 0 first v)) (drop_more ms i d h)
    ∙ ap (λ b. behind xs i (if b then Some ([], 1) else behind ((member_at (get_or ms i d) (drop (i + 1) ms)).0 ∷ []) 1 (members_at (member_at (get_or ms i d) (drop (i + 1) ms)).1 false (drop (i + 1) ms)))) e
    ∙ behind_twice xs ((member_at (get_or ms i d) (drop (i + 1) ms)).0 ∷ []) i 1 (members_at (member_at (get_or ms i d) (drop (i + 1) ms)).1 false (drop (i + 1) ms))

-- the tokens from a place on, where a byte is skipped, and where a token begins
pub tokens_skip : (ms : List Marked) (ts : List Token) (i skip : ℕ) (d : Marked) → i < length ms → 0 < skip
    → ts ++ tokens_of skip (drop i ms) ≡ ts ++ tokens_of (skip - 1) (drop (i + 1) ms)
tokens_skip ms ts i zero d h k = absurd (omega arith)
tokens_skip ms ts i (suc skip) d h k =
    ap (λ v. ts ++ tokens_of (suc skip) v) (drop_more ms i d h) ∙ ap (λ n. ts ++ tokens_of n (drop (i + 1) ms)) (let same : skip ≡ suc skip - 1 = omega arith in same)

pub tokens_more : (ms : List Marked) (ts : List Token) (i : ℕ) (d : Marked) (t : Token) (further : ℕ) → i < length ms
    → t ≡ (token_at (get_or ms i d) (drop (i + 1) ms)).0 → further ≡ (token_at (get_or ms i d) (drop (i + 1) ms)).1
    → ts ++ tokens_of 0 (drop i ms) ≡ (ts ++ t ∷ []) ++ tokens_of further (drop (i + 1) ms)
tokens_more ms ts i d t further h e f =
    ap (λ v. ts ++ tokens_of 0 v) (drop_more ms i d h)
    ∙ sym (append_assoc ts ((token_at (get_or ms i d) (drop (i + 1) ms)).0 ∷ []) (tokens_of (token_at (get_or ms i d) (drop (i + 1) ms)).1 (drop (i + 1) ms)))
    ∙ sym (λ j. (ts ++ e j ∷ []) ++ tokens_of (f j) (drop (i + 1) ms))

pub not_first : (i : ℕ) → (i + 1 == 0) ≡ false
not_first i = grind (arith, nat_tests)

abbrev pub no_mark : Marked
no_mark = record { byte = 0; quoted = false }
