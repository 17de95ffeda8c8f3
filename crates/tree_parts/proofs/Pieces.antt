-- Pieces behind others.
use Rattle.std.specs.Prelude.{◌≡◌, ℕ, ◌+◌, ◌<◌, ◌↔◌, Bool, true, false, List, [], ◌∷◌, ◌++◌, drop, length, nat_lt, remove, slice_get, Some, IsTrue, if◌then◌else◌}
use Rattle.std.proofs.Common.{refl, sym, ◌∙◌, ap, append_assoc, append-nil, arith}
use Rattle.std.specs.Char.{is_ascii_digit}
use Rattle.std.proofs.lemmas.Bool.Decides.{nat_tests}
use Rattle.std.proofs.lemmas.List.{drop_all}
use Rattle.ksh_ast.specs.declared.tree.Command.{Command}
use Rattle.ksh_ast.specs.declared.tree.Command.TheVariants as command
use Rattle.ksh_ast.specs.declared.tree.Item.{Item}
use Rattle.ksh_ast.specs.declared.tree.Piece.{Piece}
use Rattle.ksh_ast.specs.declared.tree.Piece.TheVariants.{Literal}
use Rattle.tree_parts.specs.declared.sign.Sign.{Sign}
use Rattle.tree_parts.specs.Literals.{Adds, behind, is_nothing, literal_of, same, with_bytes, with_literal}
use Rattle.tree_parts.specs.Parts.{item, piped}

-- ---- literals

with_last : (front : List Piece) (last : Piece) (bytes : List ℕ) (quoted : Bool) → with_bytes (front ++ last ∷ []) bytes quoted ≡ front ++ behind last bytes quoted
with_last [] last bytes quoted = refl
with_last (p ∷ []) last bytes quoted = refl
with_last (p ∷ q ∷ front) last bytes quoted = ap (λ ps. p ∷ ps) (with_last (q ∷ front) last bytes quoted)

pub behind_last : (old front new : List Piece) (last : Piece) (bytes : List ℕ) (quoted : Bool) → is_nothing bytes quoted ≡ false → old ≡ front ++ last ∷ [] → new ≡ front ++ behind last bytes quoted
    → new ≡ with_literal old bytes quoted
behind_last old front new last bytes quoted h o n =
    n ∙ sym (ap (λ none. if none then old else with_bytes old bytes quoted) h ∙ ap (λ ps. with_bytes ps bytes quoted) o ∙ with_last front last bytes quoted)

pub two_pushed : (front one two : List Piece) (p q : Piece) → one ≡ front ++ p ∷ [] → two ≡ one ++ q ∷ [] → two ≡ front ++ p ∷ q ∷ []
two_pushed front one two p q o t = t ∙ ap (λ ps. ps ++ q ∷ []) o ∙ append_assoc front (p ∷ []) (q ∷ [])

pub literal_joined : (front new : List Piece) (text bytes : List ℕ) (before quoted : Bool) → same before quoted ≡ true → new ≡ front ++ Literal (text ++ bytes) before ∷ []
    → new ≡ front ++ behind (Literal text before) bytes quoted
literal_joined front new text bytes true true s n = n
literal_joined front new text bytes true false s n = absurd cc
literal_joined front new text bytes false true s n = absurd cc
literal_joined front new text bytes false false s n = n

pub literal_behind : (front one new : List Piece) (text bytes : List ℕ) (before quoted : Bool) → same before quoted ≡ false
    → one ≡ front ++ Literal text before ∷ [] → new ≡ one ++ Literal bytes quoted ∷ [] → new ≡ front ++ behind (Literal text before) bytes quoted
literal_behind front one new text bytes true true s o n = absurd cc
literal_behind front one new text bytes true false s o n = two_pushed front one new _ _ o n
literal_behind front one new text bytes false true s o n = two_pushed front one new _ _ o n
literal_behind front one new text bytes false false s o n = absurd cc

pub adds : (s : Sign) (whole text : List ℕ) (quoted : Bool) (old new : List Piece) → literal_of s whole ≡ Some (text, quoted) → new ≡ with_literal old text quoted → Adds true s whole old new
adds s whole text quoted old new l e = (text, quoted, l, e)

-- ---- other lists

pub none_behind : {A : Type 0} (xs : List A) → xs ≡ xs ++ []
none_behind xs = sym (append-nil xs)

pub two_lists : {A : Type 0} (front one two xs ys : List A) → one ≡ front ++ xs → two ≡ one ++ ys → two ≡ front ++ (xs ++ ys)
two_lists front one two xs ys o t = t ∙ ap (λ zs. zs ++ ys) o ∙ append_assoc front xs ys

pub first_taken : (xs : List Piece) (x : Piece) → slice_get xs 0 ≡ Some x → xs ≡ x ∷ remove xs 0
first_taken [] x h = absurd cc
first_taken (y ∷ ys) x h = let e : y ≡ x = cc in ap (λ z. z ∷ ys) e

pub dropped_all : (bytes : List ℕ) (n : ℕ) → length bytes < n → drop (length bytes) bytes ≡ drop n bytes
dropped_all bytes n lt = drop_all (length bytes) bytes (omega arith) ∙ sym (drop_all n bytes (omega arith))

pub pipeline : (ms : List (List Item)) (line : ℕ) (c : Command) (e : Bool) → (IsTrue e ↔ (ms ≡ [])) → e ≡ false → command.Pipeline (ms ++ (item line c ∷ []) ∷ []) ≡ piped ms line c
pipeline [] line c e h f = absurd (let t : e ≡ true = h.1 refl in cc)
pipeline (m ∷ ms) line c e h f = refl

pub digit_read : (d byte n : ℕ) → 48 + d ≡ byte → byte ≡ 48 + n → d ≡ n
digit_read d byte n e f = omega arith

pub no_digit : (n byte : ℕ) → byte ≡ 48 + n → nat_lt n 10 ≡ true → is_ascii_digit byte ≡ false → nat_lt n 10 ≡ false
no_digit n byte e h d = absurd (let f : ⊥ = grind (arith, nat_tests) in f)
