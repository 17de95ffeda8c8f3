-- What begins at a place tells that bytes are there.
use Rattle.std.proofs.Common.{◌≡◌, ℕ, ◌<◌, ◌≤◌, Bool, true, false, ◌⊎◌, List, length, slice_index, Option, Some, None, refl, ap, arith, inl, inr}
use Rattle.std.specs.Prelude.{slice_get}
use Rattle.std.proofs.lemmas.Bool.Decides.{nat_tests}
use Rattle.std.proofs.lemmas.Option.{slice_get_within, get_or_from_slice_get}
use Rattle.ksh_lexer.specs.declared.outer.Begins.{Begins}
use Rattle.ksh_lexer.specs.Bytes.{is, is_digit, present}
use Rattle.ksh_lexer.specs.Width.{width}
use Rattle.ksh_lexer.specs.declared.outer.Begins.TheVariants.{Digit}
use Rattle.ksh_lexer.specs.declared.mode.LexMode.{LexMode}
use Rattle.ksh_lexer.specs.Begin.{begins_at}
use Rattle.ksh_lexer.specs.Reach.{next}
use Rattle.ksh_lexer.proofs.Digits.{digit_before, digit_only}

first_there : (text : List ℕ) (from : ℕ) (first second third : Option ℕ) → slice_get text from ≡ first → 0 < present first second third → from < length text
first_there text from None second third e h = absurd (let f : ⊥ = omega (arith, h) in f)
first_there text from (Some b) second third e h = slice_get_within text from b e

second_there : (text : List ℕ) (place : ℕ) (first second third : Option ℕ) → slice_get text place ≡ second → 1 < present first second third → place < length text
second_there text place None second third e h = absurd (let f : ⊥ = omega (arith, h) in f)
second_there text place (Some b) None third e h = absurd (let f : ⊥ = omega (arith, h) in f)
second_there text place (Some b) (Some c) third e h = slice_get_within text place c e

pub here : (text : List ℕ) (from : ℕ) (second third : Option ℕ) (b k : Begins) → b ≡ k → 0 < width k → width b ≤ present (slice_get text from) second third → from < length text
here text from second third b k e h fits =
    let w : width b ≡ width k = ap width e in
    first_there text from (slice_get text from) second third refl (omega (arith, w, h, fits))

pub behind : (text : List ℕ) (from place : ℕ) (third : Option ℕ) (b k : Begins) → b ≡ k → 1 < width k → width b ≤ present (slice_get text from) (slice_get text place) third → place < length text
behind text from place third b k e h fits =
    let w : width b ≡ width k = ap width e in
    second_there text place (slice_get text from) (slice_get text place) third refl (omega (arith, w, h, fits))

digit_at : (first second : Option ℕ) (text : List ℕ) (from : ℕ) → slice_get text from ≡ first → digit_before first second ≡ true → is_digit (slice_index text from) ≡ true
digit_at None second text from e h = cc
digit_at (Some b) second text from e h =
    let d : is_digit b ≡ true = grind (arith, nat_tests) in
    rw (get_or_from_slice_get text from b 0 e) d

pub digit_is : (text : List ℕ) (from : ℕ) (second : Option ℕ) → digit_before (slice_get text from) second ≡ true → is_digit (slice_index text from) ≡ true
digit_is text from second h = digit_at (slice_get text from) second text from refl h

pub redirects : (first second : Option ℕ) → digit_before first second ≡ true → (second ≡ Some 60) ⊎ (second ≡ Some 62)
redirects None second h = cc
redirects (Some b) None h = absurd (let f : ⊥ = grind (arith, nat_tests) in f)
redirects (Some b) (Some c) h = go (is 60 (Some c)) refl
  where
    go : (t : Bool) → is 60 (Some c) ≡ t → (Some c ≡ Some 60) ⊎ (Some c ≡ Some 62)
    go true e = inl (let f : c ≡ 60 = grind (arith, nat_tests) in ap Some f)
    go false e = inr (let f : c ≡ 62 = grind (arith, nat_tests) in ap Some f)

pub digit_there : (m : LexMode) (text : List ℕ) (from : ℕ) → begins_at m text from ≡ Digit → is_digit (slice_index text from) ≡ true
digit_there m text from e = digit_is text from (slice_get text (next text from)) (digit_only m (slice_get text from) (slice_get text (next text from)) (slice_get text (next text (next text from))) e)

pub redirection_there : (m : LexMode) (text : List ℕ) (from : ℕ) → begins_at m text from ≡ Digit
    → (slice_get text (next text from) ≡ Some 60) ⊎ (slice_get text (next text from) ≡ Some 62)
redirection_there m text from e = redirects (slice_get text from) (slice_get text (next text from)) (digit_only m (slice_get text from) (slice_get text (next text from)) (slice_get text (next text (next text from))) e)
