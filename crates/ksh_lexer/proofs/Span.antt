-- How far a span reaches, one step at a time.
use Rattle.std.proofs.Common.{◌≡◌, ℕ, ◌+◌, ◌<◌, ◌≤◌, Bool, true, false, ◌==◌, List, [], ◌∷◌, length, drop, slice_index, refl, ap, ◌∙◌, arith, inl, inr}
use Rattle.std.proofs.lemmas.List.{drop_more, length-drop}
use Rattle.std.proofs.lemmas.Bool.{cases_lt}
use Rattle.std.proofs.lemmas.Bool.Decides.{nat_tests}
use Rattle.ksh_lexer.specs.Bytes.{is_blank}
use Rattle.ksh_lexer.specs.Reach.{span, is_join, joins_at}

span_one : (class : ℕ → Bool) (b : ℕ) (bs : List ℕ) → class b ≡ true → (b == 92) ≡ false → span class (b ∷ bs) ≡ 1 + span class bs
span_one class b [] e f = rw e refl
span_one class b (c ∷ bs) e f = rw (f, e) refl

-- a byte of the class that is no backslash
pub class_step : (class : ℕ → Bool) (text : List ℕ) (k : ℕ) → k < length text → class (slice_index text k) ≡ true → (slice_index text k == 92) ≡ false
    → span class (drop k text) ≡ 1 + span class (drop (k + 1) text)
class_step class text k h e f = ap (span class) (drop_more text k 0 h) ∙ span_one class (slice_index text k) (drop (k + 1) text) e f

span_join : (class : ℕ → Bool) (b c : ℕ) (bs : List ℕ) → is_join b c ≡ true → span class (b ∷ c ∷ bs) ≡ 2 + span class bs
span_join class b c bs e = rw e refl

two_more : (text : List ℕ) (k : ℕ) → k + 2 ≤ length text → drop k text ≡ slice_index text k ∷ slice_index text (k + 1) ∷ drop (k + 2) text
two_more text k h =
    let more : drop (k + 1) text ≡ slice_index text (k + 1) ∷ drop (k + 1 + 1) text = drop_more text (k + 1) 0 (omega arith) in
    let e : k + 1 + 1 ≡ k + 2 = omega arith in
    drop_more text k 0 (omega arith) ∙ ap (λ xs. slice_index text k ∷ xs) more ∙ ap (λ n. slice_index text k ∷ slice_index text (k + 1) ∷ drop n text) e

-- a joined line
pub join_step : (class : ℕ → Bool) (text : List ℕ) (k : ℕ) → joins_at text k ≡ true → span class (drop k text) ≡ 2 + span class (drop (k + 2) text)
join_step class text k e =
    let within : k + 2 ≤ length text = grind (arith, nat_tests) in
    let joins : is_join (slice_index text k) (slice_index text (k + 1)) ≡ true = grind (arith, nat_tests) in
    ap (span class) (two_more text k within) ∙ span_join class (slice_index text k) (slice_index text (k + 1)) (drop (k + 2) text) joins

span_none : (class : ℕ → Bool) (b c : ℕ) (bs : List ℕ) → is_join b c ≡ false → class b ≡ false → span class (b ∷ c ∷ bs) ≡ 0
span_none class b c bs e f = rw (e, f) refl

span_alone : (class : ℕ → Bool) (b : ℕ) (bs : List ℕ) → length bs ≡ 0 → class b ≡ false → span class (b ∷ bs) ≡ 0
span_alone class b [] e f = rw f refl
span_alone class b (c ∷ bs) e f = cc

span_nothing : (class : ℕ → Bool) (bs : List ℕ) → length bs ≡ 0 → span class bs ≡ 0
span_nothing class [] e = refl
span_nothing class (b ∷ bs) e = cc

stop_two : (class : ℕ → Bool) (text : List ℕ) (k : ℕ) → k + 2 ≤ length text → joins_at text k ≡ false → class (slice_index text k) ≡ false → span class (drop k text) ≡ 0
stop_two class text k h e f =
    let joins : is_join (slice_index text k) (slice_index text (k + 1)) ≡ false = grind (arith, nat_tests) in
    ap (span class) (two_more text k h) ∙ span_none class (slice_index text k) (slice_index text (k + 1)) (drop (k + 2) text) joins f

stop_one : (class : ℕ → Bool) (text : List ℕ) (k : ℕ) → k + 1 ≡ length text → class (slice_index text k) ≡ false → span class (drop k text) ≡ 0
stop_one class text k h f =
    let none : length (drop (k + 1) text) ≡ 0 = length-drop (k + 1) text ∙ (omega (arith, h)) in
    ap (span class) (drop_more text k 0 (omega (arith, h))) ∙ span_alone class _ _ none f

-- where no further byte is of the class, nothing is left of the span
pub stop : (class : ℕ → Bool) (text : List ℕ) (k : ℕ) → joins_at text k ≡ false → (k < length text → class (slice_index text k) ≡ false) → span class (drop k text) ≡ 0
stop class text k e f =
    elim (cases_lt k (length text)) as (λ _. span class (drop k text) ≡ 0) [
      | inl h ↦ elim (cases_lt (k + 1) (length text)) as (λ _. span class (drop k text) ≡ 0) [
        | inl g ↦ stop_two class text k (omega (arith, g)) e (f h)
        | inr g ↦ stop_one class text k (omega (arith, h, g)) (f h)
      ]
      | inr h ↦ span_nothing class (drop k text) (length-drop k text ∙ omega (arith, h))
    ]

-- a blank is no backslash
pub blank_step : (text : List ℕ) (k : ℕ) → k < length text → is_blank (slice_index text k) ≡ true → span is_blank (drop k text) ≡ 1 + span is_blank (drop (k + 1) text)
blank_step text k h e = class_step is_blank text k h e (not_backslash (slice_index text k) e)
  where
    not_backslash : (b : ℕ) → is_blank b ≡ true → (b == 92) ≡ false
    not_backslash b e = grind (arith, nat_tests)

pub join_within : (text : List ℕ) (k : ℕ) → joins_at text k ≡ true → k + 2 ≤ length text
join_within text k e = grind (arith, nat_tests)
