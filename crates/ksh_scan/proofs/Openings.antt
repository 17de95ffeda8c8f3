-- Closing what was opened last.
use Rattle.std.specs.Prelude.{◌≡◌, ℕ, ◌-◌, true, length, slice_get, List, [], ◌∷◌, ◌++◌, Option, Some, None, MatchOption}
use Rattle.std.proofs.Common.{refl, sym, ◌∙◌, ap, arith}
use Rattle.std.proofs.lemmas.List.{length-append}
use Rattle.ksh_scan.specs.declared.opening.Opening.{Opening}
use Rattle.ksh_scan.specs.Openings.{innermost, later_part, without_last}

last_gone : (o : Opening) (openings : List Opening) → without_last (openings ++ o ∷ []) ≡ openings
last_gone o [] = refl
last_gone o (p ∷ []) = refl
last_gone o (p ∷ q ∷ openings) = ap (λ os. p ∷ os) (last_gone o (q ∷ openings))

pub popped : (r : Option Opening) (old new : List Opening) → MatchOption r ((old ≡ []) × (new ≡ [])) (λ last. old ≡ new ++ last ∷ []) → new ≡ without_last old
popped (Some o) old new h = sym (ap without_last h ∙ last_gone o new)
popped None old new h = h.1 ∙ ap without_last (sym h.0)

at_end : (o : Opening) (openings : List Opening) → slice_get (openings ++ o ∷ []) (length openings) ≡ Some o
at_end o [] = refl
at_end o (p ∷ openings) = at_end o openings

last_one : (o : Opening) (openings : List Opening) → innermost (openings ++ o ∷ []) ≡ Some o
last_one o openings =
    let before : length (openings ++ o ∷ []) - 1 ≡ length openings = omega (arith, length-append openings (o ∷ [])) in
    ap (slice_get (openings ++ o ∷ [])) before ∙ at_end o openings

pub part_begun : (at : ℕ) (last : Opening) (old rest new : List Opening) → old ≡ rest ++ last ∷ [] → new ≡ rest ++ record last { part = at; is_later = true } ∷ [] → new ≡ later_part at (innermost old) old
part_begun at last old rest new e made = rw (e, last_one last rest, last_gone last rest) made
