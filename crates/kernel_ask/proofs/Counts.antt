-- How many calls a transcript has, and how many entries its children may still add.
use Rattle.std.proofs.Common.{ℕ, ◌≤◌, ◌*◌, ◌+◌, ◌-◌, ◌^◌, min, List, [], ◌∷◌, ◌++◌, length, sum_by, arith}
use Rattle.std.proofs.lemmas.List.Sums.{sum_by-cons, sum_by-append, count_by-le-length}
use Rattle.kernel_ask.specs.Causes.{is_refusal, refused_in}
use Rattle.kernel_ask.specs.declared.ask.Entry.{Entry}
use Rattle.kernel_ask.specs.declared.ask.Phase.{Phase}
use Rattle.kernel_ask.specs.declared.ask.Phase.TheVariants.{Made, Begun, Unrun, Waited}
use Rattle.kernel_ask.specs.Listed.{calls_in, is_call}
use Rattle.kernel_ask.specs.Owed.{owed}

owed_one : (p : Phase) → owed p ≤ 2
owed_one Made = omega arith
owed_one Begun = omega arith
owed_one Unrun = omega arith
owed_one Waited = omega arith

pub owed_le : (ps : List Phase) → sum_by owed ps ≤ 2 * length ps
owed_le [] = omega arith
owed_le (p ∷ ps) = omega (arith, sum_by-cons owed p ps, owed_le ps, owed_one p)

pub calls_le : {F : Type 0} (es : List (Entry F)) → calls_in es ≤ length es
calls_le es = count_by-le-length (λ e. is_call e.ask) es

-- one entry more, and its refusal counted
pub covers_more : {F : Type 0} (es : List (Entry F)) (e : Entry F) (n m : ℕ) → min (refused_in es) (2 ^ 64 - 1) ≤ n → min (n + is_refusal e.answer) (2 ^ 64 - 1) ≤ m
    → min (refused_in (es ++ e ∷ [])) (2 ^ 64 - 1) ≤ m
covers_more es e n m h g = omega (arith, sum_by-append (λ e. is_refusal e.answer) es (e ∷ []), sum_by-cons (λ e. is_refusal e.answer) e [])
