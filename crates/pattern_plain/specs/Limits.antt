-- Which patterns are small enough.
use Rattle.std.specs.Prelude.{ℕ, List, Bool, true, ◌&&◌, nat_le, length}
use Rattle.std.specs.List.{list_all}
use Rattle.ksh_pattern.specs.declared.part.Part.{Part, Part-F, fold-Part}

-- no more than 64 items, each of which fits
abbrev pub few : {A : Type 0} → (A → Bool) → List A → Bool
few test items = nat_le (length items) 64 && list_all test items

-- one level of a part, with whether each part below fits in its place
abbrev pub fit_step : Part-F Bool → Bool
fit_step (Part-F.One test) = true
fit_step Part-F.AnyText = true
fit_step (Part-F.Group kind alternatives) = list_all (few (λ fit. fit)) alternatives

-- each alternative in the part has no more than 64 parts
abbrev pub fits : Part → Bool
fits = fold-Part Bool fit_step

abbrev pub all_fit : List Part → Bool
all_fit = few fits
