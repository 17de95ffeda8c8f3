use Rattle.std.specs.Prelude.{ℕ, Bool, nat_eq, List}
use lib.Pointwise.{pointwise}

abbrev pub same_numbers : List ℕ → List ℕ → Bool
same_numbers = pointwise nat_eq
