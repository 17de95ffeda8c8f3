-- Tokens that are read in modes: a terminal takes kinds of token in one mode, and each part begins in one.
use Rattle.std.specs.Prelude.{ℕ, Bool, ◌&&◌, Option}

module _ {M K : Type 0} where
  -- two facts on a mode and a kind, both of which must hold
  abbrev pub with_mode : {X : Type 0} → (X → M → Bool) → (X → K → Bool) → X → M × K → Bool
  with_mode in_mode of_kind x mk = in_mode x mk.0 && of_kind x mk.1

  -- the kind alone chooses the rule
  abbrev pub by_kind : {P S : Type 0} → (P → ℕ → K → Option S) → P → ℕ → M × K → Option S
  by_kind choose p d mk = choose p d mk.1
