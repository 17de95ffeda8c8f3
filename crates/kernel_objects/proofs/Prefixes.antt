-- Prefixes of paths.
use Rattle.std.proofs.Common.{◌≡◌, ℕ, ◌≢◌, List, [], ◌∷◌, length, refl}
use Rattle.kernel_objects.specs.Paths.{root_or}

-- a text that isn't empty stands for itself
pub itself : (front : List ℕ) → length front ≢ 0 → root_or front ≡ front
itself [] h = absurd (h refl)
itself (b ∷ bs) h = refl
