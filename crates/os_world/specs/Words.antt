-- The words that follow the program's name.
use Rattle.std.specs.Prelude.{◌≡◌, ℕ, ◌≤◌, List, Option, Some, None, length, take, slice_get}

abbrev pub IfTold : {X : Type 0} → Option X → (X → Type 0) → Type 0
IfTold None P = Unit {0}
IfTold (Some x) P = P x

-- what was found at a place of the words, and the bytes that were put into the room: the word of that place, or none past
-- the last
abbrev pub IsWord : Option (List (List ℕ)) → ℕ → Option ℕ → List ℕ → Type 0
IsWord told place (Some size) room = (size ≤ length room) × IfTold told (λ words. slice_get words place ≡ Some (take size room))
IsWord told place None room = IfTold told (λ words. slice_get words place ≡ None)
