-- What the frames of a builder have read.
use Rattle.std.specs.Prelude.{◌≡◌, ℕ, List, [], ◌∷◌, Result, Ok, Err}
use Rattle.tree_build.specs.Frame.{Frame}
use Rattle.tree_build.specs.declared.unbuilt.Unbuilt.{Unbuilt}
use Rattle.tree_build.specs.Heard.{Heard}
use Rattle.tree_build.specs.Reads.{Reads}

-- the frames, the one on top first, have read what stands between
abbrev pub Stands : List ℕ → List Heard → List Frame → List Heard → Type 0
Stands script from [] to = from ≡ to
Stands script from (f ∷ fs) to = (at : List Heard) × Stands script from fs at × Reads script at to f

-- the frames have read one more
abbrev pub Hears : Heard → List Frame → List Frame → Type 0
Hears h old new = (script : List ℕ) (from to : List Heard) → Stands script from old (h ∷ to) → Stands script from new to

-- they have read the same
abbrev pub Keeps : List Frame → List Frame → Type 0
Keeps old new = (script : List ℕ) (from to : List Heard) → Stands script from old to → Stands script from new to

abbrev pub HearsIn : List ℕ → Heard → List Frame → List Frame → Type 0
HearsIn script h old new = (from to : List Heard) → Stands script from old (h ∷ to) → Stands script from new to

abbrev pub KeepsIn : List ℕ → List Frame → List Frame → Type 0
KeepsIn script old new = (from to : List Heard) → Stands script from old to → Stands script from new to

abbrev pub Grows : {A : Type 0} → Heard → List Frame → List Frame → Result A Unbuilt → Type 0
Grows h old new (Ok a) = Hears h old new
Grows h old new (Err e) = Unit {0}

abbrev pub Stays : {A : Type 0} → List Frame → List Frame → Result A Unbuilt → Type 0
Stays old new (Ok a) = Keeps old new
Stays old new (Err e) = Unit {0}

-- the same where the script's bytes are looked at
abbrev pub GrowsIn : {A : Type 0} → List ℕ → Heard → List Frame → List Frame → Result A Unbuilt → Type 0
GrowsIn script h old new (Ok a) = HearsIn script h old new
GrowsIn script h old new (Err e) = Unit {0}

abbrev pub StaysIn : {A : Type 0} → List ℕ → List Frame → List Frame → Result A Unbuilt → Type 0
StaysIn script old new (Ok a) = KeepsIn script old new
StaysIn script old new (Err e) = Unit {0}
