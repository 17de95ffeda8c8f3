-- The texts around a text, the innermost first.
use Rattle.std.proofs.Common.{◌≡◌, ◌++◌, ◌∷◌, [], List, reverse}
use Rattle.std.proofs.lemmas.List.{reverse-append}
use Rattle.ksh_unparse.specs.declared.paper.Frame.{Frame}

pub opened : (outer : List Frame) (f : Frame) → reverse (outer ++ f ∷ []) ≡ f ∷ reverse outer
opened outer f = reverse-append outer (f ∷ [])

pub closed : (outer : List Frame) (f : Frame) → reverse (outer ++ f ∷ []) ≡ f ∷ reverse outer
closed outer f = reverse-append outer (f ∷ [])
