-- Where something is open there is a frame.
use Rattle.std.specs.Prelude.{◌≡◌, Bool, true, false, List, [], ◌∷◌}
use Rattle.std.proofs.Common.{refl}
use Rattle.tree_build.specs.Fits.{Fits}
use Rattle.tree_build.specs.Frame.{Frame}
use Rattle.tree_build.specs.Loads.{Loads, frames_of}
use Rattle.tree_build.specs.declared.opening.Open.{Open}
use Rattle.tree_build.specs.declared.opening.Open.TheVariants as opens
use Rattle.tree_build.proofs.Moving.{fits_at}
use Rattle.tree_moves.specs.Tags as tag

some_open : (o : Open) (os : List Open) (b : Loads) → Fits [] (frames_of (o ∷ os) b) → ⊥
some_open (opens.Opened o) os b h = h
some_open opens.Text os b h = h
some_open opens.Subscript os b h = h
some_open (opens.Parameter quoted asked) os b h = h
some_open (opens.Formed quoted form) os b h = h
some_open (opens.Whole from to assigns) os b h = h
some_open (opens.Target from) os b h = h
some_open (opens.Element from) os b h = h
some_open (opens.Assigning append) os b h = h
some_open opens.Assigned os b h = h
some_open opens.Keyed os b h = h
some_open opens.Value os b h = h
some_open opens.Redirection os b h = h
some_open opens.HereOperator os b h = h
some_open opens.HereWord os b h = h
some_open opens.HereBody os b h = h
some_open opens.Redirected os b h = h
some_open (opens.Simple at line) os b h = h
some_open (opens.Compound line) os b h = h
some_open (opens.Finished line) os b h = h
some_open (opens.Stages line negated) os b h = h
some_open (opens.Piped line) os b h = h
some_open (opens.Linked line or) os b h = h
some_open (opens.Chain line) os b h = h
some_open opens.Lines os b h = h
some_open opens.Listed os b h = h
some_open (opens.FunctionName at line own_scope) os b h = h
some_open (opens.Defined line) os b h = h
some_open (opens.If line) os b h = h
some_open (opens.Then line) os b h = h
some_open (opens.Else line) os b h = h
some_open (opens.LoopBody line until) os b h = h
some_open (opens.ForName line select) os b h = h
some_open (opens.ForWords line select) os b h = h
some_open (opens.ForReady line select) os b h = h
some_open (opens.ForBody line select) os b h = h
some_open (opens.ForArithmetic line) os b h = h
some_open (opens.ForArithmeticBody line) os b h = h
some_open (opens.CaseWord line) os b h = h
some_open (opens.Cases line) os b h = h
some_open opens.Patterns os b h = h
some_open (opens.Terms negated) os b h = h
some_open opens.Operands os b h = h
some_open opens.Tested os b h = h

some_below : (os : List Open) (b : Loads) → (os ≡ [] → ⊥) → Fits [] (frames_of os b) → ⊥
some_below [] b some h = some refl
some_below (o ∷ os) b some h = some_open o os b h

-- a list with something below it is no whole script
pub more_than_listed : (old : List Frame) (os : List Open) (b : Loads) (f : Frame) → old ≡ f ∷ frames_of os b → (os ≡ [] → ⊥) → Fits (tag.Listed ∷ []) old → ⊥
more_than_listed old os b f e some fits =
    let h : Fits (tag.Listed ∷ []) (f ∷ frames_of os b) = fits_at (tag.Listed ∷ []) old (f ∷ frames_of os b) e fits in
    some_below os b some h.1

pub never_both : (b : Bool) → b ≡ true → b ≡ false → ⊥
never_both true t f = absurd cc
never_both false t f = absurd cc
