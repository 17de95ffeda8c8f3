-- Where frames with a tag stand.
use Rattle.std.specs.Prelude.{◌≡◌}
use Rattle.std.proofs.Common.{refl}
use Rattle.tree_build.specs.Fits.{Is}
use Rattle.tree_build.specs.Frame.{Frame, Opened, Text, Subscript, Parameter, Formed, Whole, Target, Element, Assigning, Assigned, Keyed, Value, Redirection, HereOperator, HereWord, HereBody, Redirected, Simple, Compound, Finished, Stages, Piped, Linked, Chain, Lines, Listed, FunctionName, Defined, If, Then, Else, LoopBody, ForName, ForWords, ForReady, ForBody, ForArithmetic, ForArithmeticBody, CaseWord, Cases, Patterns, Terms, Operands, Tested}
use Rattle.tree_build.specs.Places.{place_of}
use Rattle.tree_build.specs.declared.opening.Opening.TheVariants as opening
use Rattle.tree_build.specs.declared.place.Place.TheVariants as place
use Rattle.tree_moves.specs.Tags as tag

pub lines_stands : (f : Frame) → Is tag.Lines f → place_of f ≡ place.Lines
lines_stands (Lines x0) h = refl
lines_stands _ h = absurd h

pub finished_stands : (f : Frame) → Is tag.Finished f → place_of f ≡ place.Finished
finished_stands (Finished x0 x1) h = refl
finished_stands _ h = absurd h

pub operands_stands : (f : Frame) → Is tag.Operands f → place_of f ≡ place.Operands
operands_stands (Operands x0) h = refl
operands_stands _ h = absurd h

pub then_stands : (f : Frame) → Is tag.Then f → place_of f ≡ place.Then
then_stands (Then x0 x1 x2) h = refl
then_stands _ h = absurd h

pub else_stands : (f : Frame) → Is tag.Else f → place_of f ≡ place.Else
else_stands (Else x0 x1) h = refl
else_stands _ h = absurd h

pub chain_stands : (f : Frame) → Is tag.Chain f → place_of f ≡ place.Other
chain_stands (Chain x0 x1) h = refl
chain_stands _ h = absurd h

pub tested_stands : (f : Frame) → Is tag.Tested f → place_of f ≡ place.Other
tested_stands (Tested x0) h = refl
tested_stands _ h = absurd h

-- behind a pipeline stands one more, or none
pub linked_stands : (f : Frame) → Is tag.Link f → place_of f ≡ place.Linked → Is tag.Linked f
linked_stands (Opened opening.NoLink) h at = absurd cc
linked_stands (Linked x0 x1 x2 x3) h at = tt
linked_stands _ h at = absurd h

pub no_link_stands : (f : Frame) → Is tag.Link f → (place_of f ≡ place.Linked → ⊥) → Is tag.NoLink f
no_link_stands (Opened opening.NoLink) h at = tt
no_link_stands (Linked x0 x1 x2 x3) h at = absurd (at refl)
no_link_stands _ h at = absurd h
