-- Something stands on top wherever frames fit.
use Rattle.std.specs.Prelude.{◌≡◌, List, [], ◌∷◌}
use Rattle.tree_build.specs.Fits.{Fits}
use Rattle.tree_build.specs.Frame.{Frame, Opened, Text, Subscript, Parameter, Formed, Whole, Target, Element, Assigning, Assigned, Keyed, Value, Redirection, HereOperator, HereWord, HereBody, Redirected, Simple, Compound, Finished, Stages, Piped, Linked, Chain, Lines, Listed, FunctionName, Defined, If, Then, Else, LoopBody, ForName, ForWords, ForReady, ForBody, ForArithmetic, ForArithmeticBody, CaseWord, Cases, Patterns, Terms, Operands, Tested}
use Rattle.tree_build.specs.Places.{place_at, place_of}
use Rattle.tree_build.specs.declared.opening.Opening.TheVariants as opening
use Rattle.tree_build.specs.declared.place.Place.TheVariants as place
use Rattle.tree_moves.specs.Tags.{Tag}

some_place : (f : Frame) → place_of f ≡ place.Nothing → ⊥
some_place (Opened opening.Bracket) h = absurd cc
some_place (Opened (opening.Braces a b)) h = absurd cc
some_place (Opened (opening.Substitution a b)) h = absurd cc
some_place (Opened (opening.Arithmetic a)) h = absurd cc
some_place (Opened (opening.WordStart a b)) h = absurd cc
some_place (Opened opening.NoLink) h = absurd cc
some_place (Opened (opening.Group a)) h = absurd cc
some_place (Opened (opening.Subshell a)) h = absurd cc
some_place (Opened (opening.ArithmeticCommand a)) h = absurd cc
some_place (Opened (opening.Loop a b)) h = absurd cc
some_place (Opened (opening.For a b)) h = absurd cc
some_place (Opened (opening.Case a)) h = absurd cc
some_place (Opened (opening.Function a b)) h = absurd cc
some_place (Opened (opening.ConditionCommand a)) h = absurd cc
some_place (Opened opening.Nested) h = absurd cc
some_place (Opened opening.MemberBody) h = absurd cc
some_place (Text a) h = absurd cc
some_place (Subscript a) h = absurd cc
some_place (Parameter a b c) h = absurd cc
some_place (Formed a b c d) h = absurd cc
some_place (Whole a b c d) h = absurd cc
some_place (Target a b) h = absurd cc
some_place (Element a b) h = absurd cc
some_place (Assigning a b) h = absurd cc
some_place (Assigned a) h = absurd cc
some_place (Keyed a) h = absurd cc
some_place (Value a) h = absurd cc
some_place (Redirection a b) h = absurd cc
some_place (HereOperator a) h = absurd cc
some_place (HereWord a b) h = absurd cc
some_place (HereBody a b) h = absurd cc
some_place (Redirected a) h = absurd cc
some_place (Simple a b c d e) h = absurd cc
some_place (Compound a b c) h = absurd cc
some_place (Finished a b) h = absurd cc
some_place (Stages a b c) h = absurd cc
some_place (Piped a b) h = absurd cc
some_place (Linked a b c d) h = absurd cc
some_place (Chain a b) h = absurd cc
some_place (Lines a) h = absurd cc
some_place (Listed a) h = absurd cc
some_place (FunctionName a b c d) h = absurd cc
some_place (Defined a b) h = absurd cc
some_place (If a b) h = absurd cc
some_place (Then a b c) h = absurd cc
some_place (Else a b) h = absurd cc
some_place (LoopBody a b c) h = absurd cc
some_place (ForName a b c) h = absurd cc
some_place (ForWords a b c d) h = absurd cc
some_place (ForReady a b c d) h = absurd cc
some_place (ForBody a b c d) h = absurd cc
some_place (ForArithmetic a b) h = absurd cc
some_place (ForArithmeticBody a b) h = absurd cc
some_place (CaseWord a b) h = absurd cc
some_place (Cases a b c) h = absurd cc
some_place (Patterns a) h = absurd cc
some_place (Terms a b c) h = absurd cc
some_place (Operands a) h = absurd cc
some_place (Tested a) h = absurd cc

pub on_top : (t : Tag) (rest : List Tag) (old : List Frame) → Fits (t ∷ rest) old → place_at old 0 ≡ place.Nothing → ⊥
on_top t rest [] fits h = fits
on_top t rest (f ∷ fs) fits h = some_place f h
