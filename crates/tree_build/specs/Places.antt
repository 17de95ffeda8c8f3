-- What the frames of a builder are, as far as it decides what a token does to them.
use Rattle.std.specs.Prelude.{ℕ, Bool, false, slice_get, List, Option, Some, None}
use Rattle.tree_build.specs.Frame.{Frame, Opened, If, Then, Else, LoopBody, ForName, ForWords, ForReady, ForBody, ForArithmetic, ForArithmeticBody, CaseWord, Cases, Patterns, FunctionName, Terms, Operands, Value, Keyed, Text, Subscript, Parameter, Formed, Whole, Target, Element, Assigning, Redirection, HereOperator, Simple, Finished, Stages, Linked, Lines, Listed}
use Rattle.tree_build.specs.declared.opening.Opening.{Opening}
use Rattle.tree_build.specs.declared.opening.Opening.TheVariants as opening
use Rattle.tree_build.specs.declared.place.Place.{Place}
use Rattle.tree_build.specs.declared.place.Place.TheVariants as place

abbrev pub opening_place : Opening → Place
opening_place (opening.Loop a b) = place.Loop
opening_place (opening.For a b) = place.For
opening_place (opening.Case a) = place.Case
opening_place (opening.Function a b) = place.Function
opening_place (opening.ConditionCommand a) = place.ConditionCommand
opening_place opening.Nested = place.Nested
opening_place opening.MemberBody = place.MemberBody
opening_place opening.Bracket = place.Bracket
opening_place (opening.Substitution a b) = place.Substitution
opening_place (opening.Arithmetic a) = place.Arithmetic
opening_place (opening.WordStart a b) = place.WordStart
opening_place (opening.Group a) = place.Group
opening_place (opening.Subshell a) = place.Subshell
opening_place (opening.ArithmeticCommand a) = place.ArithmeticCommand
opening_place _ = place.Other

abbrev pub place_of : Frame → Place
place_of (Opened o) = opening_place o
place_of (If a b) = place.If
place_of (Then a b c) = place.Then
place_of (Else a b) = place.Else
place_of (LoopBody a b c) = place.LoopBody
place_of (ForName a b c) = place.ForName
place_of (ForWords a b c d) = place.ForWords
place_of (ForReady a b c d) = place.ForReady
place_of (ForBody a b c d) = place.ForBody
place_of (ForArithmetic a b) = place.ForArithmetic
place_of (ForArithmeticBody a b) = place.ForArithmeticBody
place_of (CaseWord a b) = place.CaseWord
place_of (Cases a b c) = place.Cases
place_of (Patterns a) = place.Patterns
place_of (FunctionName a b c d) = place.FunctionName
place_of (Terms a b c) = place.Terms
place_of (Operands a) = place.Operands
place_of (Value a) = place.Value
place_of (Keyed a) = place.Keyed
place_of (Text a) = place.Text
place_of (Subscript a) = place.Subscript
place_of (Parameter a b c) = place.Parameter
place_of (Formed a b c d) = place.Formed
place_of (Whole a b c d) = place.Whole
place_of (Target a b) = place.Target
place_of (Element a b) = place.Element
place_of (Assigning a b) = place.Assigning
place_of (Redirection a b) = place.Redirection
place_of (HereOperator a) = place.HereOperator
place_of (Simple a b c d e) = place.Simple
place_of (Finished a b) = place.Finished
place_of (Stages a b c) = place.Stages
place_of (Linked a b c d) = place.Linked
place_of (Lines a) = place.Lines
place_of (Listed a) = place.Listed
place_of _ = place.Other

abbrev pub place_if : Option Frame → Place
place_if (Some f) = place_of f
place_if None = place.Nothing

-- the place of the frame that stands so many below the top
abbrev pub place_at : List Frame → ℕ → Place
place_at fs below = place_if (slice_get fs below)

-- a word that begins with `path=` or `path+=`
abbrev pub is_assignment_frame : Frame → Bool
is_assignment_frame (Whole ps from to assigns) = assigns
is_assignment_frame _ = false

abbrev pub is_assignment_if : Option Frame → Bool
is_assignment_if (Some f) = is_assignment_frame f
is_assignment_if None = false

abbrev pub is_assignment_on_top : List Frame → Bool
is_assignment_on_top fs = is_assignment_if (slice_get fs 0)
