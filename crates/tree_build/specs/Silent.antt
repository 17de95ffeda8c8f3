-- Tokens of which a tree says nothing.
use Rattle.std.specs.Prelude.{ℕ, Bool, true, false, [], Option, Some, None}
use Rattle.ksh_syntax.specs.declared.kind.Kind.{Kind}
use Rattle.ksh_syntax.specs.declared.kind.Kind.TheVariants as kind
use Rattle.tree_build.specs.Frame.{Frame, ArithmeticCommand, Case, ConditionCommand, For, Function, Group, If, Loop, Subshell}
use Rattle.tree_build.specs.declared.place.Place.{Place}
use Rattle.tree_build.specs.declared.place.Place.TheVariants as place

-- a newline says nothing behind this
abbrev pub passes_newlines : Place → Bool
passes_newlines place.Lines = true
passes_newlines place.Linked = true
passes_newlines place.Stages = true
passes_newlines place.Function = true
passes_newlines place.FunctionName = true
passes_newlines place.ForName = true
passes_newlines place.ForReady = true
passes_newlines place.ForArithmetic = true
passes_newlines place.CaseWord = true
passes_newlines place.Cases = true
passes_newlines place.Terms = true
passes_newlines _ = false

abbrev is_silent_kind : Kind → Place → Bool
is_silent_kind kind.Semicolon place.ForName = true
is_silent_kind kind.Semicolon place.ForArithmetic = true
is_silent_kind kind.Open place.Patterns = true
is_silent_kind kind.Bar place.Patterns = true
is_silent_kind kind.Close place.Patterns = true
is_silent_kind kind.Close place.FunctionName = true
is_silent_kind kind.AndIf place.Terms = true
is_silent_kind kind.Assign place.Keyed = true
is_silent_kind _ p = false

-- newlines and what parts or closes parts by itself
abbrev pub is_silent : Kind → Place → Bool
is_silent kind.Newline p = passes_newlines p
is_silent kind.NewlineBodies p = passes_newlines p
is_silent k p = is_silent_kind k p

-- what opens a compound command or a function, whose first byte stands at a place and in a line
abbrev pub opened : Kind → ℕ → ℕ → Option Frame
opened kind.LeftBrace from line = Some (Group line)
opened kind.Open from line = Some (Subshell line)
opened kind.DoubleParenthesis from line = Some (ArithmeticCommand line)
opened kind.LeftBrackets from line = Some (ConditionCommand line)
opened kind.If from line = Some (If line [])
opened kind.While from line = Some (Loop line false)
opened kind.Until from line = Some (Loop line true)
opened kind.For from line = Some (For line false)
opened kind.Select from line = Some (For line true)
opened kind.Case from line = Some (Case line)
opened kind.Function from line = Some (Function from line)
opened _ from line = None
