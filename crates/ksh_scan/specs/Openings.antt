-- What is open in a text.
use Rattle.std.specs.Prelude.{ℕ, ◌-◌, Bool, true, false, ◌||◌, List, [], ◌∷◌, ◌++◌, length, slice_get, Option, Some, None, if◌then◌else◌}
use Rattle.ksh_lexer.specs.declared.kind.TokenKind.{TokenKind}
use Rattle.ksh_lexer.specs.declared.kind.TokenKind.TheVariants as token
use Rattle.ksh_syntax.specs.declared.kind.Kind.{Kind}
use Rattle.ksh_syntax.specs.declared.kind.Kind.TheVariants as kind
use Rattle.ksh_syntax.specs.declared.part.Mark.{Mark}
use Rattle.ksh_syntax.specs.declared.part.Mark.TheVariants as mark
use Rattle.ksh_scan.specs.declared.opening.HereOperator.{HereOperator}
use Rattle.ksh_scan.specs.declared.opening.Opened.{Opened}
use Rattle.ksh_scan.specs.declared.opening.Opened.TheVariants.{Quote, Substitution, Backquote, Word, HereWord, Compound}
use Rattle.ksh_scan.specs.declared.opening.Opening.{Opening}

-- what a token opens; a word that begins behind the operator of a here-document is its word
abbrev pub opened_by : TokenKind → Option HereOperator → Opened
opened_by token.OpenQuote here = Quote
opened_by token.Backquote here = Backquote
opened_by token.OpenSubstitution here = Substitution
opened_by token.OpenParameter here = Substitution
opened_by token.OpenArithmetic here = Substitution
opened_by token.Start (Some operator) = HereWord operator
opened_by token.Start None = Word
opened_by _ here = Compound

-- what was opened last
abbrev pub innermost : List Opening → Option Opening
innermost openings = slice_get openings (length openings - 1)

abbrev pub without_last : List Opening → List Opening
without_last [] = []
without_last (o ∷ []) = []
without_last (o ∷ p ∷ openings) = o ∷ without_last (p ∷ openings)

abbrev pub is_backquote : Opened → Bool
is_backquote Backquote = true
is_backquote _ = false

-- a backquote is open
abbrev pub in_backquotes : List Opening → Bool
in_backquotes [] = false
in_backquotes (o ∷ openings) = is_backquote o.opened || in_backquotes openings

-- a token's mark opens what the token opens, or closes what was opened last
abbrev pub told : Mark → Opening → List Opening → List Opening
told mark.Opens o openings = openings ++ o ∷ []
told mark.Closes o openings = without_last openings
told _ o openings = openings

abbrev pub told_all : List Mark → Opening → List Opening → List Opening
told_all [] o openings = openings
told_all (m ∷ marks) o openings = told_all marks o (told m o openings)

-- another part of what was opened last begins there
abbrev pub later_part : ℕ → Option Opening → List Opening → List Opening
later_part at None openings = openings
later_part at (Some o) openings = without_last openings ++ record o { part = at; is_later = true } ∷ []

abbrev pub is_separator : Kind → Bool
is_separator kind.Separator = true
is_separator _ = false

-- a separator ends a part
abbrev pub parted_by : Kind → ℕ → List Opening → List Opening
parted_by k at openings = if is_separator k then later_part at (innermost openings) openings else openings
