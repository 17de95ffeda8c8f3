-- Arithmetic texts that are parsed with the script, and their faults.
use Rattle.std.specs.Prelude.{ℕ, suc, ◌+◌, ◌-◌, ◌==◌, Bool, true, false, ◌||◌, ◌&&◌, List, [], ◌∷◌, Option, Some, None, Result, Ok, Err, if◌then◌else◌}
use Rattle.arith_tree.specs.declared.expr.ArithExpr.{ArithExpr}
use Rattle.ksh_arith.specs.declared.fault.ArithRefused.{ArithRefused}
use Rattle.ksh_arith.specs.declared.fault.ArithRefused.TheVariants as refused
use Rattle.ksh_arith.specs.Grammar.{is_blank, parsed}
use Rattle.ksh_lexer.specs.declared.fault.SyntaxKind.{SyntaxKind}
use Rattle.ksh_lexer.specs.declared.fault.SyntaxKind.TheVariants as fault
use Rattle.ksh_syntax.specs.declared.kind.Kind.{Kind}
use Rattle.ksh_syntax.specs.declared.kind.Kind.TheVariants as kind
use Rattle.ksh_syntax.specs.declared.kind.Mode.{Mode}
use Rattle.ksh_syntax.specs.declared.kind.Mode.TheVariants as mode
use Rattle.ksh_scan.specs.declared.opening.Opening.{Opening}
use Rattle.ksh_scan.specs.declared.see.Seen.{Seen}
use Rattle.ksh_scan.specs.declared.state.State.{State}
use Rattle.ksh_scan.specs.Openings.{innermost, is_separator}
use Rattle.ksh_scan.specs.Seeing.{slice, text_of}

-- the kind of a fault, and its byte
abbrev pub Told : Type 0
Told = SyntaxKind × ℕ

-- `$`, a backquote or a quote
abbrev pub is_expanding : ℕ → Bool
is_expanding b = b == 36 || (b == 96 || (b == 34 || b == 39))

-- a text with one of them is expanded when it runs, and parsed then
abbrev pub expands : List ℕ → Bool
expands [] = false
expands (b ∷ bs) = is_expanding b || expands bs

abbrev pub is_join : ℕ → ℕ → Bool
is_join b c = b == 92 && c == 10

-- the text without the backslashes that stand before a newline, and those newlines
abbrev pub joined : List ℕ → List ℕ
joined [] = []
joined (b ∷ []) = b ∷ []
joined (b ∷ c ∷ bs) = if is_join b c then joined bs else b ∷ joined (c ∷ bs)

-- where the byte stands in the text that has so many before it in what is joined; the end where there are no more
abbrev pub place_of : List ℕ → ℕ → ℕ
place_of [] n = 0
place_of (b ∷ []) n = if n == 0 then 0 else 1
place_of (b ∷ c ∷ bs) n = if is_join b c then 2 + place_of bs n else (if n == 0 then 0 else 1 + place_of (c ∷ bs) (n - 1))

abbrev pub is_all_blank : List ℕ → Bool
is_all_blank [] = true
is_all_blank (b ∷ bs) = is_blank b && is_all_blank bs

-- the text is no expression, from a byte on, or has too many levels there
abbrev pub told_by : Result ArithExpr ArithRefused → Option Told
told_by (Err (refused.Bad at)) = Some (fault.BadArithmetic, at)
told_by (Err (refused.TooDeep at)) = Some (fault.TooDeep, at)
told_by _ = None

-- the fault of an expression, which may be left out or not
abbrev pub expression_fault : Bool → List ℕ → Option Told
expression_fault optional text = if optional && is_all_blank text then None else told_by (parsed text)

abbrev pub in_text : List ℕ → Option Told → Option Told
in_text text None = None
in_text text (Some told) = Some (told.0, place_of text told.1)

-- the fault of an arithmetic text
abbrev pub arithmetic_fault : Bool → List ℕ → Option Told
arithmetic_fault optional text = if expands text then None else in_text text (expression_fault optional (joined text))

abbrev pub is_close : Kind → Bool
is_close kind.Close = true
is_close _ = false

-- `))` ends an arithmetic text, and `;` those of `for` but the last
abbrev pub ends_arithmetic : Mode → Kind → Bool
ends_arithmetic mode.Arithmetic k = is_close k
ends_arithmetic mode.LoopArithmetic k = is_separator k
ends_arithmetic _ k = false

abbrev pub is_loop : Mode → Bool
is_loop mode.LoopArithmetic = true
is_loop _ = false

abbrev pub behind : ℕ → Option Told → Option Told
behind from None = None
behind from (Some told) = Some (told.0, from + told.1)

-- the three texts of `for` may be left out
abbrev pub fault_within : List ℕ → Mode → ℕ → Option Opening → Option Told
fault_within text m end None = None
fault_within text m end (Some o) = behind o.part (arithmetic_fault (is_loop m || o.is_later) (slice text o.part end))

-- the fault of the arithmetic text that the token ends, if any
abbrev pub bad_arithmetic : State → Mode → Seen → Option Told
bad_arithmetic s m n = if ends_arithmetic m n.kind then fault_within (text_of s) m n.token.from (innermost s.source.openings) else None
