-- What one step of reading does to what is left to read.
use Rattle.std.specs.Prelude.{◌≡◌, ◌≤◌, ◌<◌, ℕ, true, List, ◌++◌, reverse, map, Option, Some, None, Result, Ok, Err, slice_get}
use Rattle.ksh_grammar.specs.declared.symbol.Place.{Place}
use Rattle.ksh_grammar.specs.declared.symbol.Place.TheVariants as place
use Rattle.ksh_grammar.specs.declared.symbol.Symbol.{Symbol}
use Rattle.ksh_grammar.specs.declared.symbol.Symbol.TheVariants.{Token, Part, Make}
use Rattle.ksh_grammar.specs.Rules.{at, opens}
use Rattle.ksh_base.specs.declared.memory.Memory.{Memory}
use Rattle.ksh_syntax.specs.declared.kind.Kind.{Kind}
use Rattle.ksh_syntax.specs.declared.kind.Kind.TheVariants as kind
use Rattle.ksh_syntax.specs.declared.part.Terminal.{Terminal}
use Rattle.ksh_syntax.specs.declared.part.Part as declared
use Rattle.ksh_syntax.specs.declared.part.Mark.{Mark}
use Rattle.ksh_syntax.specs.declared.reading.Step.{Step}
use Rattle.ksh_syntax.specs.declared.reading.Step.TheVariants.{Read, Refused, TooDeep}
use Rattle.ksh_syntax.specs.Rules.{Rule, rules}
use Rattle.ksh_syntax.specs.Pick.{pick}

-- so many openings may stand inside one another
abbrev pub limit : ℕ
limit = 64

-- a place of a rule inside so many openings, where what it opens stands inside `inner`
abbrev pub placed : ℕ → ℕ → Place Terminal declared.Part Mark → Symbol Terminal declared.Part Mark
placed d inner (place.Token c) = Token c
placed d inner (place.Part p) = Part p d
placed d inner (place.Inside p) = Part p inner
placed d inner (place.Make m) = Make m

abbrev pub Left : Type 0
Left = List (Symbol Terminal declared.Part Mark)

-- The rule is put in front of what is left, whose front stands last in the list that is kept, unless it opens something
-- inside too many openings. Exactly where there is none nothing is.
abbrev pub IsPut : Option Rule → ℕ → Result Step Memory → Left → Left → Type 0
IsPut (Some rule) d (Ok Read) old new = (opens rule ≡ true → d < limit) × (reverse new ≡ map (at d) rule ++ reverse old)
IsPut (Some rule) d (Ok TooDeep) old new = (opens rule ≡ true) × (limit ≤ d)
IsPut (Some rule) d (Ok Refused) old new = ⊥
IsPut None d (Ok Refused) old new = Unit {0}
IsPut None d (Ok _) old new = ⊥
IsPut chosen d (Err e) old new = Unit {0}

-- a part is read by the rule that the kind of the token in hand picks
abbrev pub IsRead : declared.Part → ℕ → Kind → Result Step Memory → Left → Left → Type 0
IsRead p d k = IsPut (slice_get (rules p) (pick p k)) d

-- one of the kinds that quote
abbrev pub IsQuoting : Kind → Type 0
IsQuoting kind.Single = Unit {0}
IsQuoting kind.Ansi = Unit {0}
IsQuoting kind.OpenQuote = Unit {0}
IsQuoting _ = ⊥
