-- What the tree that is being built spells so far.
use Rattle.std.specs.Prelude.{ℕ, List, [], ◌∷◌, ◌++◌, length}
use Rattle.ksh_pattern.specs.declared.build.Opened.{Opened}
use Rattle.ksh_pattern.specs.declared.build.Builder.{Builder}
use Rattle.ksh_pattern.specs.declared.part.Part.{Part}
use Rattle.ksh_pattern.specs.declared.token.Token.{Token}
use Rattle.ksh_pattern.specs.declared.token.Token.TheVariants as token
use Rattle.ksh_pattern.specs.Reading.{spelling}

-- alternatives, each with the bar behind it
abbrev pub each_barred : List (List Part) → List Token
each_barred [] = []
each_barred (a ∷ rest) = spelling a ++ token.Bar ∷ each_barred rest

-- open groups, the outermost first
abbrev pub opened_spelling : List Opened → List Token
opened_spelling [] = []
opened_spelling (o ∷ rest) = spelling o.before ++ token.Open o.kind ∷ (each_barred o.alternatives ++ opened_spelling rest)

abbrev pub spelled : Builder → List Token
spelled b = opened_spelling b.opened ++ spelling b.parts

abbrev pub depth : Builder → ℕ
depth b = length b.opened
