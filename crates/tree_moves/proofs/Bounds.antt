-- What each part of the grammar does to what is open in a text.
use Rattle.std.specs.Prelude.{◌≡◌, Bool, false, List, [], ◌∷◌}
use Rattle.ksh_syntax.specs.declared.part.Part as declared
use Rattle.ksh_syntax.specs.declared.part.Part.TheVariants as part
use Rattle.ksh_syntax.specs.declared.part.Ending.{Ending}
use Rattle.ksh_syntax.specs.declared.part.Ending.TheVariants as ending
use Rattle.tree_moves.specs.HereWords.{innermost}

pub data Bounds : Type 0 where
  -- it stands inside whatever is open
  Any : Bounds
  -- what was opened last before it, if anything, is no word of a here-document
  Plain : Bounds
  -- the same, and the part closes it
  Closes : Bounds

abbrev pub list_bounds : Ending → Bounds
list_bounds ending.Case = Closes
list_bounds e = Plain

abbrev pub bounds : declared.Part → Bounds
bounds (part.Text m) = Any
bounds (part.Lines e) = list_bounds e
bounds (part.Body e) = list_bounds e
bounds (part.Commands e) = list_bounds e
bounds (part.Piped e) = list_bounds e
bounds (part.AfterName e) = list_bounds e
bounds (part.AfterSimple e) = list_bounds e
bounds (part.AfterCompound e) = list_bounds e
bounds part.Parameter = Closes
bounds part.LengthOf = Closes
bounds part.LengthPath = Closes
bounds part.TargetPath = Closes
bounds part.PathForm = Closes
bounds part.SpecialForm = Closes
bounds part.SliceEnd = Closes
bounds part.ReplaceEnd = Closes
bounds part.IfBody = Closes
bounds part.IfRest = Closes
bounds part.LoopBody = Closes
bounds part.ForBody = Closes
bounds part.SelectBody = Closes
bounds part.ForWords = Closes
bounds part.ForLines = Closes
bounds part.WordList = Closes
bounds part.CaseBody = Closes
bounds part.CaseItems = Closes
bounds part.ItemElement = Closes
bounds part.Items = Closes
bounds part.ItemsMixed = Closes
bounds part.ItemsMembers = Closes
bounds part.MemberFunction = Closes
bounds part.TypesetMember = Closes
bounds part.ItemsTypeset = Closes
bounds part.ItemsFunction = Closes
bounds part.ItemsBrace = Closes
bounds part.AfterItemName = Closes
bounds part.ItemsWords = Closes
bounds part.ItemsPairs = Closes
bounds part.MemberRedirections = Closes
bounds _ = Plain

-- what a part closes
abbrev pub front : Bounds → List Bool
front Any = []
front Plain = []
front Closes = false ∷ []

-- what stands outside
abbrev pub Stands : Bounds → List Bool → Type 0
Stands Any os = Unit {0}
Stands Plain os = innermost os ≡ false
Stands Closes os = Unit {0}
