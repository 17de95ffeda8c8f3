-- What steps do to the tags of frames, one step behind another.
use Rattle.std.specs.Prelude.{◌≡◌, Bool, true, false, ◌||◌, List, [], ◌∷◌, ◌++◌, Option, Some, None, Result, if◌then◌else◌}
use Rattle.std.specs.List.{list_any}
use Rattle.ksh_syntax.specs.declared.part.Mark.{Mark}
use Rattle.tree_moves.specs.Moves.{Row, mark_rows}
use Rattle.tree_moves.specs.Tags.{Tag, same_tag}
use Rattle.tree_moves.specs.Tags as tag
use Rattle.tree_build.specs.Fits.{Moves}
use Rattle.tree_build.specs.Frame.{Frame}
use Rattle.tree_build.specs.Places.{place_at}
use Rattle.tree_build.specs.declared.place.Place.TheVariants as place
use Rattle.tree_build.specs.declared.unbuilt.Unbuilt.{Unbuilt}

-- the step does what each row says
abbrev pub AllMove : {A : Type 0} → List Row → List Frame → List Frame → Result A Unbuilt → Type 0
AllMove [] old new result = Unit {0}
AllMove (r ∷ rows) old new result = Moves r old new result × AllMove rows old new result

-- what is told for others changes nothing where something stands on top
abbrev pub MarkSays : {A : Type 0} → Option (List Row) → List Frame → List Frame → Result A Unbuilt → Type 0
MarkSays (Some rows) old new result = AllMove rows old new result
MarkSays None old new result = (place_at old 0 ≡ place.Nothing → ⊥) → Moves ([], []) old new result

abbrev pub MarkMoves : {A : Type 0} → Mark → List Frame → List Frame → Result A Unbuilt → Type 0
MarkMoves m old new result = MarkSays (mark_rows m) old new result

-- the tags that a frame of that tag has too
abbrev pub also : Tag → List Tag
also tag.SimpleEmpty = tag.Simple ∷ []
also tag.SimpleName = tag.Simple ∷ []
also tag.StagesFirst = tag.Stages ∷ []
also tag.NoLink = tag.Link ∷ []
also tag.Linked = tag.Link ∷ []
also tag.Whole = tag.AnyWhole ∷ []
also tag.WholeName = tag.Whole ∷ tag.AnyWhole ∷ []
also tag.WholeAssignment = tag.AnyWhole ∷ []
also tag.WholeUnary = tag.AnyWhole ∷ []
also tag.WholeBinary = tag.AnyWhole ∷ []
also tag.ParameterPath = tag.ParameterOther ∷ tag.AskedPath ∷ tag.AskedOther ∷ []
also tag.ParameterOther = tag.AskedOther ∷ []
also tag.TargetPath = tag.AskedPath ∷ tag.AskedOther ∷ []
also tag.AskedPath = tag.AskedOther ∷ []
also tag.FormedOnce = tag.FormedLast ∷ []
also tag.FormedTwice = tag.FormedLast ∷ []
also tag.OperandsOne = tag.Operands ∷ []
also tag.OperandsUnary = tag.OperandsOne ∷ tag.Operands ∷ []
also tag.OperandsBoth = tag.OperandsBinary ∷ tag.Operands ∷ []
also tag.ValueWord = tag.Value ∷ []
also tag.ValueNamed = tag.ValueWord ∷ tag.ValueBroken ∷ tag.Value ∷ []
also tag.ValueTypeset = tag.ValueBroken ∷ tag.Value ∷ []
also tag.ValueBroken = tag.Value ∷ []
also _ = []

abbrev pub is_also : Tag → Tag → Bool
is_also t u = same_tag t u || list_any (same_tag u) (also t)

-- how the tags on top compare with those that a step looks at
pub data Cut : Type 0 where
  -- they are these, and the rest stands below
  Above : List Tag → Cut
  -- the step looks at these below too
  Below : List Tag → Cut
  -- there is another
  Apart : Cut

abbrev pub cut : List Tag → List Tag → Cut
cut ts [] = Above ts
cut [] (u ∷ us) = Below (u ∷ us)
cut (t ∷ ts) (u ∷ us) = if is_also t u then cut ts us else Apart

-- a row behind another
abbrev pub joined : Cut → Row → Row → List Row
joined (Above more) first next = (first.0, next.1 ++ more) ∷ []
joined (Below more) first next = (first.0 ++ more, next.1) ∷ []
joined Apart first next = []

abbrev pub then_row : Row → List Row → List Row
then_row r [] = []
then_row r (n ∷ ns) = joined (cut r.1 n.0) r n ++ then_row r ns

-- a step behind another
abbrev pub then_rows : List Row → List Row → List Row
then_rows [] ns = []
then_rows (r ∷ rs) ns = then_row r ns ++ then_rows rs ns
