-- What is left of a pattern that is being matched.
use Rattle.std.specs.Prelude.{List, [], ◌∷◌, true, false, ◌||◌, ◌&&◌, not, map}
use Rattle.std.specs.Global.{Vec}
use Rattle.std.specs.List.{list_any}
use Rattle.ksh_pattern.specs.Match.{Texts, is_empty_text, one_byte, some_cut, either, any_number, repeated, one_matches}
use Rattle.ksh_pattern.specs.declared.part.Kind.{Kind}
use Rattle.ksh_pattern.specs.declared.part.Kind.TheVariants.{Any, Many, Not}
use Rattle.ksh_pattern.specs.declared.cell.Cell.{Cell, Cell-F, fold-Cell}

-- of a part: the texts that it matches, and those that lead from one of its marks to its end
abbrev pub Meaning : Type 0
Meaning = Texts × Texts

abbrev pub wholes : List Meaning → Texts
wholes [] = is_empty_text
wholes (m ∷ ms) = some_cut m.0 (wholes ms)

-- from a mark to its part's end, and then through the parts after it
abbrev pub rests : List Meaning → Texts
rests [] w = false
rests (m ∷ ms) w = some_cut m.1 (wholes ms) w || rests ms w

abbrev pub some_whole : List (Vec Meaning) → Texts
some_whole alternatives = either (map (λ (v : Vec Meaning). wholes v.items) alternatives)

abbrev pub some_rest : List (Vec Meaning) → Texts
some_rest alternatives = either (map (λ (v : Vec Meaning). rests v.items) alternatives)

-- what a group other than `!`, which has a cell of its own, makes of a set
abbrev pub looped : Kind → Texts → Texts
looped Not p w = p w
looped kind p w = repeated kind p w

-- from a mark in a repeated group to its end: through the repetition at hand, and any number of further ones
abbrev pub rest_repeated : Kind → Texts → Texts → Texts
rest_repeated Any p r w = some_cut r (any_number p) w
rest_repeated Many p r w = some_cut r (any_number p) w
rest_repeated kind p r w = r w

abbrev pub cell_step : Cell-F Meaning → Meaning
cell_step (Cell-F.One test mark) = (one_byte test, λ w. mark && is_empty_text w)
cell_step (Cell-F.AnyText mark) = (λ w. true, λ w. mark)
cell_step (Cell-F.Group kind alternatives) =
    (looped kind (some_whole alternatives.items), rest_repeated kind (some_whole alternatives.items) (some_rest alternatives.items))
cell_step (Cell-F.Not alternatives copies) =
    (repeated Not (one_matches alternatives), λ w. list_any (λ (copy : Vec (Vec Meaning)). not (some_rest copy.items w)) copies.items)

abbrev pub meaning : Cell → Meaning
meaning = fold-Cell Meaning cell_step

abbrev pub whole : Cell → Texts
whole c = (meaning c).0

abbrev pub rest : Cell → Texts
rest c = (meaning c).1

abbrev pub whole_all : List Cell → Texts
whole_all cells = wholes (map meaning cells)

abbrev pub rest_all : List Cell → Texts
rest_all cells = rests (map meaning cells)

abbrev pub whole_some : List (Vec Cell) → Texts
whole_some alternatives = either (map (λ (v : Vec Cell). whole_all v.items) alternatives)

abbrev pub rest_some : List (Vec Cell) → Texts
rest_some alternatives = either (map (λ (v : Vec Cell). rest_all v.items) alternatives)

-- what is left of a `!` group: the texts with which one of its copies doesn't end
abbrev pub rest_copies : List (Vec (Vec Cell)) → Texts
rest_copies copies w = list_any (λ (copy : Vec (Vec Cell)). not (rest_some copy.items w)) copies
