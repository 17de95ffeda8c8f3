-- Which texts a pattern matches.
use Rattle.std.specs.Prelude.{ℕ, zero, suc, List, [], ◌∷◌, Bool, true, false, ◌||◌, ◌&&◌, not, length, map}
use Rattle.ksh_pattern.specs.ByteTests.{accepts}
use Rattle.ksh_pattern.specs.declared.byte_test.ByteTest.{ByteTest}
use Rattle.ksh_pattern.specs.declared.part.Kind.{Kind}
use Rattle.ksh_pattern.specs.declared.part.Kind.TheVariants.{Optional, Any, Many, One, Not}
use Rattle.ksh_pattern.specs.declared.part.Part.{Part, Part-F, fold-Part}

-- a set of texts
abbrev pub Texts : Type 0
Texts = List ℕ → Bool

abbrev pub is_empty_text : Texts
is_empty_text [] = true
is_empty_text (c ∷ w) = false

-- the texts of one byte that passes
abbrev pub one_byte : ByteTest → Texts
one_byte test [] = false
one_byte test (c ∷ w) = accepts test c && is_empty_text w

-- a text of the first set and then one of the second: some cut of the text makes them
abbrev pub some_cut : Texts → Texts → Texts
some_cut p q [] = p [] && q []
some_cut p q (c ∷ w) = (p [] && q (c ∷ w)) || some_cut (λ x. p (c ∷ x)) q w

-- one text of each set, in order
abbrev pub joined : List Texts → Texts
joined [] = is_empty_text
joined (p ∷ ps) = some_cut p (joined ps)

-- a text of one of the sets
abbrev pub either : List Texts → Texts
either [] w = false
either (p ∷ ps) w = p w || either ps w

-- at most so many texts of the set that aren't empty, one after another
abbrev pub chained : ℕ → Texts → Texts
chained n p [] = true
chained zero p (c ∷ w) = false
chained (suc n) p (c ∷ w) = some_cut (λ x. p (c ∷ x)) (chained n p) w

-- any number of texts of the set, one after another: a text has no more of them than bytes, empty ones aside
abbrev pub any_number : Texts → Texts
any_number p w = chained (length w) p w

abbrev pub repeated : Kind → Texts → Texts
repeated Optional p w = is_empty_text w || p w
repeated Any p w = any_number p w
repeated Many p w = some_cut p (any_number p) w
repeated One p w = p w
repeated Not p w = not (p w)

-- whether a repeated set has the empty text, where the set has it or not
abbrev pub has_empty : Kind → Bool → Bool
has_empty Optional one = true
has_empty Any one = true
has_empty Many one = one
has_empty One one = one
has_empty Not one = not one

-- the same, where `!` passes for `@`
abbrev pub may_vanish : Kind → Bool → Bool
may_vanish Not one = one
may_vanish kind one = has_empty kind one

abbrev pub is_not : Kind → Bool
is_not Not = true
is_not kind = false

-- whether alternatives may follow each other
abbrev pub goes_on : Kind → Bool
goes_on Any = true
goes_on Many = true
goes_on kind = false

-- one level of a pattern, with the texts of each part in its place
abbrev pub part_step : Part-F Texts → Texts
part_step (Part-F.One test) w = one_byte test w
part_step Part-F.AnyText w = true
part_step (Part-F.Group kind alternatives) w = repeated kind (either (map joined alternatives)) w

abbrev pub part_matches : Part → Texts
part_matches = fold-Part Texts part_step

-- the texts that a list of parts matches, one part after another
abbrev pub matches : List Part → Texts
matches parts = joined (map part_matches parts)

-- the texts that one of the alternatives matches
abbrev pub one_matches : List (List Part) → Texts
one_matches alternatives = either (map matches alternatives)
