-- What a part of a pattern is, one level at a time.
use Rattle.std.proofs.Common.{◌≡◌, ℕ, map, Bool, true, ◌||◌, not, List, [], ◌∷◌, refl, ap, sym, ◌∙◌}
use Rattle.std.proofs.Math.Bool.{and-true}
use Rattle.std.proofs.lemmas.Simd.{map-map}
use Rattle.std.specs.Global.{Vec}
use Rattle.std.specs.List.{list_any}
use Rattle.ksh_pattern.specs.declared.byte_test.ByteTest.{ByteTest}
use Rattle.ksh_pattern.specs.declared.part.Kind.{Kind}
use Rattle.ksh_pattern.specs.declared.part.Kind.TheVariants as kind
use Rattle.ksh_pattern.specs.declared.part.Part.{Part, Part-F, fold-roll-Part}
use Rattle.ksh_pattern.specs.declared.part.Part.TheVariants as part
use Rattle.ksh_pattern.specs.declared.cell.Cell.{Cell, Cell-F, fold-roll-Cell}
use Rattle.ksh_pattern.specs.declared.cell.Cell.TheVariants as cell
use Rattle.ksh_pattern.specs.declared.cell.Cell.TheShapes as shape
use Rattle.ksh_pattern.specs.Match.{Texts, one_byte, joined, either, repeated, part_step, part_matches, one_matches, has_empty}
use Rattle.ksh_pattern.specs.Cells.{Meaning, cell_step, meaning, whole, rest, whole_some, rest_some, rest_repeated, wholes, rests, some_rest, looped}

pub group_matches : (k : Kind) (alternatives : List (List Part)) (w : List ℕ) → part_matches (part.Group k alternatives) w ≡ repeated k (one_matches alternatives) w
group_matches k alternatives w =
    ap (λ p. part_matches p w) (sym (part.rolls-Group k alternatives))
    ∙ ap (λ f. f w) (fold-roll-Part Texts part_step (Part-F.Group k alternatives))
    ∙ ap (λ ts. repeated k (either ts) w) (map-map joined _ alternatives)

-- a part that is known to be a group
pub group_is : (p : Part) (k k' : Kind) (alternatives : List (List Part)) → p ≡ part.Group k alternatives → k ≡ k' → (w : List ℕ) → part_matches p w ≡ repeated k' (one_matches alternatives) w
group_is p k k' alternatives e f w = ap (λ q. part_matches q w) e ∙ group_matches k alternatives w ∙ ap (λ j. repeated j (one_matches alternatives) w) f

-- a list of cells with the meaning of each in its place
abbrev meanings : Vec Cell → Vec Meaning
meanings = (shape.former-Cell-Group-1-at-1).map Cell Meaning meaning

abbrev meanings_of : Vec (Vec Cell) → Vec (Vec Meaning)
meanings_of = (shape.former-Cell-Group-1-at-2).map Cell Meaning meaning

pub group_meaning : (k : Kind) (alternatives : Vec (Vec Cell)) → meaning (cell.Group k alternatives) ≡ (looped k (whole_some alternatives.items), rest_repeated k (whole_some alternatives.items) (rest_some alternatives.items))
group_meaning k alternatives =
    ap meaning (sym (cell.rolls-Group k alternatives))
    ∙ fold-roll-Cell Meaning cell_step (Cell-F.Group k alternatives)
    ∙ (λ i. (looped k (either (map-map (λ (v : Vec Meaning). wholes v.items) meanings alternatives.items i)), rest_repeated k (either (map-map (λ (v : Vec Meaning). wholes v.items) meanings alternatives.items i)) (either (map-map (λ (v : Vec Meaning). rests v.items) meanings alternatives.items i))))

any-map : {A B : Type 0} (p : B → Bool) (f : A → B) (xs : List A) → list_any p (map f xs) ≡ list_any (λ x. p (f x)) xs
any-map p f [] = refl
any-map p f (x ∷ xs) = ap (λ b. p (f x) || b) (any-map p f xs)

any-same : {A : Type 0} (p q : A → Bool) → ((x : A) → p x ≡ q x) → (xs : List A) → list_any p xs ≡ list_any q xs
any-same {A = A} p q h xs = ap (λ (f : A → Bool). list_any f xs) (λ i x. h x i)

pub not_meaning : (alternatives : List (List Part)) (copies : Vec (Vec (Vec Cell))) → meaning (cell.Not alternatives copies) ≡ (repeated kind.Not (one_matches alternatives), λ w. list_any (λ (copy : Vec (Vec Cell)). not (rest_some copy.items w)) copies.items)
not_meaning alternatives copies =
    ap meaning (sym (cell.rolls-Not alternatives copies))
    ∙ fold-roll-Cell Meaning cell_step (Cell-F.Not alternatives copies)
    ∙ (λ i. (repeated kind.Not (one_matches alternatives), λ w. (any-map (λ (copy : Vec (Vec Meaning)). not (some_rest copy.items w)) meanings_of copies.items ∙ any-same _ (λ (copy : Vec (Vec Cell)). not (rest_some copy.items w)) (λ copy. ap (λ (ts : List Texts). not (either ts w)) (map-map (λ (v : Vec Meaning). rests v.items) meanings copy.items)) copies.items) i))

repeated_empty : (k : Kind) (p : Texts) → repeated k p [] ≡ has_empty k (p [])
repeated_empty kind.Optional p = refl
repeated_empty kind.Any p = refl
repeated_empty kind.Many p = and-true (p [])
repeated_empty kind.One p = refl
repeated_empty kind.Not p = refl

pub group_empty : (p : Part) (k : Kind) (alternatives : List (List Part)) → p ≡ part.Group k alternatives → part_matches p [] ≡ has_empty k (one_matches alternatives [])
group_empty p k alternatives e = ap (λ q. part_matches q []) e ∙ group_matches k alternatives [] ∙ repeated_empty k (one_matches alternatives)

-- a cell that is known to be a group, or a `!` group
pub cell_whole : (k : Kind) (alternatives : Vec (Vec Cell)) (w : List ℕ) → whole (cell.Group k alternatives) w ≡ looped k (whole_some alternatives.items) w
cell_whole k alternatives w = ap (λ (m : Meaning). m.0 w) (group_meaning k alternatives)

pub cell_rest : (k : Kind) (alternatives : Vec (Vec Cell)) (w : List ℕ) → rest (cell.Group k alternatives) w ≡ rest_repeated k (whole_some alternatives.items) (rest_some alternatives.items) w
cell_rest k alternatives w = ap (λ (m : Meaning). m.1 w) (group_meaning k alternatives)

pub not_whole : (alternatives : List (List Part)) (copies : Vec (Vec (Vec Cell))) (w : List ℕ) → whole (cell.Not alternatives copies) w ≡ not (one_matches alternatives w)
not_whole alternatives copies w = ap (λ (m : Meaning). m.0 w) (not_meaning alternatives copies)

pub not_rest : (alternatives : List (List Part)) (copies : Vec (Vec (Vec Cell))) (w : List ℕ) → rest (cell.Not alternatives copies) w ≡ list_any (λ (copy : Vec (Vec Cell)). not (rest_some copy.items w)) copies.items
not_rest alternatives copies w = ap (λ (m : Meaning). m.1 w) (not_meaning alternatives copies)

pub byte_matches : (t : ByteTest) → part_matches (part.One t) ≡ one_byte t
byte_matches t = ap part_matches (sym (part.rolls-One t)) ∙ fold-roll-Part Texts part_step (Part-F.One t)

pub any_matches : part_matches part.AnyText ≡ (λ w. true)
any_matches = ap part_matches (sym part.rolls-AnyText) ∙ fold-roll-Part Texts part_step Part-F.AnyText
