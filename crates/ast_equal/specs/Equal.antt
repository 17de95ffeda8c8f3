-- Whether two parts of trees are equal, by settling one pair of parts after another.
use Rattle.std.specs.Prelude.{◌≡◌, ◌↔◌, Bool, IsTrue, List, [], ◌∷◌, reverse}
use Rattle.ast_equal.specs.declared.unsettled.Sides.{Sides}
use Rattle.ast_equal.specs.declared.unsettled.Sides.TheVariants as sides
use Rattle.ast_equal.specs.declared.unsettled.Unsettled.{Unsettled}

abbrev pub AreEqual : Sides → Type 0
AreEqual (sides.Pieces left right) = left.now ≡ right.now
AreEqual (sides.Words left right) = left.now ≡ right.now
AreEqual (sides.Parts left right) = left.now ≡ right.now
AreEqual (sides.Expr left right) = left.now ≡ right.now
AreEqual (sides.ArithLinks left right) = left.now ≡ right.now
AreEqual (sides.Pairs left right) = left.now ≡ right.now
AreEqual (sides.Members left right) = left.now ≡ right.now
AreEqual (sides.Arguments left right) = left.now ≡ right.now
AreEqual (sides.Assigns left right) = left.now ≡ right.now
AreEqual (sides.Redirects left right) = left.now ≡ right.now
AreEqual (sides.Terms left right) = left.now ≡ right.now
AreEqual (sides.Tests left right) = left.now ≡ right.now
AreEqual (sides.Items left right) = left.now ≡ right.now
AreEqual (sides.Lists left right) = left.now ≡ right.now
AreEqual (sides.Command left right) = left.now ≡ right.now
AreEqual (sides.Links left right) = left.now ≡ right.now
AreEqual (sides.Arms left right) = left.now ≡ right.now
AreEqual (sides.CaseItems left right) = left.now ≡ right.now

abbrev pub AllEqual : List Sides → Type 0
AllEqual [] = Unit {0}
AllEqual (s ∷ rest) = AreEqual s × AllEqual rest

-- The sides that wait, the last that came first.
abbrev pub waiting : Unsettled → List Sides
waiting u = reverse u.sides.items

-- That something is equal, and what waited before, comes to the answer and what waits after it.
abbrev pub ComesTo : Type 0 → Unsettled → Bool → Unsettled → Type 0
ComesTo equal before answer after = (equal × AllEqual (waiting before)) ↔ (IsTrue answer × AllEqual (waiting after))
