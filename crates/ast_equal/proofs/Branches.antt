-- Branches of `case` are equal where their parts are.
use Rattle.std.proofs.Common.{◌≡◌, ◌↔◌, List, ◌∷◌, true, ap, sym, subst, ◌∙◌, rules}
use Rattle.std.specs.Prelude.{IsTrue}
use Rattle.ksh_ast.specs.declared.tree.CaseItem.{CaseItem, out-CaseItem, roll-CaseItem, roll-out-CaseItem}
use Rattle.ast_equal.specs.Equal.{AreEqual, AllEqual}
use Rattle.ast_equal.specs.declared.unsettled.Sides.{Sides}

former : {A B : Type 0} → A × B → A
former p = p.0

latter : {A B : Type 0} → A × B → B
latter p = p.1

case_item_same : (l r : CaseItem) → (out-CaseItem l).falls ≡ (out-CaseItem r).falls → (out-CaseItem l).patterns ≡ (out-CaseItem r).patterns
    → (out-CaseItem l).body ≡ (out-CaseItem r).body → l ≡ r
case_item_same l r f p b = sym (roll-out-CaseItem l) ∙ ap roll-CaseItem (λ i. record { patterns = p i; body = b i; falls = f i }) ∙ roll-out-CaseItem r

pub case_item_comes : (l r : CaseItem) (patterns bodies : Sides) (before between after : List Sides)
    → between ≡ patterns ∷ before → after ≡ bodies ∷ between → (out-CaseItem l).falls ≡ (out-CaseItem r).falls
    → (AreEqual patterns → (out-CaseItem l).patterns ≡ (out-CaseItem r).patterns) → ((out-CaseItem l).patterns ≡ (out-CaseItem r).patterns → AreEqual patterns)
    → (AreEqual bodies → (out-CaseItem l).body ≡ (out-CaseItem r).body) → ((out-CaseItem l).body ≡ (out-CaseItem r).body → AreEqual bodies)
    → ((l ≡ r) × AllEqual before) ↔ (IsTrue true × AllEqual after)
case_item_comes l r patterns bodies before between after m n f from_patterns to_patterns from_bodies to_bodies =
    (there, back)
  where
    pushed : after ≡ bodies ∷ (patterns ∷ before)
    pushed = n ∙ ap (λ (w : List Sides). bodies ∷ w) m

    there : (l ≡ r) × AllEqual before → IsTrue true × AllEqual after
    there h = (search rules, subst (λ (w : List Sides). AllEqual w) (sym pushed) (to_bodies (ap (λ (c : CaseItem). (out-CaseItem c).body) (former h)), (to_patterns (ap (λ (c : CaseItem). (out-CaseItem c).patterns) (former h)), latter h)))

    all : IsTrue true × AllEqual after → AreEqual bodies × (AreEqual patterns × AllEqual before)
    all h = subst (λ (w : List Sides). AllEqual w) pushed (latter h)

    back : IsTrue true × AllEqual after → (l ≡ r) × AllEqual before
    back h = (case_item_same l r f (from_patterns (former (latter (all h)))) (from_bodies (former (all h))), latter (latter (all h)))
