-- How many steps can be taken before a token is read.
use Rattle.std.specs.Prelude.{◌≡◌, ℕ, suc, ◌+◌, ◌<◌, nat_lt, Bool, true, false, ◌&&◌, [], ◌∷◌, ◌++◌, map, Some, slice_get, if◌then◌else◌}
use Rattle.std.proofs.Common.{refl, sym, ◌∙◌, ap, subst, arith}
use Rattle.std.proofs.lemmas.Bool.{ltb-true}
use Rattle.std.specs.List.{list_all}
use Rattle.ksh_grammar.specs.declared.symbol.Place.TheVariants as place
use Rattle.ksh_grammar.specs.declared.symbol.Symbol.TheVariants.{Token, Part, Make}
use Rattle.ksh_grammar.specs.Predict.{may_be_empty}
use Rattle.ksh_grammar.specs.Rules.{at}
use Rattle.ksh_grammar.proofs.Checked.{all_at, bounds}
use Rattle.ksh_syntax.specs.declared.part.Part as declared
use Rattle.ksh_syntax.specs.declared.part.Part.TheVariants as part
use Rattle.ksh_syntax.specs.Takes.{takes}
use Rattle.ksh_syntax.specs.Rules.{Rule, rules}
use Rattle.ksh_syntax.specs.Bounds.{starts, follows, empty}
use Rattle.ksh_syntax.specs.Sentences.{anywhere}
use Rattle.ksh_syntax.specs.Steps.{Left}
use Rattle.ksh_syntax.proofs.Decides.{kinds_bounded}
use Rattle.ksh_syntax.proofs.Everything.{kinds, all_kinds, parts, all_parts}

-- more than the weight of the front of each of its rules
abbrev pub weight : declared.Part → ℕ
weight (part.Lines e) = 15
weight (part.Body e) = 15
weight (part.Commands e) = 12
weight (part.Piped e) = 9
weight (part.AfterName e) = 15
weight (part.AfterSimple e) = 6
weight (part.AfterCompound e) = 6
weight part.Script = 18
weight part.BodyTexts = 9
weight part.Newlines = 6
weight part.Simple = 6
weight part.Compounded = 6
weight part.Arguments = 6
weight part.FirstArguments = 6
weight part.Redirections = 6
weight part.IfBody = 18
weight part.LoopBody = 18
weight part.ForSeparator = 9
weight part.ForWords = 6
weight part.ForLines = 6
weight part.WordList = 6
weight part.CaseBody = 6
weight part.CaseItems = 6
weight part.Condition = 18
weight part.ConditionLines = 6
weight part.Conjunction = 9
weight part.Negation = 6
weight part.Items = 6
weight part.ItemsMixed = 6
weight part.ItemsMembers = 6
weight part.ValueLines = 6
weight part.TypesetMember = 6
weight part.ItemsTypeset = 6
weight part.ItemsFunction = 6
weight part.ItemsBrace = 6
weight part.AfterItemName = 6
weight part.ItemsWords = 6
weight part.ItemsPairs = 6
weight part.MemberRedirections = 6
weight _ = 3

-- the weight of what stands before the next token
abbrev pub front_weight : Left → ℕ
front_weight [] = 0
front_weight (Token c ∷ left) = 0
front_weight (Part p d ∷ left) = weight p + (if empty p then front_weight left else 0)
front_weight (Make m ∷ left) = suc (front_weight left)

abbrev none : Left → Bool
none = may_be_empty takes starts follows empty

part_front : (w a b : ℕ) (e n : Bool) → (w + (if e then a + (if n then b else 0) else 0)) ≡ ((w + (if e then a else 0)) + (if e && n then b else 0))
part_front w a b true n = omega arith
part_front w a b false n = omega arith

front_append : (A B : Left) → front_weight (A ++ B) ≡ front_weight A + (if none A then front_weight B else 0)
front_append [] B = omega arith
front_append (Token c ∷ A) B = refl
front_append (Part p d ∷ A) B = ap (λ x. weight p + (if empty p then x else 0)) (front_append A B) ∙ part_front (weight p) (front_weight A) (front_weight B) (empty p) (none A)
front_append (Make m ∷ A) B =
    let h = front_append A B in
    omega arith

front_at : (d : ℕ) (rule : Rule) → front_weight (map (at d) rule) ≡ front_weight (map (at 0) rule)
front_at d [] = refl
front_at d (place.Token c ∷ rule) = refl
front_at d (place.Part p ∷ rule) = ap (λ x. weight p + (if empty p then x else 0)) (front_at d rule)
front_at d (place.Inside p ∷ rule) = ap (λ x. weight p + (if empty p then x else 0)) (front_at d rule)
front_at d (place.Make m ∷ rule) = ap suc (front_at d rule)

-- each rule is lighter in front than its part
rules_lighter : list_all (λ p. list_all (λ rule. nat_lt (front_weight (map (at 0) rule)) (weight p)) (rules p)) parts ≡ true
rules_lighter = refl

sum_less : (a w b : ℕ) (n e : Bool) → a < w → (n ≡ true → e ≡ true) → a + (if n then b else 0) < w + (if e then b else 0)
sum_less a w b true true less h = omega arith
sum_less a w b true false less h = let no : false ≡ true = h refl in cc
sum_less a w b false true less h = omega arith
sum_less a w b false false less h = omega arith

pub lighter : (p : declared.Part) (d j : ℕ) (rule : Rule) (rest : Left) → slice_get (rules p) j ≡ Some rule → front_weight (map (at d) rule ++ rest) < front_weight (Part p d ∷ rest)
lighter p d j rule rest e =
    let each = all_at (λ q. list_all (λ r. nat_lt (front_weight (map (at 0) r)) (weight q)) (rules q)) parts (all_parts p).0 p (all_parts p).1 rules_lighter in
    let less = ltb-true (front_weight (map (at 0) rule)) (weight p) (all_at (λ r. nat_lt (front_weight (map (at 0) r)) (weight p)) (rules p) j rule e each) in
    let less_at = subst (λ n. n < weight p) (sym (front_at d rule)) less in
    subst (λ n. n < front_weight (Part p d ∷ rest)) (sym (front_append (map (at d) rule) rest))
    (sum_less (front_weight (map (at d) rule)) (weight p) (front_weight rest) (none (map (at d) rule)) (empty p) less_at
    (bounds takes starts follows empty kinds all_kinds rules parts all_parts anywhere kinds_bounded p d (map (at d) rule) (j, rule, e, (λ _. refl), refl)).empties)
