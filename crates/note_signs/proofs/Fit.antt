-- Tokens that fit, by their kinds.
use Rattle.std.proofs.Common.{◌≡◌, ℕ, Bool, true, false, not, ◌||◌, ◌&&◌, List, None, refl, ap, sym, ◌∙◌}
use Rattle.ksh_lexer.specs.declared.kind.TokenKind.{TokenKind}
use Rattle.ksh_syntax.specs.declared.kind.Kind.{Kind}
use Rattle.ksh_syntax.specs.declared.kind.Kind.TheVariants as kind
use Rattle.ksh_syntax.specs.declared.kind.Mode.{Mode}
use Rattle.ksh_syntax.specs.declared.kind.Mode.TheVariants as mode
use Rattle.ksh_syntax.specs.declared.part.Words.TheVariants as words
use Rattle.ksh_syntax.specs.Takes.{are_in, is_reserved_name, names_function, same_kind, same_mode}
use Rattle.tree_parts.specs.declared.sign.Sign.{Sign}
use Rattle.tree_parts.specs.Literals.{literal_of}
use Rattle.tree_parts.specs.Parts.{all_names, is_name, names_of}
use Rattle.tree_build.specs.Fitting.{Fitting, IsLiteral, IsSpelledAs, is_between}

abbrev pub sign : Mode → Kind → TokenKind → ℕ → ℕ → ℕ → Sign
sign m k t from to line = record { mode = m; kind = k; token = t; from = from; to = to; line = line }

-- the front of an assignment, before a subscript or a value in parentheses
abbrev pub opens_value : Kind → Bool
opens_value k = same_kind k kind.Element || same_kind k kind.ValueOpen

-- it says nothing of an assignment's front or of what stands behind it
abbrev pub is_calm : Kind → Bool
is_calm k = not (opens_value k || (same_kind k kind.Assign || same_kind k kind.AddAssign))

-- nor of names
abbrev pub is_quiet : Kind → Bool
is_quiet k = is_calm k && not (are_in words.DottedName k)

both : (a b : Bool) → (a && b) ≡ true → (a ≡ true) × (b ≡ true)
both true b h = (refl, h)
both false b h = absurd cc

neither : (a b : Bool) → not (a || b) ≡ true → (a ≡ false) × (b ≡ false)
neither true b h = absurd cc
neither false true h = absurd cc
neither false false h = (refl, refl)

not_true : (a : Bool) → not a ≡ true → a ≡ false
not_true true h = absurd cc
not_true false h = refl

no_front : (x y : Bool) → y ≡ false → not (x && y) ≡ true
no_front true y h = ap not h
no_front false y h = refl

pub fit : (s : Sign) (b : List ℕ) → is_calm s.kind ≡ true → (are_in words.VariableName s.kind ≡ true → is_name b ≡ true)
    → (is_between s.mode ≡ true → are_in words.DottedName s.kind ≡ true → all_names (names_of b) ≡ true) → IsSpelledAs s.kind s b
    → (is_between s.mode ≡ false → IsLiteral s.mode s.kind → literal_of s b ≡ None → ⊥) → Fitting s b
fit s b calm variable dotted spelled literal =
    let apart = neither (opens_value s.kind) _ calm in
    record {
      lexed = no_front (same_mode s.mode mode.Pattern || same_mode s.mode mode.Condition) (opens_value s.kind) apart.0;
      variable = variable;
      dotted = dotted;
      spelled = spelled;
      target = λ t. (λ k n. loud kind.Assign k refl, λ k n. loud kind.AddAssign k refl, λ k n. loud kind.ValueOpen k refl);
      literal = literal;
    }
  where
    loud : (k : Kind) → s.kind ≡ k → is_calm k ≡ false → ⊥
    loud k e f = let g : true ≡ false = sym calm ∙ ap is_calm e ∙ f in cc

name_dotted : (a b r : Bool) → ((a && b) || r) ≡ true → (a || r) ≡ true
name_dotted true b r h = refl
name_dotted false b r h = h

pub quiet : (s : Sign) (b : List ℕ) → is_quiet s.kind ≡ true → IsSpelledAs s.kind s b → (is_between s.mode ≡ false → IsLiteral s.mode s.kind → literal_of s b ≡ None → ⊥) → Fitting s b
quiet s b h spelled literal =
    let two = both (is_calm s.kind) _ h in
    let none : are_in words.DottedName s.kind ≡ false = not_true _ two.1 in
    fit s b two.0 (λ e. absurd (let f : true ≡ false = sym (name_dotted (names_function s.kind) (not (same_kind s.kind kind.Dotted)) (is_reserved_name s.kind) e) ∙ none in cc))
    (λ _ e. absurd (let f : true ≡ false = sym e ∙ none in cc)) spelled literal
