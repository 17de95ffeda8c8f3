-- Tokens whose bytes are what their kinds say. Each token of a script is one.
use Rattle.std.specs.Prelude.{◌≡◌, ◌∷◌, [], ℕ, Bool, true, false, List, Option, Some, None}
use Rattle.ksh_ast.specs.declared.kinds.BinaryTest.{BinaryTest}
use Rattle.ksh_ast.specs.declared.kinds.UnaryTest.{UnaryTest}
use Rattle.ksh_kinds.specs.Words.{path_front}
use Rattle.ksh_lexer.specs.declared.kind.Descriptor.{Descriptor}
use Rattle.ksh_lexer.specs.declared.kind.Form.{Form}
use Rattle.ksh_lexer.specs.declared.kind.Redirection.{Redirection}
use Rattle.ksh_lexer.specs.declared.kind.TokenKind.TheVariants as token
use Rattle.ksh_syntax.specs.declared.kind.Kind.{Kind}
use Rattle.ksh_syntax.specs.declared.kind.Kind.TheVariants as kind
use Rattle.ksh_syntax.specs.declared.kind.Mode.{Mode}
use Rattle.ksh_syntax.specs.declared.kind.Mode.TheVariants as mode
use Rattle.ksh_syntax.specs.declared.part.Words.TheVariants as words
use Rattle.ksh_syntax.specs.Takes.{are_in}
use Rattle.tree_parts.specs.declared.sign.Sign.{Sign}
use Rattle.tree_parts.specs.Literals.{from_place, is_nested, literal_of}
use Rattle.tree_parts.specs.Parts.{all_names, binary_test, is_descriptor, is_name, is_param, names_of, redirect_form, unary_test}
use Rattle.tree_moves.specs.Turns.{is_lexed}
use Rattle.tree_build.specs.Fits.{TakesTwo}
use Rattle.tree_build.specs.Tables.{assigns}

-- words and fronts of assignments are looked for
abbrev pub is_between : Mode → Bool
is_between mode.Command = true
is_between mode.Pattern = true
is_between mode.Condition = true
is_between mode.Value = true
is_between _ = false

-- a token within a text that stands for bytes
abbrev pub IsLiteral : Mode → Kind → Type 0
IsLiteral m kind.Plain = Unit {0}
IsLiteral m kind.Joined = Unit {0}
IsLiteral m kind.Escaped = Unit {0}
IsLiteral m kind.Single = Unit {0}
IsLiteral m kind.Ansi = Unit {0}
IsLiteral m kind.OpenQuote = Unit {0}
IsLiteral m kind.CloseQuote = Unit {0}
IsLiteral m kind.Dollar = Unit {0}
IsLiteral m kind.Open = Unit {0}
IsLiteral m kind.Close = is_nested m ≡ true
IsLiteral m _ = ⊥

-- what a kind says of the token and its bytes
abbrev pub IsSpelledAs : Kind → Sign → List ℕ → Type 0
IsSpelledAs kind.Element s b = all_names (names_of b) ≡ true
IsSpelledAs kind.ValueOpen s b = is_between s.mode ≡ true → all_names (names_of (path_front b)) ≡ true
IsSpelledAs kind.Member s b = (at : ℕ) × (s.token ≡ token.Member at) × (is_name (from_place s at b) ≡ true)
IsSpelledAs kind.Items s b = (joined : Bool) × (s.token ≡ token.Items joined)
IsSpelledAs kind.Expand s b = (at : ℕ) × (s.token ≡ token.Expand at) × (is_param (from_place s at b) ≡ true)
IsSpelledAs kind.Instead s b = (f : Form) × (s.token ≡ token.Form f)
IsSpelledAs kind.Cut s b = (f : Form) × (s.token ≡ token.Form f)
IsSpelledAs kind.Slice s b = (f : Form) × (s.token ≡ token.Form f) × TakesTwo f
IsSpelledAs kind.Replace s b = (f : Form) × (s.token ≡ token.Form f) × TakesTwo f
IsSpelledAs kind.HereRedirect s b = (r : Redirection) × (d : Descriptor) × (s.token ≡ token.Redirect r d) × (is_descriptor d s.from b ≡ true)
IsSpelledAs kind.Redirect s b = (r : Redirection) × (d : Descriptor) × (s.token ≡ token.Redirect r d) × (is_descriptor d s.from b ≡ true) × (redirect_form r ≡ None → ⊥)
IsSpelledAs kind.Unary s b = (test : UnaryTest) × (unary_test b ≡ Some test)
IsSpelledAs kind.Binary s b = (test : BinaryTest) × (binary_test b ≡ Some test)
IsSpelledAs kind.Order s b = (test : BinaryTest) × (binary_test b ≡ Some test)
IsSpelledAs _ s b = Unit {0}

-- a token with its bytes
pub record Fitting (s : Sign) (b : List ℕ) : Type 0 where
  -- no front of an assignment in patterns and conditions
  pub lexed : is_lexed (s.mode, s.kind) ≡ true
  -- the name of a variable, and between words that of a function: the parameter `.sh` is none
  pub variable : are_in words.VariableName s.kind ≡ true → is_name b ≡ true
  pub dotted : is_between s.mode ≡ true → are_in words.DottedName s.kind ≡ true → all_names (names_of b) ≡ true
  pub spelled : IsSpelledAs s.kind s b
  -- `=` or `+=` behind a subscript
  pub target : s.mode ≡ mode.Target → (s.kind ≡ kind.Assign → assigns s.token ≡ None → ⊥) × (s.kind ≡ kind.AddAssign → assigns s.token ≡ None → ⊥) × (s.kind ≡ kind.ValueOpen → assigns s.token ≡ None → ⊥)
  -- within texts
  pub literal : (is_between s.mode ≡ false) → IsLiteral s.mode s.kind → literal_of s b ≡ None → ⊥
