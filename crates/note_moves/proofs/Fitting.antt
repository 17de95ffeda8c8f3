-- What the kind of a token in the text tells of its kind for the grammar.
use Rattle.std.specs.Prelude.{◌≡◌, ℕ, Bool, true, false, ◌||◌, ◌&&◌, List, drop, take, Option, Some, None, slice_get, if◌then◌else◌, codes, bytes_eq}
use Rattle.std.proofs.Common.{refl, sym, ap, subst, ◌-◌}
use Rattle.ksh_grammar.proofs.Begins.{and_left, and_right}
use Rattle.ksh_lexer.specs.Bytes.{is}
use Rattle.ksh_lexer.specs.declared.kind.Token.{Token}
use Rattle.ksh_lexer.specs.declared.kind.TokenKind.{TokenKind}
use Rattle.ksh_lexer.specs.declared.kind.TokenKind.TheVariants as token
use Rattle.ksh_lexer.specs.declared.kind.Operator.{Operator}
use Rattle.ksh_lexer.specs.declared.kind.Operator.TheVariants as operator
use Rattle.ksh_lexer.specs.declared.kind.Redirection.{Redirection}
use Rattle.ksh_lexer.specs.declared.kind.Redirection.TheVariants as redirection
use Rattle.ksh_lexer.specs.declared.kind.Descriptor.{Descriptor}
use Rattle.ksh_lexer.specs.declared.kind.Form.{Form}
use Rattle.ksh_lexer.specs.declared.kind.Form.TheVariants as form
use Rattle.ksh_syntax.specs.declared.kind.Kind.{Kind}
use Rattle.ksh_syntax.specs.declared.kind.Kind.TheVariants as kind
use Rattle.ksh_syntax.specs.declared.kind.Mode.{Mode}
use Rattle.ksh_syntax.specs.declared.kind.Mode.TheVariants as mode
use Rattle.ksh_syntax.specs.Takes.{is_bare as is_word, same_kind}
use Rattle.ksh_kinds.specs.Tokens.{assigns_nothing, bare_kind, form_kind, is_bare, kind_by, kind_of, may_assign, operator_kind, parts, redirect_kind}
use Rattle.ksh_kinds.specs.Words.{has_dot, is_assignment, known, long_known, or_kind, or_known, shape, short_known, test, word_kind}
use Rattle.ksh_lexer.specs.Names.{is_path}
use Rattle.tree_moves.specs.HereWords.{same_bool, starts_word}

-- ---- kinds of tokens

abbrev pub is_start : TokenKind → Bool
is_start token.Start = true
is_start _ = false

abbrev pub is_word_end : TokenKind → Bool
is_word_end token.WordEnd = true
is_word_end _ = false

abbrev pub is_here : Redirection → Bool
is_here redirection.HereTabs = true
is_here redirection.HereDocument = true
is_here _ = false

abbrev pub is_operator : TokenKind → Bool
is_operator (token.Redirect r d) = is_here r
is_operator _ = false

abbrev pub is_name : TokenKind → Bool
is_name token.Name = true
is_name _ = false

-- neither a newline behind which bodies stand, nor the end of a body
abbrev pub is_inner : Kind → Bool
is_inner kind.NewlineBodies = false
is_inner kind.BodyNext = false
is_inner kind.BodyLast = false
is_inner _ = true

-- it is a word of plain bytes for the grammar where it is one in the text, or the name of a parameter
abbrev pub fits_word : TokenKind → Kind → Bool
fits_word tk k = is_name tk || same_bool (is_bare tk) (is_word k)

-- it begins a word, ends one or is the operator of a here-document for both
abbrev pub knows : TokenKind → Kind → Bool
knows tk k = same_bool (is_start tk) (starts_word k) && (same_bool (is_word_end tk) (same_kind k kind.WordEnd) && same_bool (is_operator tk) (same_kind k kind.HereRedirect))

abbrev pub fits : TokenKind → Kind → Bool
fits tk k = knows tk k && is_inner k

-- ---- choices

abbrev good : (Kind → Bool) → Option Kind → Bool
good P None = true
good P (Some k) = P k

chosen : (P : Kind → Bool) (t : Bool) (k : Kind) (rest : Option Kind) → P k ≡ true → good P rest ≡ true → good P (if t then Some k else rest) ≡ true
chosen P true k rest h i = h
chosen P false k rest h i = i

either_known : (P : Kind → Bool) (a b : Option Kind) → good P a ≡ true → good P b ≡ true → good P (or_known a b) ≡ true
either_known P (Some k) b h i = h
either_known P None b h i = i

or_good : (P : Kind → Bool) (a : Option Kind) (l : Kind) → good P a ≡ true → P l ≡ true → P (or_kind a l) ≡ true
or_good P (Some k) l h i = h
or_good P None l h i = i

pub either : (P : Kind → Bool) (t : Bool) (k l : Kind) → P k ≡ true → P l ≡ true → P (if t then k else l) ≡ true
either P true k l h i = h
either P false k l h i = i

-- ---- words of plain bytes

-- what holds of each kind of a word
abbrev plain : Kind → Bool
plain k = fits token.Bare k && is_word k

short_plain : (w : List ℕ) → good plain (short_known w) ≡ true
short_plain w =
    (chosen plain (bytes_eq w (codes "if")) kind.If _ refl
    (chosen plain (bytes_eq w (codes "then")) kind.Then _ refl
    (chosen plain (bytes_eq w (codes "else")) kind.Else _ refl
    (chosen plain (bytes_eq w (codes "elif")) kind.Elif _ refl
    (chosen plain (bytes_eq w (codes "fi")) kind.Fi _ refl
    (chosen plain (bytes_eq w (codes "case")) kind.Case _ refl
    (chosen plain (bytes_eq w (codes "esac")) kind.Esac _ refl
    (chosen plain (bytes_eq w (codes "for")) kind.For _ refl
    (chosen plain (bytes_eq w (codes "do")) kind.Do _ refl
    (chosen plain (bytes_eq w (codes "done")) kind.Done _ refl
    (chosen plain (bytes_eq w (codes "{")) kind.LeftBrace _ refl
    (chosen plain (bytes_eq w (codes "}")) kind.RightBrace _ refl
    (chosen plain (bytes_eq w (codes "[[")) kind.LeftBrackets _ refl
    (chosen plain (bytes_eq w (codes "!")) kind.Bang _ refl
    (chosen plain (bytes_eq w (codes "]]")) kind.RightBrackets _ refl
    (chosen plain (bytes_eq w (codes "in")) kind.In _ refl
    (chosen plain (bytes_eq w (codes "time")) kind.Time _ refl
    refl)))))))))))))))))

long_plain : (w : List ℕ) → good plain (long_known w) ≡ true
long_plain w =
    (chosen plain (bytes_eq w (codes "while")) kind.While _ refl
    (chosen plain (bytes_eq w (codes "until")) kind.Until _ refl
    (chosen plain (bytes_eq w (codes "function")) kind.Function _ refl
    (chosen plain (bytes_eq w (codes "select")) kind.Select _ refl
    (chosen plain (bytes_eq w (codes "namespace")) kind.Namespace _ refl
    (chosen plain (bytes_eq w (codes "typeset")) kind.Typeset _ refl
    refl))))))

test_plain : (w : List ℕ) → good plain (test w) ≡ true
test_plain w =
    (chosen plain (bytes_eq w (codes "-n")) kind.Unary _ refl
    (chosen plain (bytes_eq w (codes "-z")) kind.Unary _ refl
    (chosen plain (bytes_eq w (codes "-a")) kind.Unary _ refl
    (chosen plain (bytes_eq w (codes "-e")) kind.Unary _ refl
    (chosen plain (bytes_eq w (codes "-f")) kind.Unary _ refl
    (chosen plain (bytes_eq w (codes "-d")) kind.Unary _ refl
    (chosen plain (bytes_eq w (codes "-r")) kind.Unary _ refl
    (chosen plain (bytes_eq w (codes "-w")) kind.Unary _ refl
    (chosen plain (bytes_eq w (codes "-x")) kind.Unary _ refl
    (chosen plain (bytes_eq w (codes "-s")) kind.Unary _ refl
    (chosen plain (bytes_eq w (codes "-o")) kind.Unary _ refl
    (chosen plain (bytes_eq w (codes "-v")) kind.Unary _ refl
    (chosen plain (bytes_eq w (codes "=")) kind.Binary _ refl
    (chosen plain (bytes_eq w (codes "==")) kind.Binary _ refl
    (chosen plain (bytes_eq w (codes "!=")) kind.Binary _ refl
    (chosen plain (bytes_eq w (codes "-eq")) kind.Binary _ refl
    (chosen plain (bytes_eq w (codes "-ne")) kind.Binary _ refl
    (chosen plain (bytes_eq w (codes "-lt")) kind.Binary _ refl
    (chosen plain (bytes_eq w (codes "-le")) kind.Binary _ refl
    (chosen plain (bytes_eq w (codes "-gt")) kind.Binary _ refl
    (chosen plain (bytes_eq w (codes "-ge")) kind.Binary _ refl
    refl)))))))))))))))))))))

word_plain : (looks : Bool) (w : List ℕ) → plain (word_kind looks w) ≡ true
word_plain looks w =
    or_good plain (known w) (shape looks w) (either_known plain (short_known w) (long_known w) (short_plain w) (long_plain w))
    (either plain (is_path w) (if has_dot w then kind.Dotted else kind.Name) _ (either plain (has_dot w) kind.Dotted kind.Name refl refl)
    (either plain (looks && is_assignment w) kind.Assignment _ refl (or_good plain (test w) kind.Other (test_plain w) refl)))

bare_fits : (looks : Bool) (w : List ℕ) (behind : Option ℕ) → fits token.Bare (bare_kind looks w behind) ≡ true
bare_fits looks w behind =
    either (fits token.Bare) (looks && (is 40 behind && assigns_nothing w)) kind.ValueOpen (word_kind looks w) refl (and_left (fits token.Bare (word_kind looks w)) (is_word (word_kind looks w)) (word_plain looks w))

bare_word : (looks : Bool) (w : List ℕ) (behind : Option ℕ) → looks ≡ false → fits_word token.Bare (bare_kind looks w behind) ≡ true
bare_word true w behind h = cc
bare_word false w behind h = and_right (fits token.Bare (word_kind false w)) (is_word (word_kind false w)) (word_plain false w)

no_assignment : (m : Mode) → m ≡ mode.Condition → may_assign m ≡ false
no_assignment m h = ap may_assign h

-- ---- other tokens

abbrev all_fits : TokenKind → Kind → Bool
all_fits tk k = fits tk k && fits_word tk k

operator_fits : (o : Operator) → all_fits (token.Operator o) (operator_kind o) ≡ true
operator_fits operator.DoubleSemicolon = refl
operator_fits operator.SemicolonAmpersand = refl
operator_fits operator.AndIf = refl
operator_fits operator.OrIf = refl
operator_fits operator.BarAmpersand = refl
operator_fits operator.DoubleParenthesis = refl
operator_fits operator.Semicolon = refl
operator_fits operator.Ampersand = refl
operator_fits operator.Bar = refl
operator_fits operator.OpenParenthesis = refl
operator_fits operator.CloseParenthesis = refl

form_fits : (f : Form) → all_fits (token.Form f) (form_kind f) ≡ true
form_fits (form.Instead colon) = refl
form_fits (form.Assign colon) = refl
form_fits (form.Fault colon) = refl
form_fits (form.Other colon) = refl
form_fits (form.Cut tail longest) = refl
form_fits form.Slice = refl
form_fits form.ReplaceFirst = refl
form_fits form.ReplaceAll = refl
form_fits form.ReplaceFront = refl
form_fits form.ReplaceTail = refl

input_fits : (m : Mode) (d : Descriptor) → all_fits (token.Redirect redirection.Input d) (redirect_kind m redirection.Input) ≡ true
input_fits mode.Condition d = refl
input_fits _ d = refl

output_fits : (m : Mode) (d : Descriptor) → all_fits (token.Redirect redirection.Output d) (redirect_kind m redirection.Output) ≡ true
output_fits mode.Condition d = refl
output_fits _ d = refl

redirect_fits : (m : Mode) (r : Redirection) (d : Descriptor) → all_fits (token.Redirect r d) (redirect_kind m r) ≡ true
redirect_fits m redirection.HereTabs d = refl
redirect_fits m redirection.HereString d = refl
redirect_fits m redirection.HereDocument d = refl
redirect_fits m redirection.ReadWrite d = refl
redirect_fits m redirection.CopyInput d = refl
redirect_fits m redirection.Input d = input_fits m d
redirect_fits m redirection.Clobber d = refl
redirect_fits m redirection.Append d = refl
redirect_fits m redirection.CopyOutput d = refl
redirect_fits m redirection.Output d = output_fits m d

other_fits : (rest : List ℕ) (behind : Option ℕ) (m : Mode) (tk : TokenKind) → all_fits tk (kind_by rest behind m tk) ≡ true
other_fits rest behind m token.End = refl
other_fits rest behind m token.Newline = refl
other_fits rest behind m (token.Operator o) = operator_fits o
other_fits rest behind m (token.Redirect r d) = redirect_fits m r d
other_fits rest behind m token.Bare = refl
other_fits rest behind m token.Start = either (all_fits token.Start) (may_assign m && is_assignment rest) kind.StartAssignment kind.Start refl refl
other_fits rest behind m token.Element = refl
other_fits rest behind m token.Key = refl
other_fits rest behind m token.WordEnd = refl
other_fits rest behind m token.Plain = refl
other_fits rest behind m token.Joined = refl
other_fits rest behind m token.Escaped = refl
other_fits rest behind m token.Single = refl
other_fits rest behind m (token.Ansi at) = refl
other_fits rest behind m token.OpenQuote = refl
other_fits rest behind m token.CloseQuote = refl
other_fits rest behind m token.Backquote = refl
other_fits rest behind m (token.Expand at) = refl
other_fits rest behind m token.OpenParameter = either (all_fits token.OpenParameter) (parts behind) kind.OpenCurrent kind.OpenParameter refl refl
other_fits rest behind m token.OpenSubstitution = refl
other_fits rest behind m token.OpenArithmetic = refl
other_fits rest behind m token.Dollar = refl
other_fits rest behind m token.Open = refl
other_fits rest behind m token.Close = refl
other_fits rest behind m token.Separator = refl
other_fits rest behind m token.Length = refl
other_fits rest behind m token.Target = refl
other_fits rest behind m token.Name = refl
other_fits rest behind m token.Digits = refl
other_fits rest behind m token.Special = refl
other_fits rest behind m (token.Form f) = form_fits f
other_fits rest behind m (token.Items joined) = refl
other_fits rest behind m (token.Member at) = refl
other_fits rest behind m token.Prefix = refl
other_fits rest behind m token.Assign = either (all_fits token.Assign) (is 40 behind) kind.ValueOpen kind.Assign refl refl
other_fits rest behind m token.AddAssign = either (all_fits token.AddAssign) (is 40 behind) kind.ValueOpen kind.AddAssign refl refl
other_fits rest behind m token.Otherwise = refl

bare_so : (tk : TokenKind) → is_bare tk ≡ true → tk ≡ token.Bare
bare_so token.Bare h = refl
bare_so _ h = cc

-- each token of a text fits its kind
pub token_fits : (text : List ℕ) (m : Mode) (t : Token) → fits t.kind (kind_of text m t) ≡ true
token_fits text m t = go (is_bare t.kind) refl
  where
    go : (b : Bool) → is_bare t.kind ≡ b
        → fits t.kind (if b then bare_kind (may_assign m) (take (t.to - t.from) (drop t.from text)) (slice_get text t.to) else kind_by (drop t.from text) (slice_get text t.to) m t.kind) ≡ true
    go true e = subst (λ tk. fits tk (bare_kind (may_assign m) (take (t.to - t.from) (drop t.from text)) (slice_get text t.to)) ≡ true) (sym (bare_so t.kind e))
        (bare_fits (may_assign m) (take (t.to - t.from) (drop t.from text)) (slice_get text t.to))
    go false e = and_left (fits t.kind (kind_by (drop t.from text) (slice_get text t.to) m t.kind)) (fits_word t.kind (kind_by (drop t.from text) (slice_get text t.to) m t.kind))
        (other_fits (drop t.from text) (slice_get text t.to) m t.kind)

pub word_fits : (text : List ℕ) (m : Mode) (t : Token) → m ≡ mode.Condition → fits_word t.kind (kind_of text m t) ≡ true
word_fits text m t c = go (is_bare t.kind) refl
  where
    go : (b : Bool) → is_bare t.kind ≡ b
        → fits_word t.kind (if b then bare_kind (may_assign m) (take (t.to - t.from) (drop t.from text)) (slice_get text t.to) else kind_by (drop t.from text) (slice_get text t.to) m t.kind) ≡ true
    go true e = subst (λ tk. fits_word tk (bare_kind (may_assign m) (take (t.to - t.from) (drop t.from text)) (slice_get text t.to)) ≡ true) (sym (bare_so t.kind e))
        (bare_word (may_assign m) (take (t.to - t.from) (drop t.from text)) (slice_get text t.to) (no_assignment m c))
    go false e = and_right (fits t.kind (kind_by (drop t.from text) (slice_get text t.to) m t.kind)) (fits_word t.kind (kind_by (drop t.from text) (slice_get text t.to) m t.kind))
        (other_fits (drop t.from text) (slice_get text t.to) m t.kind)
