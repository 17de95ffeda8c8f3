-- The kinds of tokens, and their bytes.
use Rattle.std.proofs.Common.{◌≡◌, ℕ, ◌+◌, ◌-◌, Bool, true, false, not, ◌||◌, ◌&&◌, ◌==◌, List, [], ◌∷◌, length, take, drop, Option, Some, None, refl, ap, sym, ◌∙◌, subst, if◌then◌else◌}
use Rattle.std.specs.Prelude.{codes, bytes_eq, slice_get}
use Rattle.std.specs.Bool.{Decides}
use Rattle.std.proofs.lemmas.Slice.Eq.{bytes_eq-Decides}
use Rattle.ksh_lexer.specs.declared.kind.Token.{Token}
use Rattle.ksh_lexer.specs.declared.kind.TokenKind.{TokenKind}
use Rattle.ksh_lexer.specs.declared.kind.TokenKind.TheVariants as token
use Rattle.ksh_lexer.specs.declared.kind.Operator.{Operator}
use Rattle.ksh_lexer.specs.declared.kind.Operator.TheVariants as operator
use Rattle.ksh_lexer.specs.declared.kind.Redirection.{Redirection}
use Rattle.ksh_lexer.specs.declared.kind.Redirection.TheVariants as redirection
use Rattle.ksh_lexer.specs.declared.kind.Form.{Form}
use Rattle.ksh_lexer.specs.declared.kind.Form.TheVariants as form
use Rattle.ksh_lexer.specs.declared.mode.LexMode.{LexMode}
use Rattle.ksh_lexer.specs.declared.mode.LexMode.TheVariants as lex
use Rattle.ksh_lexer.specs.Bytes.{in_name, is, starts_name}
use Rattle.ksh_lexer.specs.Names.{are_in_name, are_more, are_names, is_own_name, is_path}
use Rattle.ksh_lexer.specs.Spells.{Spells, is_spelled}
use Rattle.ksh_lexer.specs.Tok.{Tok, bytes_between}
use Rattle.ksh_syntax.specs.declared.kind.Kind.{Kind}
use Rattle.ksh_syntax.specs.declared.kind.Kind.TheVariants as kind
use Rattle.ksh_syntax.specs.declared.kind.Mode.{Mode}
use Rattle.ksh_syntax.specs.declared.kind.Mode.TheVariants as mode
use Rattle.ksh_kinds.specs.Spelled.{NoFronts, SpellsKinds, StartsAssignments, is_front, is_kind_spelled, is_word_spelled}
use Rattle.ksh_kinds.specs.Tokens.{assigns_nothing, bare_kind, form_kind, is_bare, kind_by, kind_of, may_assign, operator_kind, parts, redirect_kind}
use Rattle.ksh_kinds.specs.Words.{assigns, has_dot, is_assignment, known, long_known, or_kind, or_known, path_front, shape, short_known, test, word_kind}

-- ---- choices

abbrev good : (Kind → Bool) → Option Kind → Bool
good P None = true
good P (Some k) = P k

chosen : (P : Kind → Bool) (t : Bool) (k : Kind) (rest : Option Kind) → (t ≡ true → P k ≡ true) → good P rest ≡ true → good P (if t then Some k else rest) ≡ true
chosen P true k rest h i = h refl
chosen P false k rest h i = i

either_known : (P : Kind → Bool) (a b : Option Kind) → good P a ≡ true → good P b ≡ true → good P (or_known a b) ≡ true
either_known P (Some k) b h i = h
either_known P None b h i = i

or_good : (P : Kind → Bool) (a : Option Kind) (l : Kind) → good P a ≡ true → P l ≡ true → P (or_kind a l) ≡ true
or_good P (Some k) l h i = h
or_good P None l h i = i

either : (P : Kind → Bool) (t : Bool) (k l : Kind) → (t ≡ true → P k ≡ true) → (t ≡ false → P l ≡ true) → P (if t then k else l) ≡ true
either P true k l h i = h refl
either P false k l h i = i refl

both : (a b : Bool) → (a && b) ≡ true → (a ≡ true) × (b ≡ true)
both true b h = (refl, h)
both false b h = absurd cc

and_true : (a b : Bool) → a ≡ true → b ≡ true → (a && b) ≡ true
and_true true b h i = i
and_true false b h i = absurd cc

-- ---- names and paths

-- bytes without a dot that go on like names are those of one
more_by : (b : ℕ) (bs : List ℕ) (t : Bool) → (has_dot bs ≡ false → are_more bs ≡ true → are_in_name bs ≡ true) → (t || has_dot bs) ≡ false
    → (if t then are_names bs else in_name b && are_more bs) ≡ true → are_in_name (b ∷ bs) ≡ true
more_by b bs true rest h m = absurd cc
more_by b bs false rest h m = and_true _ _ (both (in_name b) _ m).0 (rest h (both (in_name b) _ m).1)

no_more : (bs : List ℕ) → has_dot bs ≡ false → are_more bs ≡ true → are_in_name bs ≡ true
no_more [] h m = refl
no_more (b ∷ bs) h m = more_by b bs (b == 46) (no_more bs) h m

no_dot : (b : ℕ) (bs : List ℕ) → has_dot (b ∷ bs) ≡ false → has_dot bs ≡ false
no_dot b bs = go (b == 46)
  where
    go : (t : Bool) → (t || has_dot bs) ≡ false → has_dot bs ≡ false
    go true h = absurd cc
    go false h = h

one_name : (w : List ℕ) → has_dot w ≡ false → are_names w ≡ true → is_own_name w ≡ true
one_name [] h n = n
one_name (b ∷ bs) h n = and_true _ _ (both (starts_name b) _ n).0 (no_more bs (no_dot b bs h) (both (starts_name b) _ n).1)

-- what begins with `.sh.` has a dot
has_front_dot : (w : List ℕ) → bytes_eq (take 4 w) (codes ".sh.") ≡ true → has_dot w ≡ true
has_front_dot w e = go w ((bytes_eq-Decides (take 4 w) (codes ".sh.")).0 e)
  where
    go : (w : List ℕ) → take 4 w ≡ codes ".sh." → has_dot w ≡ true
    go [] e = absurd cc
    go (b ∷ bs) e =
        let first : b ≡ 46 = cc in
        ap (λ c. c == 46 || has_dot bs) first

own_name : (w : List ℕ) → has_dot w ≡ false → is_path w ≡ true → is_own_name w ≡ true
own_name w h = go (are_names w) (bytes_eq (take 4 w) (codes ".sh.")) refl refl
  where
    go : (t u : Bool) → are_names w ≡ t → bytes_eq (take 4 w) (codes ".sh.") ≡ u → (t || (u && are_names (drop 1 w))) ≡ true → is_own_name w ≡ true
    go true u e f p = one_name w h e
    go false true e f p = absurd (let g : true ≡ false = sym (has_front_dot w f) ∙ h in cc)
    go false false e f p = absurd cc

-- ---- words

abbrev spelled : List ℕ → Kind → Bool
spelled w k = is_word_spelled k w

word_is : (w word : List ℕ) (k : Kind) → is_word_spelled k word ≡ true → bytes_eq w word ≡ true → is_word_spelled k w ≡ true
word_is w word k h e = subst (λ x. is_word_spelled k x ≡ true) (sym ((bytes_eq-Decides w word).0 e)) h

short_spelled : (w : List ℕ) → good (spelled w) (short_known w) ≡ true
short_spelled w =
    (chosen (spelled w) _ kind.If _ (word_is w (codes "if") kind.If refl)
    (chosen (spelled w) _ kind.Then _ (word_is w (codes "then") kind.Then refl)
    (chosen (spelled w) _ kind.Else _ (word_is w (codes "else") kind.Else refl)
    (chosen (spelled w) _ kind.Elif _ (word_is w (codes "elif") kind.Elif refl)
    (chosen (spelled w) _ kind.Fi _ (word_is w (codes "fi") kind.Fi refl)
    (chosen (spelled w) _ kind.Case _ (word_is w (codes "case") kind.Case refl)
    (chosen (spelled w) _ kind.Esac _ (word_is w (codes "esac") kind.Esac refl)
    (chosen (spelled w) _ kind.For _ (word_is w (codes "for") kind.For refl)
    (chosen (spelled w) _ kind.Do _ (word_is w (codes "do") kind.Do refl)
    (chosen (spelled w) _ kind.Done _ (word_is w (codes "done") kind.Done refl)
    (chosen (spelled w) _ kind.LeftBrace _ (word_is w (codes "{") kind.LeftBrace refl)
    (chosen (spelled w) _ kind.RightBrace _ (word_is w (codes "}") kind.RightBrace refl)
    (chosen (spelled w) _ kind.LeftBrackets _ (word_is w (codes "[[") kind.LeftBrackets refl)
    (chosen (spelled w) _ kind.Bang _ (word_is w (codes "!") kind.Bang refl)
    (chosen (spelled w) _ kind.RightBrackets _ (word_is w (codes "]]") kind.RightBrackets refl)
    (chosen (spelled w) _ kind.In _ (word_is w (codes "in") kind.In refl)
    (chosen (spelled w) _ kind.Time _ (word_is w (codes "time") kind.Time refl)
    refl)))))))))))))))))

long_spelled : (w : List ℕ) → good (spelled w) (long_known w) ≡ true
long_spelled w =
    (chosen (spelled w) _ kind.While _ (word_is w (codes "while") kind.While refl)
    (chosen (spelled w) _ kind.Until _ (word_is w (codes "until") kind.Until refl)
    (chosen (spelled w) _ kind.Function _ (word_is w (codes "function") kind.Function refl)
    (chosen (spelled w) _ kind.Select _ (word_is w (codes "select") kind.Select refl)
    (chosen (spelled w) _ kind.Namespace _ (word_is w (codes "namespace") kind.Namespace refl)
    (chosen (spelled w) _ kind.Typeset _ (word_is w (codes "typeset") kind.Typeset refl)
    refl))))))

test_spelled : (w : List ℕ) → good (spelled w) (test w) ≡ true
test_spelled w =
    (chosen (spelled w) _ kind.Unary _ (word_is w (codes "-n") kind.Unary refl)
    (chosen (spelled w) _ kind.Unary _ (word_is w (codes "-z") kind.Unary refl)
    (chosen (spelled w) _ kind.Unary _ (word_is w (codes "-a") kind.Unary refl)
    (chosen (spelled w) _ kind.Unary _ (word_is w (codes "-e") kind.Unary refl)
    (chosen (spelled w) _ kind.Unary _ (word_is w (codes "-f") kind.Unary refl)
    (chosen (spelled w) _ kind.Unary _ (word_is w (codes "-d") kind.Unary refl)
    (chosen (spelled w) _ kind.Unary _ (word_is w (codes "-r") kind.Unary refl)
    (chosen (spelled w) _ kind.Unary _ (word_is w (codes "-w") kind.Unary refl)
    (chosen (spelled w) _ kind.Unary _ (word_is w (codes "-x") kind.Unary refl)
    (chosen (spelled w) _ kind.Unary _ (word_is w (codes "-s") kind.Unary refl)
    (chosen (spelled w) _ kind.Unary _ (word_is w (codes "-o") kind.Unary refl)
    (chosen (spelled w) _ kind.Unary _ (word_is w (codes "-v") kind.Unary refl)
    (chosen (spelled w) _ kind.Binary _ (word_is w (codes "=") kind.Binary refl)
    (chosen (spelled w) _ kind.Binary _ (word_is w (codes "==") kind.Binary refl)
    (chosen (spelled w) _ kind.Binary _ (word_is w (codes "!=") kind.Binary refl)
    (chosen (spelled w) _ kind.Binary _ (word_is w (codes "-eq") kind.Binary refl)
    (chosen (spelled w) _ kind.Binary _ (word_is w (codes "-ne") kind.Binary refl)
    (chosen (spelled w) _ kind.Binary _ (word_is w (codes "-lt") kind.Binary refl)
    (chosen (spelled w) _ kind.Binary _ (word_is w (codes "-le") kind.Binary refl)
    (chosen (spelled w) _ kind.Binary _ (word_is w (codes "-gt") kind.Binary refl)
    (chosen (spelled w) _ kind.Binary _ (word_is w (codes "-ge") kind.Binary refl)
    refl)))))))))))))))))))))

shape_spelled : (looks : Bool) (w : List ℕ) → is_word_spelled (shape looks w) w ≡ true
shape_spelled looks w =
    either (spelled w) (is_path w) (if has_dot w then kind.Dotted else kind.Name) _
    (λ p. either (spelled w) (has_dot w) kind.Dotted kind.Name (λ d. p) (λ d. and_true _ _ (own_name w d p) p))
    (λ p. either (spelled w) (looks && is_assignment w) kind.Assignment _ (λ a. (both looks _ a).1) (λ a. or_good (spelled w) (test w) kind.Other (test_spelled w) refl))

word_spelled : (looks : Bool) (w : List ℕ) → is_word_spelled (word_kind looks w) w ≡ true
word_spelled looks w = or_good (spelled w) (known w) (shape looks w) (either_known (spelled w) (short_known w) (long_known w) (short_spelled w) (long_spelled w)) (shape_spelled looks w)

assigns_by : (rest : List ℕ) (t u : Bool) → bytes_eq rest (codes "=") ≡ t → bytes_eq rest (codes "+=") ≡ u → (t || u) ≡ true → assigns rest ≡ true
assigns_by rest true u e f h = ap assigns ((bytes_eq-Decides rest (codes "=")).0 e)
assigns_by rest false true e f h = ap assigns ((bytes_eq-Decides rest (codes "+=")).0 f)
assigns_by rest false false e f h = absurd cc

opens_value : (w : List ℕ) → assigns_nothing w ≡ true → is_assignment w ≡ true
opens_value w h = and_true _ _ (both _ _ h).0 (assigns_by (drop (length (path_front w)) w) _ _ refl refl (both _ _ h).1)

bare_spelled : (looks : Bool) (w : List ℕ) (behind : Option ℕ) → is_word_spelled (bare_kind looks w behind) w ≡ true
bare_spelled looks w behind =
    either (spelled w) (looks && (is 40 behind && assigns_nothing w)) kind.ValueOpen (word_kind looks w)
    (λ h. opens_value w (both (is 40 behind) _ (both looks _ h).1).1) (λ h. word_spelled looks w)

-- ---- tokens

token_spelled : (l : LexMode) (m : Mode) (text : List ℕ) (t : Token) (bare : Bool) → is_bare t.kind ≡ bare → is_spelled l t.kind t.from (bytes_between text t.from t.to) ≡ true
    → ((if bare then is_word_spelled (kind_of text m t) (bytes_between text t.from t.to) else true) && is_spelled l t.kind t.from (bytes_between text t.from t.to)) ≡ true
token_spelled l m text t true e h =
    and_true _ _
    (ap (λ b. is_word_spelled (if b then bare_kind (may_assign m) (take (t.to - t.from) (drop t.from text)) (slice_get text t.to) else kind_by (drop t.from text) (slice_get text t.to) m t.kind) (bytes_between text t.from t.to)) e
    ∙ bare_spelled (may_assign m) (bytes_between text t.from t.to) (slice_get text t.to)) h
token_spelled l m text t false e h = h

pub spells_kinds : Spells → SpellsKinds
spells_kinds told l m text at t tok =
    token_spelled l m text t (is_bare t.kind) refl (told l text at t tok)

-- ---- fronts of assignments

abbrev no_front : Kind → Bool
no_front k = not (is_front k)

front_is : (k : Kind) → no_front k ≡ true → is_front k ≡ false
front_is k = go (is_front k)
  where
    go : (t : Bool) → not t ≡ true → t ≡ false
    go true h = absurd cc
    go false h = refl

short_no_front : (w : List ℕ) → good no_front (short_known w) ≡ true
short_no_front w =
    (chosen no_front (bytes_eq w (codes "if")) kind.If _ (λ e. refl)
    (chosen no_front (bytes_eq w (codes "then")) kind.Then _ (λ e. refl)
    (chosen no_front (bytes_eq w (codes "else")) kind.Else _ (λ e. refl)
    (chosen no_front (bytes_eq w (codes "elif")) kind.Elif _ (λ e. refl)
    (chosen no_front (bytes_eq w (codes "fi")) kind.Fi _ (λ e. refl)
    (chosen no_front (bytes_eq w (codes "case")) kind.Case _ (λ e. refl)
    (chosen no_front (bytes_eq w (codes "esac")) kind.Esac _ (λ e. refl)
    (chosen no_front (bytes_eq w (codes "for")) kind.For _ (λ e. refl)
    (chosen no_front (bytes_eq w (codes "do")) kind.Do _ (λ e. refl)
    (chosen no_front (bytes_eq w (codes "done")) kind.Done _ (λ e. refl)
    (chosen no_front (bytes_eq w (codes "{")) kind.LeftBrace _ (λ e. refl)
    (chosen no_front (bytes_eq w (codes "}")) kind.RightBrace _ (λ e. refl)
    (chosen no_front (bytes_eq w (codes "[[")) kind.LeftBrackets _ (λ e. refl)
    (chosen no_front (bytes_eq w (codes "!")) kind.Bang _ (λ e. refl)
    (chosen no_front (bytes_eq w (codes "]]")) kind.RightBrackets _ (λ e. refl)
    (chosen no_front (bytes_eq w (codes "in")) kind.In _ (λ e. refl)
    (chosen no_front (bytes_eq w (codes "time")) kind.Time _ (λ e. refl)
    refl)))))))))))))))))

long_no_front : (w : List ℕ) → good no_front (long_known w) ≡ true
long_no_front w =
    (chosen no_front (bytes_eq w (codes "while")) kind.While _ (λ e. refl)
    (chosen no_front (bytes_eq w (codes "until")) kind.Until _ (λ e. refl)
    (chosen no_front (bytes_eq w (codes "function")) kind.Function _ (λ e. refl)
    (chosen no_front (bytes_eq w (codes "select")) kind.Select _ (λ e. refl)
    (chosen no_front (bytes_eq w (codes "namespace")) kind.Namespace _ (λ e. refl)
    (chosen no_front (bytes_eq w (codes "typeset")) kind.Typeset _ (λ e. refl)
    refl))))))

test_no_front : (w : List ℕ) → good no_front (test w) ≡ true
test_no_front w =
    (chosen no_front (bytes_eq w (codes "-n")) kind.Unary _ (λ e. refl)
    (chosen no_front (bytes_eq w (codes "-z")) kind.Unary _ (λ e. refl)
    (chosen no_front (bytes_eq w (codes "-a")) kind.Unary _ (λ e. refl)
    (chosen no_front (bytes_eq w (codes "-e")) kind.Unary _ (λ e. refl)
    (chosen no_front (bytes_eq w (codes "-f")) kind.Unary _ (λ e. refl)
    (chosen no_front (bytes_eq w (codes "-d")) kind.Unary _ (λ e. refl)
    (chosen no_front (bytes_eq w (codes "-r")) kind.Unary _ (λ e. refl)
    (chosen no_front (bytes_eq w (codes "-w")) kind.Unary _ (λ e. refl)
    (chosen no_front (bytes_eq w (codes "-x")) kind.Unary _ (λ e. refl)
    (chosen no_front (bytes_eq w (codes "-s")) kind.Unary _ (λ e. refl)
    (chosen no_front (bytes_eq w (codes "-o")) kind.Unary _ (λ e. refl)
    (chosen no_front (bytes_eq w (codes "-v")) kind.Unary _ (λ e. refl)
    (chosen no_front (bytes_eq w (codes "=")) kind.Binary _ (λ e. refl)
    (chosen no_front (bytes_eq w (codes "==")) kind.Binary _ (λ e. refl)
    (chosen no_front (bytes_eq w (codes "!=")) kind.Binary _ (λ e. refl)
    (chosen no_front (bytes_eq w (codes "-eq")) kind.Binary _ (λ e. refl)
    (chosen no_front (bytes_eq w (codes "-ne")) kind.Binary _ (λ e. refl)
    (chosen no_front (bytes_eq w (codes "-lt")) kind.Binary _ (λ e. refl)
    (chosen no_front (bytes_eq w (codes "-le")) kind.Binary _ (λ e. refl)
    (chosen no_front (bytes_eq w (codes "-gt")) kind.Binary _ (λ e. refl)
    (chosen no_front (bytes_eq w (codes "-ge")) kind.Binary _ (λ e. refl)
    refl)))))))))))))))))))))

word_no_front : (w : List ℕ) → no_front (word_kind false w) ≡ true
word_no_front w =
    or_good no_front (known w) (shape false w) (either_known no_front (short_known w) (long_known w) (short_no_front w) (long_no_front w))
    (either no_front (is_path w) (if has_dot w then kind.Dotted else kind.Name) _ (λ p. either no_front (has_dot w) kind.Dotted kind.Name (λ d. refl) (λ d. refl))
    (λ p. or_good no_front (test w) kind.Other (test_no_front w) refl))

operator_no_front : (o : Operator) → no_front (operator_kind o) ≡ true
operator_no_front operator.DoubleSemicolon = refl
operator_no_front operator.SemicolonAmpersand = refl
operator_no_front operator.AndIf = refl
operator_no_front operator.OrIf = refl
operator_no_front operator.BarAmpersand = refl
operator_no_front operator.DoubleParenthesis = refl
operator_no_front operator.Semicolon = refl
operator_no_front operator.Ampersand = refl
operator_no_front operator.Bar = refl
operator_no_front operator.OpenParenthesis = refl
operator_no_front operator.CloseParenthesis = refl

redirect_no_front_pattern : (r : Redirection) → no_front (redirect_kind mode.Pattern r) ≡ true
redirect_no_front_pattern redirection.HereTabs = refl
redirect_no_front_pattern redirection.HereString = refl
redirect_no_front_pattern redirection.HereDocument = refl
redirect_no_front_pattern redirection.ReadWrite = refl
redirect_no_front_pattern redirection.CopyInput = refl
redirect_no_front_pattern redirection.Input = refl
redirect_no_front_pattern redirection.Clobber = refl
redirect_no_front_pattern redirection.Append = refl
redirect_no_front_pattern redirection.CopyOutput = refl
redirect_no_front_pattern redirection.Output = refl

redirect_no_front_condition : (r : Redirection) → no_front (redirect_kind mode.Condition r) ≡ true
redirect_no_front_condition redirection.HereTabs = refl
redirect_no_front_condition redirection.HereString = refl
redirect_no_front_condition redirection.HereDocument = refl
redirect_no_front_condition redirection.ReadWrite = refl
redirect_no_front_condition redirection.CopyInput = refl
redirect_no_front_condition redirection.Input = refl
redirect_no_front_condition redirection.Clobber = refl
redirect_no_front_condition redirection.Append = refl
redirect_no_front_condition redirection.CopyOutput = refl
redirect_no_front_condition redirection.Output = refl

form_no_front : (f : Form) → no_front (form_kind f) ≡ true
form_no_front (form.Instead colon) = refl
form_no_front (form.Assign colon) = refl
form_no_front (form.Fault colon) = refl
form_no_front (form.Other colon) = refl
form_no_front (form.Cut tail longest) = refl
form_no_front form.Slice = refl
form_no_front form.ReplaceFirst = refl
form_no_front form.ReplaceAll = refl
form_no_front form.ReplaceFront = refl
form_no_front form.ReplaceTail = refl

kind_no_front_pattern : (rest : List ℕ) (behind : Option ℕ) (k : TokenKind) (from : ℕ) (bytes : List ℕ) → is_spelled lex.Pattern k from bytes ≡ true → no_front (kind_by rest behind mode.Pattern k) ≡ true
kind_no_front_pattern rest behind token.End from bytes h = refl
kind_no_front_pattern rest behind token.Newline from bytes h = refl
kind_no_front_pattern rest behind (token.Operator o) from bytes h = operator_no_front o
kind_no_front_pattern rest behind (token.Redirect r d) from bytes h = redirect_no_front_pattern r
kind_no_front_pattern rest behind token.Bare from bytes h = refl
kind_no_front_pattern rest behind token.Start from bytes h = refl
kind_no_front_pattern rest behind token.Element from bytes h = absurd cc
kind_no_front_pattern rest behind token.Key from bytes h = refl
kind_no_front_pattern rest behind token.WordEnd from bytes h = refl
kind_no_front_pattern rest behind token.Plain from bytes h = refl
kind_no_front_pattern rest behind token.Joined from bytes h = refl
kind_no_front_pattern rest behind token.Escaped from bytes h = refl
kind_no_front_pattern rest behind token.Single from bytes h = refl
kind_no_front_pattern rest behind (token.Ansi at) from bytes h = refl
kind_no_front_pattern rest behind token.OpenQuote from bytes h = refl
kind_no_front_pattern rest behind token.CloseQuote from bytes h = refl
kind_no_front_pattern rest behind token.Backquote from bytes h = refl
kind_no_front_pattern rest behind (token.Expand at) from bytes h = refl
kind_no_front_pattern rest behind token.OpenParameter from bytes h = either no_front (parts behind) kind.OpenCurrent kind.OpenParameter (λ e. refl) (λ e. refl)
kind_no_front_pattern rest behind token.OpenSubstitution from bytes h = refl
kind_no_front_pattern rest behind token.OpenArithmetic from bytes h = refl
kind_no_front_pattern rest behind token.Dollar from bytes h = refl
kind_no_front_pattern rest behind token.Open from bytes h = refl
kind_no_front_pattern rest behind token.Close from bytes h = refl
kind_no_front_pattern rest behind token.Separator from bytes h = refl
kind_no_front_pattern rest behind token.Length from bytes h = refl
kind_no_front_pattern rest behind token.Target from bytes h = refl
kind_no_front_pattern rest behind token.Name from bytes h = refl
kind_no_front_pattern rest behind token.Digits from bytes h = refl
kind_no_front_pattern rest behind token.Special from bytes h = refl
kind_no_front_pattern rest behind (token.Form f) from bytes h = form_no_front f
kind_no_front_pattern rest behind (token.Items joined) from bytes h = refl
kind_no_front_pattern rest behind (token.Member at) from bytes h = refl
kind_no_front_pattern rest behind token.Prefix from bytes h = refl
kind_no_front_pattern rest behind token.Assign from bytes h = absurd cc
kind_no_front_pattern rest behind token.AddAssign from bytes h = absurd cc
kind_no_front_pattern rest behind token.Otherwise from bytes h = refl

pub no_fronts_pattern : Spells → NoFronts lex.Pattern mode.Pattern
no_fronts_pattern told text at t tok =
    front_is _ (either no_front (is_bare t.kind) _ _ (λ e. word_no_front (bytes_between text t.from t.to))
    (λ e. kind_no_front_pattern (drop t.from text) (slice_get text t.to) t.kind t.from _ (told lex.Pattern text at t tok)))

kind_no_front_condition : (rest : List ℕ) (behind : Option ℕ) (k : TokenKind) (from : ℕ) (bytes : List ℕ) → is_spelled lex.Condition k from bytes ≡ true → no_front (kind_by rest behind mode.Condition k) ≡ true
kind_no_front_condition rest behind token.End from bytes h = refl
kind_no_front_condition rest behind token.Newline from bytes h = refl
kind_no_front_condition rest behind (token.Operator o) from bytes h = operator_no_front o
kind_no_front_condition rest behind (token.Redirect r d) from bytes h = redirect_no_front_condition r
kind_no_front_condition rest behind token.Bare from bytes h = refl
kind_no_front_condition rest behind token.Start from bytes h = refl
kind_no_front_condition rest behind token.Element from bytes h = absurd cc
kind_no_front_condition rest behind token.Key from bytes h = refl
kind_no_front_condition rest behind token.WordEnd from bytes h = refl
kind_no_front_condition rest behind token.Plain from bytes h = refl
kind_no_front_condition rest behind token.Joined from bytes h = refl
kind_no_front_condition rest behind token.Escaped from bytes h = refl
kind_no_front_condition rest behind token.Single from bytes h = refl
kind_no_front_condition rest behind (token.Ansi at) from bytes h = refl
kind_no_front_condition rest behind token.OpenQuote from bytes h = refl
kind_no_front_condition rest behind token.CloseQuote from bytes h = refl
kind_no_front_condition rest behind token.Backquote from bytes h = refl
kind_no_front_condition rest behind (token.Expand at) from bytes h = refl
kind_no_front_condition rest behind token.OpenParameter from bytes h = either no_front (parts behind) kind.OpenCurrent kind.OpenParameter (λ e. refl) (λ e. refl)
kind_no_front_condition rest behind token.OpenSubstitution from bytes h = refl
kind_no_front_condition rest behind token.OpenArithmetic from bytes h = refl
kind_no_front_condition rest behind token.Dollar from bytes h = refl
kind_no_front_condition rest behind token.Open from bytes h = refl
kind_no_front_condition rest behind token.Close from bytes h = refl
kind_no_front_condition rest behind token.Separator from bytes h = refl
kind_no_front_condition rest behind token.Length from bytes h = refl
kind_no_front_condition rest behind token.Target from bytes h = refl
kind_no_front_condition rest behind token.Name from bytes h = refl
kind_no_front_condition rest behind token.Digits from bytes h = refl
kind_no_front_condition rest behind token.Special from bytes h = refl
kind_no_front_condition rest behind (token.Form f) from bytes h = form_no_front f
kind_no_front_condition rest behind (token.Items joined) from bytes h = refl
kind_no_front_condition rest behind (token.Member at) from bytes h = refl
kind_no_front_condition rest behind token.Prefix from bytes h = refl
kind_no_front_condition rest behind token.Assign from bytes h = absurd cc
kind_no_front_condition rest behind token.AddAssign from bytes h = absurd cc
kind_no_front_condition rest behind token.Otherwise from bytes h = refl

pub no_fronts_condition : Spells → NoFronts lex.Condition mode.Condition
no_fronts_condition told text at t tok =
    front_is _ (either no_front (is_bare t.kind) _ _ (λ e. word_no_front (bytes_between text t.from t.to))
    (λ e. kind_no_front_condition (drop t.from text) (slice_get text t.to) t.kind t.from _ (told lex.Condition text at t tok)))

-- ---- words that have pieces

starts_by : (w : List ℕ) (a b : Bool) → is_assignment w ≡ b → (if a && b then kind.StartAssignment else kind.Start) ≡ kind.StartAssignment → is_assignment w ≡ true
starts_by w true true i h = i
starts_by w true false i h = absurd cc
starts_by w false b i h = absurd cc

pub starts : StartsAssignments
starts m text t e k =
    let same : kind_of text m t ≡ (if may_assign m && is_assignment (drop t.from text) then kind.StartAssignment else kind.Start) =
    ap (λ u. if is_bare u then bare_kind (may_assign m) (take (t.to - t.from) (drop t.from text)) (slice_get text t.to) else kind_by (drop t.from text) (slice_get text t.to) m u) e in
    starts_by (drop t.from text) (may_assign m) (is_assignment (drop t.from text)) refl (sym same ∙ k)
