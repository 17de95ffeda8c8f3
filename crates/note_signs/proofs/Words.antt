-- A whole word of plain bytes fits.
use Rattle.std.proofs.Common.{◌≡◌, ℕ, Bool, true, false, ◌||◌, ◌&&◌, ◌==◌, List, [], ◌∷◌, take, drop, Option, Some, None, refl, ap, sym, ◌∙◌, subst, if◌then◌else◌}
use Rattle.std.specs.Prelude.{codes, bytes_eq}
use Rattle.std.proofs.lemmas.Slice.Eq.{bytes_eq-Decides}
use Rattle.ksh_ast.specs.declared.kinds.BinaryTest.TheVariants as binary
use Rattle.ksh_ast.specs.declared.kinds.UnaryTest.TheVariants as unary
use Rattle.ksh_lexer.specs.declared.kind.TokenKind.TheVariants as token
use Rattle.ksh_lexer.specs.Bytes.{is}
use Rattle.ksh_lexer.specs.Names.{is_path}
use Rattle.ksh_syntax.specs.declared.kind.Kind.{Kind}
use Rattle.ksh_syntax.specs.declared.kind.Kind.TheVariants as kind
use Rattle.ksh_syntax.specs.declared.kind.Mode.{Mode}
use Rattle.ksh_syntax.specs.declared.kind.Mode.TheVariants as mode
use Rattle.ksh_kinds.specs.Tokens.{assigns_nothing, bare_kind, may_assign}
use Rattle.ksh_kinds.specs.Words.{has_dot, is_assignment, known, long_known, or_kind, or_known, path_front, shape, short_known, test, word_kind}
use Rattle.tree_parts.specs.Parts.{all_names, between_dots, is_name, to_first}
use Rattle.tree_moves.specs.Turns.{is_lexed}
use Rattle.tree_build.specs.Fitting.{Fitting}
use Rattle.note_signs.proofs.Comes.{both}
use Rattle.note_signs.proofs.Fit.{fit, quiet, sign}
use Rattle.note_signs.proofs.Named.{path_names}

-- the word fits as that kind
abbrev So : Mode → ℕ → ℕ → ℕ → List ℕ → Kind → Type 0
So m from to line w k = Fitting (sign m k token.Bare from to line) w

-- ---- choices

abbrev Good : (Kind → Type 0) → Option Kind → Type 0
Good P None = Unit {0}
Good P (Some k) = P k

chosen : (P : Kind → Type 0) (t : Bool) (k : Kind) (rest : Option Kind) → (t ≡ true → P k) → Good P rest → Good P (if t then Some k else rest)
chosen P true k rest h i = h refl
chosen P false k rest h i = i

either_known : (P : Kind → Type 0) (a b : Option Kind) → Good P a → Good P b → Good P (or_known a b)
either_known P (Some k) b h i = h
either_known P None b h i = i

or_good : (P : Kind → Type 0) (a : Option Kind) (l : Kind) → Good P a → P l → P (or_kind a l)
or_good P (Some k) l h i = h
or_good P None l h i = i

either : (P : Kind → Type 0) (t : Bool) (k l : Kind) → (t ≡ true → P k) → (t ≡ false → P l) → P (if t then k else l)
either P true k l h i = h refl
either P false k l h i = i refl

word_is : (m : Mode) (from to line : ℕ) (w word : List ℕ) (k : Kind) → So m from to line word k → bytes_eq w word ≡ true → So m from to line w k
word_is m from to line w word k h e = subst (λ x. So m from to line x k) (sym ((bytes_eq-Decides w word).0 e)) h

-- ---- words that are known by their letters

short_fits : (m : Mode) (from to line : ℕ) (w : List ℕ) → Good (So m from to line w) (short_known w)
short_fits m from to line w =
    (chosen (So m from to line w) _ kind.If _ (word_is m from to line w (codes "if") kind.If (fit _ _ refl (λ e. refl) (λ b e. refl) tt (λ i l e. l)))
    (chosen (So m from to line w) _ kind.Then _ (word_is m from to line w (codes "then") kind.Then (fit _ _ refl (λ e. refl) (λ b e. refl) tt (λ i l e. l)))
    (chosen (So m from to line w) _ kind.Else _ (word_is m from to line w (codes "else") kind.Else (fit _ _ refl (λ e. refl) (λ b e. refl) tt (λ i l e. l)))
    (chosen (So m from to line w) _ kind.Elif _ (word_is m from to line w (codes "elif") kind.Elif (fit _ _ refl (λ e. refl) (λ b e. refl) tt (λ i l e. l)))
    (chosen (So m from to line w) _ kind.Fi _ (word_is m from to line w (codes "fi") kind.Fi (fit _ _ refl (λ e. refl) (λ b e. refl) tt (λ i l e. l)))
    (chosen (So m from to line w) _ kind.Case _ (word_is m from to line w (codes "case") kind.Case (fit _ _ refl (λ e. refl) (λ b e. refl) tt (λ i l e. l)))
    (chosen (So m from to line w) _ kind.Esac _ (word_is m from to line w (codes "esac") kind.Esac (fit _ _ refl (λ e. refl) (λ b e. refl) tt (λ i l e. l)))
    (chosen (So m from to line w) _ kind.For _ (word_is m from to line w (codes "for") kind.For (fit _ _ refl (λ e. refl) (λ b e. refl) tt (λ i l e. l)))
    (chosen (So m from to line w) _ kind.Do _ (word_is m from to line w (codes "do") kind.Do (fit _ _ refl (λ e. refl) (λ b e. refl) tt (λ i l e. l)))
    (chosen (So m from to line w) _ kind.Done _ (word_is m from to line w (codes "done") kind.Done (fit _ _ refl (λ e. refl) (λ b e. refl) tt (λ i l e. l)))
    (chosen (So m from to line w) _ kind.LeftBrace _ (word_is m from to line w (codes "{") kind.LeftBrace (quiet _ _ refl tt (λ i l e. l)))
    (chosen (So m from to line w) _ kind.RightBrace _ (word_is m from to line w (codes "}") kind.RightBrace (quiet _ _ refl tt (λ i l e. l)))
    (chosen (So m from to line w) _ kind.LeftBrackets _ (word_is m from to line w (codes "[[") kind.LeftBrackets (quiet _ _ refl tt (λ i l e. l)))
    (chosen (So m from to line w) _ kind.Bang _ (word_is m from to line w (codes "!") kind.Bang (quiet _ _ refl tt (λ i l e. l)))
    (chosen (So m from to line w) _ kind.RightBrackets _ (word_is m from to line w (codes "]]") kind.RightBrackets (quiet _ _ refl tt (λ i l e. l)))
    (chosen (So m from to line w) _ kind.In _ (word_is m from to line w (codes "in") kind.In (fit _ _ refl (λ e. refl) (λ b e. refl) tt (λ i l e. l)))
    (chosen (So m from to line w) _ kind.Time _ (word_is m from to line w (codes "time") kind.Time (fit _ _ refl (λ e. refl) (λ b e. refl) tt (λ i l e. l)))
    tt)))))))))))))))))

long_fits : (m : Mode) (from to line : ℕ) (w : List ℕ) → Good (So m from to line w) (long_known w)
long_fits m from to line w =
    (chosen (So m from to line w) _ kind.While _ (word_is m from to line w (codes "while") kind.While (fit _ _ refl (λ e. refl) (λ b e. refl) tt (λ i l e. l)))
    (chosen (So m from to line w) _ kind.Until _ (word_is m from to line w (codes "until") kind.Until (fit _ _ refl (λ e. refl) (λ b e. refl) tt (λ i l e. l)))
    (chosen (So m from to line w) _ kind.Function _ (word_is m from to line w (codes "function") kind.Function (fit _ _ refl (λ e. refl) (λ b e. refl) tt (λ i l e. l)))
    (chosen (So m from to line w) _ kind.Select _ (word_is m from to line w (codes "select") kind.Select (fit _ _ refl (λ e. refl) (λ b e. refl) tt (λ i l e. l)))
    (chosen (So m from to line w) _ kind.Namespace _ (word_is m from to line w (codes "namespace") kind.Namespace (fit _ _ refl (λ e. refl) (λ b e. refl) tt (λ i l e. l)))
    (chosen (So m from to line w) _ kind.Typeset _ (word_is m from to line w (codes "typeset") kind.Typeset (fit _ _ refl (λ e. refl) (λ b e. refl) tt (λ i l e. l)))
    tt))))))

test_fits : (m : Mode) (from to line : ℕ) (w : List ℕ) → Good (So m from to line w) (test w)
test_fits m from to line w =
    (chosen (So m from to line w) _ kind.Unary _ (word_is m from to line w (codes "-n") kind.Unary (quiet _ _ refl (unary.NotEmpty, refl) (λ i l e. l)))
    (chosen (So m from to line w) _ kind.Unary _ (word_is m from to line w (codes "-z") kind.Unary (quiet _ _ refl (unary.Empty, refl) (λ i l e. l)))
    (chosen (So m from to line w) _ kind.Unary _ (word_is m from to line w (codes "-a") kind.Unary (quiet _ _ refl (unary.Exists, refl) (λ i l e. l)))
    (chosen (So m from to line w) _ kind.Unary _ (word_is m from to line w (codes "-e") kind.Unary (quiet _ _ refl (unary.Exists, refl) (λ i l e. l)))
    (chosen (So m from to line w) _ kind.Unary _ (word_is m from to line w (codes "-f") kind.Unary (quiet _ _ refl (unary.Plain, refl) (λ i l e. l)))
    (chosen (So m from to line w) _ kind.Unary _ (word_is m from to line w (codes "-d") kind.Unary (quiet _ _ refl (unary.Folder, refl) (λ i l e. l)))
    (chosen (So m from to line w) _ kind.Unary _ (word_is m from to line w (codes "-r") kind.Unary (quiet _ _ refl (unary.Readable, refl) (λ i l e. l)))
    (chosen (So m from to line w) _ kind.Unary _ (word_is m from to line w (codes "-w") kind.Unary (quiet _ _ refl (unary.Writable, refl) (λ i l e. l)))
    (chosen (So m from to line w) _ kind.Unary _ (word_is m from to line w (codes "-x") kind.Unary (quiet _ _ refl (unary.Runnable, refl) (λ i l e. l)))
    (chosen (So m from to line w) _ kind.Unary _ (word_is m from to line w (codes "-s") kind.Unary (quiet _ _ refl (unary.HasBytes, refl) (λ i l e. l)))
    (chosen (So m from to line w) _ kind.Unary _ (word_is m from to line w (codes "-o") kind.Unary (quiet _ _ refl (unary.OptionOn, refl) (λ i l e. l)))
    (chosen (So m from to line w) _ kind.Unary _ (word_is m from to line w (codes "-v") kind.Unary (quiet _ _ refl (unary.IsSet, refl) (λ i l e. l)))
    (chosen (So m from to line w) _ kind.Binary _ (word_is m from to line w (codes "=") kind.Binary (quiet _ _ refl (binary.Matches, refl) (λ i l e. l)))
    (chosen (So m from to line w) _ kind.Binary _ (word_is m from to line w (codes "==") kind.Binary (quiet _ _ refl (binary.Matches, refl) (λ i l e. l)))
    (chosen (So m from to line w) _ kind.Binary _ (word_is m from to line w (codes "!=") kind.Binary (quiet _ _ refl (binary.Differs, refl) (λ i l e. l)))
    (chosen (So m from to line w) _ kind.Binary _ (word_is m from to line w (codes "-eq") kind.Binary (quiet _ _ refl (binary.Equal, refl) (λ i l e. l)))
    (chosen (So m from to line w) _ kind.Binary _ (word_is m from to line w (codes "-ne") kind.Binary (quiet _ _ refl (binary.NotEqual, refl) (λ i l e. l)))
    (chosen (So m from to line w) _ kind.Binary _ (word_is m from to line w (codes "-lt") kind.Binary (quiet _ _ refl (binary.Less, refl) (λ i l e. l)))
    (chosen (So m from to line w) _ kind.Binary _ (word_is m from to line w (codes "-le") kind.Binary (quiet _ _ refl (binary.LessEqual, refl) (λ i l e. l)))
    (chosen (So m from to line w) _ kind.Binary _ (word_is m from to line w (codes "-gt") kind.Binary (quiet _ _ refl (binary.Greater, refl) (λ i l e. l)))
    (chosen (So m from to line w) _ kind.Binary _ (word_is m from to line w (codes "-ge") kind.Binary (quiet _ _ refl (binary.GreaterEqual, refl) (λ i l e. l)))
    tt)))))))))))))))))))))

-- ---- other words

-- bytes without a dot are one name
undotted : (w : List ℕ) → has_dot w ≡ false → between_dots w ≡ w ∷ []
undotted [] h = refl
undotted (b ∷ bs) h = go (b == 46) (λ k. undotted bs k) h
  where
    go : (t : Bool) → (has_dot bs ≡ false → between_dots bs ≡ bs ∷ []) → (t || has_dot bs) ≡ false → (if t then [] ∷ between_dots bs else to_first b (between_dots bs)) ≡ (b ∷ bs) ∷ []
    go true rest h = absurd cc
    go false rest h = ap (to_first b) (rest h)

front_dot : (w : List ℕ) → take 4 w ≡ codes ".sh." → has_dot w ≡ true
front_dot [] e = absurd cc
front_dot (b ∷ bs) e =
    let first : b ≡ 46 = cc in
    ap (λ c. c == 46 || has_dot bs) first

one_name : (w : List ℕ) → has_dot w ≡ false → is_path w ≡ true → is_name w ≡ true
one_name w h p = go (bytes_eq (take 4 w) (codes ".sh.")) refl (path_names w p)
  where
    go : (t : Bool) → bytes_eq (take 4 w) (codes ".sh.") ≡ t → all_names (if t then take 3 w ∷ between_dots (drop 4 w) else between_dots w) ≡ true → is_name w ≡ true
    go true e a = absurd (let g : true ≡ false = sym (front_dot w ((bytes_eq-Decides (take 4 w) (codes ".sh.")).0 e)) ∙ h in cc)
    go false e a = (both (is_name w) true (sym (ap all_names (undotted w h)) ∙ a)).0

shape_fits : (m : Mode) (from to line : ℕ) (looks : Bool) (w : List ℕ) → So m from to line w (shape looks w)
shape_fits m from to line looks w =
    either (So m from to line w) (is_path w) (if has_dot w then kind.Dotted else kind.Name) _
    (λ p. either (So m from to line w) (has_dot w) kind.Dotted kind.Name
    (λ d. fit _ _ refl (λ e. absurd cc) (λ b e. path_names w p) tt (λ i l e. l))
    (λ d. fit _ _ refl (λ e. one_name w d p) (λ b e. path_names w p) tt (λ i l e. l)))
    (λ p. either (So m from to line w) (looks && is_assignment w) kind.Assignment _ (λ a. quiet _ _ refl tt (λ i l e. l))
    (λ a. or_good (So m from to line w) (test w) kind.Other (test_fits m from to line w) (quiet _ _ refl tt (λ i l e. l))))

word_fits : (m : Mode) (from to line : ℕ) (looks : Bool) (w : List ℕ) → So m from to line w (word_kind looks w)
word_fits m from to line looks w =
    or_good (So m from to line w) (known w) (shape looks w) (either_known (So m from to line w) (short_known w) (long_known w) (short_fits m from to line w) (long_fits m from to line w))
    (shape_fits m from to line looks w)

-- assignments are looked for in commands and in values
assigning : (m : Mode) → may_assign m ≡ true → (is_lexed (m, kind.ValueOpen) ≡ true) × (m ≡ mode.Target → ⊥)
assigning mode.Command h = (refl, λ e. absurd cc)
assigning mode.Value h = (refl, λ e. absurd cc)
assigning mode.Pattern h = absurd cc
assigning mode.Condition h = absurd cc
assigning mode.Word h = absurd cc
assigning mode.Quoted h = absurd cc
assigning mode.Group h = absurd cc
assigning mode.Brace h = absurd cc
assigning mode.Colon h = absurd cc
assigning mode.Slash h = absurd cc
assigning mode.Subscript h = absurd cc
assigning mode.Arithmetic h = absurd cc
assigning mode.LoopArithmetic h = absurd cc
assigning mode.Parentheses h = absurd cc
assigning mode.Body h = absurd cc
assigning mode.Parameter h = absurd cc
assigning mode.Form h = absurd cc
assigning mode.Target h = absurd cc

-- `path=` or `path+=` before a `(`
opens_fits : (m : Mode) (from to line : ℕ) (w : List ℕ) → may_assign m ≡ true → is_path (path_front w) ≡ true → So m from to line w kind.ValueOpen
opens_fits m from to line w may p = record {
  lexed = (assigning m may).0;
  variable = λ e. absurd cc;
  dotted = λ b e. absurd cc;
  spelled = λ b. path_names (path_front w) p;
  target = λ t. absurd ((assigning m may).1 t);
  literal = λ b l e. l;
}

pub bare_fits : (m : Mode) (from to line : ℕ) (w : List ℕ) (behind : Option ℕ) → Fitting (sign m (bare_kind (may_assign m) w behind) token.Bare from to line) w
bare_fits m from to line w behind =
    either (So m from to line w) (may_assign m && (is 40 behind && assigns_nothing w)) kind.ValueOpen _
    (λ e. opens_fits m from to line w (both _ _ e).0 (both _ _ (both _ _ (both (may_assign m) _ e).1).1).0) (λ _. word_fits m from to line (may_assign m) w)
