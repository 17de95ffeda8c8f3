-- The tokens of a lexer fit.
use Rattle.std.proofs.Common.{◌≡◌, ℕ, ◌-◌, Bool, true, false, ◌&&◌, List, [], ◌∷◌, take, drop, Option, Some, None, refl, ap, sym, ◌∙◌, subst, if◌then◌else◌}
use Rattle.std.specs.Prelude.{bytes_eq, slice_get}
use Rattle.std.proofs.lemmas.Slice.Eq.{bytes_eq-Decides}
use Rattle.ksh_ast.specs.declared.kinds.BinaryTest.{BinaryTest}
use Rattle.ksh_ast.specs.declared.kinds.BinaryTest.TheVariants as binary
use Rattle.ksh_lexer.specs.declared.kind.Descriptor.{Descriptor}
use Rattle.ksh_lexer.specs.declared.kind.Descriptor.TheVariants as descriptor
use Rattle.ksh_lexer.specs.declared.kind.Form.{Form}
use Rattle.ksh_lexer.specs.declared.kind.Form.TheVariants as form
use Rattle.ksh_lexer.specs.declared.kind.Operator.{Operator}
use Rattle.ksh_lexer.specs.declared.kind.Operator.TheVariants as operator
use Rattle.ksh_lexer.specs.declared.kind.Redirection.{Redirection}
use Rattle.ksh_lexer.specs.declared.kind.Redirection.TheVariants as redirection
use Rattle.ksh_lexer.specs.declared.kind.Token.{Token}
use Rattle.ksh_lexer.specs.declared.kind.TokenKind.{TokenKind}
use Rattle.ksh_lexer.specs.declared.kind.TokenKind.TheVariants as token
use Rattle.ksh_lexer.specs.Bytes.{is}
use Rattle.ksh_lexer.specs.Names as lexed
use Rattle.ksh_lexer.specs.Spells.{Spells, is_spelled, is_target}
use Rattle.ksh_lexer.specs.Spells as spelled
use Rattle.ksh_lexer.specs.Tok.{Tok, bytes_between, may_assign}
use Rattle.ksh_syntax.specs.declared.kind.Kind.{Kind}
use Rattle.ksh_syntax.specs.declared.kind.Kind.TheVariants as kind
use Rattle.ksh_syntax.specs.declared.kind.Mode.{Mode}
use Rattle.ksh_syntax.specs.declared.kind.Mode.TheVariants as mode
use Rattle.ksh_kinds.specs.Words.{is_assignment}
use Rattle.ksh_kinds.specs.Tokens.{bare_kind, form_kind, is_bare, kind_by, operator_kind, parts, redirect_kind}
use Rattle.ksh_kinds.specs.Tokens as kinds
use Rattle.ksh_scan.specs.declared.state.Source.{Source}
use Rattle.ksh_scan.specs.Seeing.{lex_mode}
use Rattle.tree_parts.specs.Literals.{is_nested}
use Rattle.tree_parts.specs.Parts.{binary_test, is_descriptor}
use Rattle.tree_moves.specs.Turns.{is_lexed}
use Rattle.tree_build.specs.Fitting.{Fitting, is_between}
use Rattle.note_signs.proofs.Comes.{both, found, is_outer, is_parameter, is_shown}
use Rattle.note_signs.proofs.Fit.{fit, quiet, sign}
use Rattle.note_signs.proofs.Named.{expanded, own_name, path_names, same_name}
use Rattle.note_signs.proofs.Words.{bare_fits}

-- ---- modes

outer_between : (s : Source) (m : Mode) → is_outer (lex_mode s m) ≡ true → is_between m ≡ true
outer_between s mode.Command h = refl
outer_between s mode.Pattern h = refl
outer_between s mode.Condition h = refl
outer_between s mode.Value h = refl
outer_between s mode.Word h = absurd cc
outer_between s mode.Quoted h = absurd cc
outer_between s mode.Group h = absurd cc
outer_between s mode.Brace h = absurd cc
outer_between s mode.Colon h = absurd cc
outer_between s mode.Slash h = absurd cc
outer_between s mode.Subscript h = absurd cc
outer_between s mode.Arithmetic h = absurd cc
outer_between s mode.LoopArithmetic h = absurd cc
outer_between s mode.Parentheses h = absurd cc
outer_between s mode.Body h = absurd cc
outer_between s mode.Parameter h = absurd cc
outer_between s mode.Form h = absurd cc
outer_between s mode.Target h = absurd cc

parameter_within : (s : Source) (m : Mode) → is_parameter (lex_mode s m) ≡ true → is_between m ≡ false
parameter_within s mode.Command h = absurd cc
parameter_within s mode.Pattern h = absurd cc
parameter_within s mode.Condition h = absurd cc
parameter_within s mode.Value h = absurd cc
parameter_within s mode.Word h = absurd cc
parameter_within s mode.Quoted h = absurd cc
parameter_within s mode.Group h = absurd cc
parameter_within s mode.Brace h = absurd cc
parameter_within s mode.Colon h = absurd cc
parameter_within s mode.Slash h = absurd cc
parameter_within s mode.Subscript h = absurd cc
parameter_within s mode.Arithmetic h = absurd cc
parameter_within s mode.LoopArithmetic h = absurd cc
parameter_within s mode.Parentheses h = absurd cc
parameter_within s mode.Body h = absurd cc
parameter_within s mode.Parameter h = refl
parameter_within s mode.Form h = absurd cc
parameter_within s mode.Target h = absurd cc

element_lexed : (s : Source) (m : Mode) → may_assign (lex_mode s m) ≡ true → (is_lexed (m, kind.Element) ≡ true) × (m ≡ mode.Target → ⊥)
element_lexed s mode.Command h = (refl, λ e. absurd cc)
element_lexed s mode.Pattern h = absurd cc
element_lexed s mode.Condition h = absurd cc
element_lexed s mode.Value h = (refl, λ e. absurd cc)
element_lexed s mode.Word h = absurd cc
element_lexed s mode.Quoted h = absurd cc
element_lexed s mode.Group h = absurd cc
element_lexed s mode.Brace h = absurd cc
element_lexed s mode.Colon h = absurd cc
element_lexed s mode.Slash h = absurd cc
element_lexed s mode.Subscript h = absurd cc
element_lexed s mode.Arithmetic h = absurd cc
element_lexed s mode.LoopArithmetic h = absurd cc
element_lexed s mode.Parentheses h = absurd cc
element_lexed s mode.Body h = absurd cc
element_lexed s mode.Parameter h = absurd cc
element_lexed s mode.Form h = absurd cc
element_lexed s mode.Target h = absurd cc

target_is : (s : Source) (m : Mode) → is_target (lex_mode s m) ≡ true → m ≡ mode.Target
target_is s mode.Command h = absurd cc
target_is s mode.Pattern h = absurd cc
target_is s mode.Condition h = absurd cc
target_is s mode.Value h = absurd cc
target_is s mode.Word h = absurd cc
target_is s mode.Quoted h = absurd cc
target_is s mode.Group h = absurd cc
target_is s mode.Brace h = absurd cc
target_is s mode.Colon h = absurd cc
target_is s mode.Slash h = absurd cc
target_is s mode.Subscript h = absurd cc
target_is s mode.Arithmetic h = absurd cc
target_is s mode.LoopArithmetic h = absurd cc
target_is s mode.Parentheses h = absurd cc
target_is s mode.Body h = absurd cc
target_is s mode.Parameter h = absurd cc
target_is s mode.Form h = absurd cc
target_is s mode.Target h = refl

-- ---- single kinds

either : (P : Kind → Type 0) (t : Bool) (k l : Kind) → P k → P l → P (if t then k else l)
either P true k l h i = h
either P false k l h i = i

between_not : (m : Mode) → is_between m ≡ true → is_between m ≡ false → ⊥
between_not m h i = let f : true ≡ false = sym h ∙ i in cc

operator_fits : (s : Source) (m : Mode) (o : Operator) (from to line : ℕ) (b : List ℕ) → is_outer (lex_mode s m) ≡ true → Fitting (sign m (operator_kind o) (token.Operator o) from to line) b
operator_fits s m operator.DoubleSemicolon from to line b h = quiet _ _ refl tt (λ i l e. l)
operator_fits s m operator.SemicolonAmpersand from to line b h = quiet _ _ refl tt (λ i l e. l)
operator_fits s m operator.AndIf from to line b h = quiet _ _ refl tt (λ i l e. l)
operator_fits s m operator.OrIf from to line b h = quiet _ _ refl tt (λ i l e. l)
operator_fits s m operator.BarAmpersand from to line b h = quiet _ _ refl tt (λ i l e. l)
operator_fits s m operator.DoubleParenthesis from to line b h = quiet _ _ refl tt (λ i l e. l)
operator_fits s m operator.Semicolon from to line b h = quiet _ _ refl tt (λ i l e. l)
operator_fits s m operator.Ampersand from to line b h = quiet _ _ refl tt (λ i l e. l)
operator_fits s m operator.Bar from to line b h = quiet _ _ refl tt (λ i l e. l)
operator_fits s m operator.OpenParenthesis from to line b h = quiet _ _ refl tt (λ i l e. between_not m (outer_between s m h) i)
operator_fits s m operator.CloseParenthesis from to line b h = quiet _ _ refl tt (λ i l e. between_not m (outer_between s m h) i)

described : (d : Descriptor) (from : ℕ) (b : List ℕ) → spelled.is_descriptor d from b ≡ true → is_descriptor d from b ≡ true
described descriptor.Default from b h = refl
described (descriptor.Digit n) from b h = h
described (descriptor.Named end) from b h = own_name (take (end - from - 1) (drop 1 b)) h

compares : (b c : List ℕ) (x : BinaryTest) → binary_test c ≡ Some x → bytes_eq b c ≡ true → binary_test b ≡ Some x
compares b c x h e = ap binary_test ((bytes_eq-Decides b c).0 e) ∙ h

abbrev Redirects : Mode → Redirection → Descriptor → ℕ → ℕ → ℕ → List ℕ → Type 0
Redirects m r d from to line b = Fitting (sign m (redirect_kind m r) (token.Redirect r d) from to line) b

input_fits : (s : Source) (m : Mode) (d : Descriptor) (from to line : ℕ) (b : List ℕ) → is_descriptor d from b ≡ true → is_shown (lex_mode s m) (token.Redirect redirection.Input d) b ≡ true → Redirects m redirection.Input d from to line b
input_fits s mode.Command d from to line b h c = quiet _ _ refl (redirection.Input, d, refl, h, λ n. absurd cc) (λ i l e. l)
input_fits s mode.Pattern d from to line b h c = quiet _ _ refl (redirection.Input, d, refl, h, λ n. absurd cc) (λ i l e. l)
input_fits s mode.Condition d from to line b h c = quiet _ _ refl (binary.Before, compares b (60 ∷ []) binary.Before refl c) (λ i l e. l)
input_fits s mode.Value d from to line b h c = quiet _ _ refl (redirection.Input, d, refl, h, λ n. absurd cc) (λ i l e. l)
input_fits s mode.Word d from to line b h c = quiet _ _ refl (redirection.Input, d, refl, h, λ n. absurd cc) (λ i l e. l)
input_fits s mode.Quoted d from to line b h c = quiet _ _ refl (redirection.Input, d, refl, h, λ n. absurd cc) (λ i l e. l)
input_fits s mode.Group d from to line b h c = quiet _ _ refl (redirection.Input, d, refl, h, λ n. absurd cc) (λ i l e. l)
input_fits s mode.Brace d from to line b h c = quiet _ _ refl (redirection.Input, d, refl, h, λ n. absurd cc) (λ i l e. l)
input_fits s mode.Colon d from to line b h c = quiet _ _ refl (redirection.Input, d, refl, h, λ n. absurd cc) (λ i l e. l)
input_fits s mode.Slash d from to line b h c = quiet _ _ refl (redirection.Input, d, refl, h, λ n. absurd cc) (λ i l e. l)
input_fits s mode.Subscript d from to line b h c = quiet _ _ refl (redirection.Input, d, refl, h, λ n. absurd cc) (λ i l e. l)
input_fits s mode.Arithmetic d from to line b h c = quiet _ _ refl (redirection.Input, d, refl, h, λ n. absurd cc) (λ i l e. l)
input_fits s mode.LoopArithmetic d from to line b h c = quiet _ _ refl (redirection.Input, d, refl, h, λ n. absurd cc) (λ i l e. l)
input_fits s mode.Parentheses d from to line b h c = quiet _ _ refl (redirection.Input, d, refl, h, λ n. absurd cc) (λ i l e. l)
input_fits s mode.Body d from to line b h c = quiet _ _ refl (redirection.Input, d, refl, h, λ n. absurd cc) (λ i l e. l)
input_fits s mode.Parameter d from to line b h c = quiet _ _ refl (redirection.Input, d, refl, h, λ n. absurd cc) (λ i l e. l)
input_fits s mode.Form d from to line b h c = quiet _ _ refl (redirection.Input, d, refl, h, λ n. absurd cc) (λ i l e. l)
input_fits s mode.Target d from to line b h c = quiet _ _ refl (redirection.Input, d, refl, h, λ n. absurd cc) (λ i l e. l)

output_fits : (s : Source) (m : Mode) (d : Descriptor) (from to line : ℕ) (b : List ℕ) → is_descriptor d from b ≡ true → is_shown (lex_mode s m) (token.Redirect redirection.Output d) b ≡ true → Redirects m redirection.Output d from to line b
output_fits s mode.Command d from to line b h c = quiet _ _ refl (redirection.Output, d, refl, h, λ n. absurd cc) (λ i l e. l)
output_fits s mode.Pattern d from to line b h c = quiet _ _ refl (redirection.Output, d, refl, h, λ n. absurd cc) (λ i l e. l)
output_fits s mode.Condition d from to line b h c = quiet _ _ refl (binary.After, compares b (62 ∷ []) binary.After refl c) (λ i l e. l)
output_fits s mode.Value d from to line b h c = quiet _ _ refl (redirection.Output, d, refl, h, λ n. absurd cc) (λ i l e. l)
output_fits s mode.Word d from to line b h c = quiet _ _ refl (redirection.Output, d, refl, h, λ n. absurd cc) (λ i l e. l)
output_fits s mode.Quoted d from to line b h c = quiet _ _ refl (redirection.Output, d, refl, h, λ n. absurd cc) (λ i l e. l)
output_fits s mode.Group d from to line b h c = quiet _ _ refl (redirection.Output, d, refl, h, λ n. absurd cc) (λ i l e. l)
output_fits s mode.Brace d from to line b h c = quiet _ _ refl (redirection.Output, d, refl, h, λ n. absurd cc) (λ i l e. l)
output_fits s mode.Colon d from to line b h c = quiet _ _ refl (redirection.Output, d, refl, h, λ n. absurd cc) (λ i l e. l)
output_fits s mode.Slash d from to line b h c = quiet _ _ refl (redirection.Output, d, refl, h, λ n. absurd cc) (λ i l e. l)
output_fits s mode.Subscript d from to line b h c = quiet _ _ refl (redirection.Output, d, refl, h, λ n. absurd cc) (λ i l e. l)
output_fits s mode.Arithmetic d from to line b h c = quiet _ _ refl (redirection.Output, d, refl, h, λ n. absurd cc) (λ i l e. l)
output_fits s mode.LoopArithmetic d from to line b h c = quiet _ _ refl (redirection.Output, d, refl, h, λ n. absurd cc) (λ i l e. l)
output_fits s mode.Parentheses d from to line b h c = quiet _ _ refl (redirection.Output, d, refl, h, λ n. absurd cc) (λ i l e. l)
output_fits s mode.Body d from to line b h c = quiet _ _ refl (redirection.Output, d, refl, h, λ n. absurd cc) (λ i l e. l)
output_fits s mode.Parameter d from to line b h c = quiet _ _ refl (redirection.Output, d, refl, h, λ n. absurd cc) (λ i l e. l)
output_fits s mode.Form d from to line b h c = quiet _ _ refl (redirection.Output, d, refl, h, λ n. absurd cc) (λ i l e. l)
output_fits s mode.Target d from to line b h c = quiet _ _ refl (redirection.Output, d, refl, h, λ n. absurd cc) (λ i l e. l)

redirect_fits : (s : Source) (m : Mode) (r : Redirection) (d : Descriptor) (from to line : ℕ) (b : List ℕ) → is_descriptor d from b ≡ true → is_shown (lex_mode s m) (token.Redirect r d) b ≡ true → Redirects m r d from to line b
redirect_fits s m redirection.HereTabs d from to line b h c = quiet _ _ refl (redirection.HereTabs, d, refl, h) (λ i l e. l)
redirect_fits s m redirection.HereDocument d from to line b h c = quiet _ _ refl (redirection.HereDocument, d, refl, h) (λ i l e. l)
redirect_fits s m redirection.Input d from to line b h c = input_fits s m d from to line b h c
redirect_fits s m redirection.Output d from to line b h c = output_fits s m d from to line b h c
redirect_fits s m redirection.HereString d from to line b h c = quiet _ _ refl (redirection.HereString, d, refl, h, λ n. absurd cc) (λ i l e. l)
redirect_fits s m redirection.ReadWrite d from to line b h c = quiet _ _ refl (redirection.ReadWrite, d, refl, h, λ n. absurd cc) (λ i l e. l)
redirect_fits s m redirection.CopyInput d from to line b h c = quiet _ _ refl (redirection.CopyInput, d, refl, h, λ n. absurd cc) (λ i l e. l)
redirect_fits s m redirection.Clobber d from to line b h c = quiet _ _ refl (redirection.Clobber, d, refl, h, λ n. absurd cc) (λ i l e. l)
redirect_fits s m redirection.Append d from to line b h c = quiet _ _ refl (redirection.Append, d, refl, h, λ n. absurd cc) (λ i l e. l)
redirect_fits s m redirection.CopyOutput d from to line b h c = quiet _ _ refl (redirection.CopyOutput, d, refl, h, λ n. absurd cc) (λ i l e. l)

form_fits : (m : Mode) (f : Form) (from to line : ℕ) (b : List ℕ) → Fitting (sign m (form_kind f) (token.Form f) from to line) b
form_fits m (form.Instead colon) from to line b = quiet _ _ refl (form.Instead colon, refl) (λ i l e. l)
form_fits m (form.Assign colon) from to line b = quiet _ _ refl (form.Assign colon, refl) (λ i l e. l)
form_fits m (form.Fault colon) from to line b = quiet _ _ refl (form.Fault colon, refl) (λ i l e. l)
form_fits m (form.Other colon) from to line b = quiet _ _ refl (form.Other colon, refl) (λ i l e. l)
form_fits m (form.Cut tail longest) from to line b = quiet _ _ refl (form.Cut tail longest, refl) (λ i l e. l)
form_fits m form.Slice from to line b = quiet _ _ refl (form.Slice, refl, tt) (λ i l e. l)
form_fits m form.ReplaceFirst from to line b = quiet _ _ refl (form.ReplaceFirst, refl, tt) (λ i l e. l)
form_fits m form.ReplaceAll from to line b = quiet _ _ refl (form.ReplaceAll, refl, tt) (λ i l e. l)
form_fits m form.ReplaceFront from to line b = quiet _ _ refl (form.ReplaceFront, refl, tt) (λ i l e. l)
form_fits m form.ReplaceTail from to line b = quiet _ _ refl (form.ReplaceTail, refl, tt) (λ i l e. l)

element_fits : (m : Mode) (from to line : ℕ) (b : List ℕ) → is_lexed (m, kind.Element) ≡ true → (m ≡ mode.Target → ⊥) → lexed.is_path b ≡ true → Fitting (sign m kind.Element token.Element from to line) b
element_fits m from to line b h n p = record {
  lexed = h;
  variable = λ e. absurd cc;
  dotted = λ i e. absurd cc;
  spelled = path_names b p;
  target = λ t. absurd (n t);
  literal = λ i l e. l;
}

-- `=` and `+=` behind a subscript, before a `(` or not
assign_fits : (m : Mode) (t : Bool) (from to line : ℕ) (b : List ℕ) → m ≡ mode.Target → Fitting (sign m (if t then kind.ValueOpen else kind.Assign) token.Assign from to line) b
assign_fits m t from to line b e = subst (λ n. Fitting (sign n (if t then kind.ValueOpen else kind.Assign) token.Assign from to line) b) (sym e)
    (either (λ k. Fitting (sign mode.Target k token.Assign from to line) b) t kind.ValueOpen kind.Assign
    (record { lexed = refl; variable = λ f. absurd cc; dotted = λ i f. absurd cc; spelled = λ i. absurd cc; target = λ g. (λ k n. cc, λ k n. cc, λ k n. cc); literal = λ i l f. l })
    (record { lexed = refl; variable = λ f. absurd cc; dotted = λ i f. absurd cc; spelled = tt; target = λ g. (λ k n. cc, λ k n. cc, λ k n. cc); literal = λ i l f. l }))

add_fits : (m : Mode) (t : Bool) (from to line : ℕ) (b : List ℕ) → m ≡ mode.Target → Fitting (sign m (if t then kind.ValueOpen else kind.AddAssign) token.AddAssign from to line) b
add_fits m t from to line b e = subst (λ n. Fitting (sign n (if t then kind.ValueOpen else kind.AddAssign) token.AddAssign from to line) b) (sym e)
    (either (λ k. Fitting (sign mode.Target k token.AddAssign from to line) b) t kind.ValueOpen kind.AddAssign
    (record { lexed = refl; variable = λ f. absurd cc; dotted = λ i f. absurd cc; spelled = λ i. absurd cc; target = λ g. (λ k n. cc, λ k n. cc, λ k n. cc); literal = λ i l f. l })
    (record { lexed = refl; variable = λ f. absurd cc; dotted = λ i f. absurd cc; spelled = tt; target = λ g. (λ k n. cc, λ k n. cc, λ k n. cc); literal = λ i l f. l }))

closes : (t : Bool) (b : List ℕ) → t ≡ true → (let o : Option (List ℕ × Bool) = if t then Some (b, false) else None in o ≡ None) → ⊥
closes true b h e = cc
closes false b h e = cc

-- ---- all kinds

pub kind_fits : (s : Source) (m : Mode) (rest : List ℕ) (behind : Option ℕ) (k : TokenKind) (from to line : ℕ) (b : List ℕ) → is_spelled (lex_mode s m) k from b ≡ true → is_shown (lex_mode s m) k b ≡ true
    → Fitting (sign m (if is_bare k then bare_kind (kinds.may_assign m) b behind else kind_by rest behind m k) k from to line) b
kind_fits s m rest behind token.End from to line b h c = quiet _ _ refl tt (λ i l e. l)
kind_fits s m rest behind token.Newline from to line b h c = quiet _ _ refl tt (λ i l e. l)
kind_fits s m rest behind token.Key from to line b h c = quiet _ _ refl tt (λ i l e. l)
kind_fits s m rest behind token.WordEnd from to line b h c = quiet _ _ refl tt (λ i l e. l)
kind_fits s m rest behind token.Backquote from to line b h c = quiet _ _ refl tt (λ i l e. l)
kind_fits s m rest behind token.OpenSubstitution from to line b h c = quiet _ _ refl tt (λ i l e. l)
kind_fits s m rest behind token.OpenArithmetic from to line b h c = quiet _ _ refl tt (λ i l e. l)
kind_fits s m rest behind token.Separator from to line b h c = quiet _ _ refl tt (λ i l e. l)
kind_fits s m rest behind token.Length from to line b h c = quiet _ _ refl tt (λ i l e. l)
kind_fits s m rest behind token.Target from to line b h c = quiet _ _ refl tt (λ i l e. l)
kind_fits s m rest behind token.Digits from to line b h c = quiet _ _ refl tt (λ i l e. l)
kind_fits s m rest behind token.Special from to line b h c = quiet _ _ refl tt (λ i l e. l)
kind_fits s m rest behind token.Prefix from to line b h c = quiet _ _ refl tt (λ i l e. l)
kind_fits s m rest behind token.Otherwise from to line b h c = quiet _ _ refl tt (λ i l e. l)
kind_fits s m rest behind token.Plain from to line b h c = quiet _ _ refl tt (λ i l e. absurd cc)
kind_fits s m rest behind token.Joined from to line b h c = quiet _ _ refl tt (λ i l e. absurd cc)
kind_fits s m rest behind token.Escaped from to line b h c = quiet _ _ refl tt (λ i l e. absurd cc)
kind_fits s m rest behind token.Single from to line b h c = quiet _ _ refl tt (λ i l e. absurd cc)
kind_fits s m rest behind token.OpenQuote from to line b h c = quiet _ _ refl tt (λ i l e. absurd cc)
kind_fits s m rest behind token.CloseQuote from to line b h c = quiet _ _ refl tt (λ i l e. absurd cc)
kind_fits s m rest behind token.Dollar from to line b h c = quiet _ _ refl tt (λ i l e. absurd cc)
kind_fits s m rest behind token.Open from to line b h c = quiet _ _ refl tt (λ i l e. absurd cc)
kind_fits s m rest behind (token.Ansi at) from to line b h c = quiet _ _ refl tt (λ i l e. absurd cc)
kind_fits s m rest behind token.Close from to line b h c = quiet _ _ refl tt (λ i l e. closes (is_nested m) b l e)
kind_fits s m rest behind token.Bare from to line b h c = bare_fits m from to line b behind
kind_fits s m rest behind token.Start from to line b h c = either (λ k. Fitting (sign m k token.Start from to line) b) (kinds.may_assign m && is_assignment rest) kind.StartAssignment kind.Start (quiet _ _ refl tt (λ i l e. l)) (quiet _ _ refl tt (λ i l e. l))
kind_fits s m rest behind token.OpenParameter from to line b h c = either (λ k. Fitting (sign m k token.OpenParameter from to line) b) (parts behind) kind.OpenCurrent kind.OpenParameter (quiet _ _ refl tt (λ i l e. l)) (quiet _ _ refl tt (λ i l e. l))
kind_fits s m rest behind (token.Operator o) from to line b h c = operator_fits s m o from to line b c
kind_fits s m rest behind (token.Redirect r d) from to line b h c = redirect_fits s m r d from to line b (described d from b h) c
kind_fits s m rest behind token.Element from to line b h c = element_fits m from to line b (element_lexed s m (both _ _ h).0).0 (element_lexed s m (both _ _ h).0).1 (both (may_assign (lex_mode s m)) _ h).1
kind_fits s m rest behind (token.Expand at) from to line b h c = quiet _ _ refl (at, refl, expanded (drop (at - from) b) h) (λ i l e. l)
kind_fits s m rest behind token.Name from to line b h c = fit _ _ refl (λ e. sym (same_name b) ∙ h) (λ i e. absurd (between_not m i (parameter_within s m c))) tt (λ i l e. l)
kind_fits s m rest behind (token.Form f) from to line b h c = form_fits m f from to line b
kind_fits s m rest behind (token.Items joined) from to line b h c = quiet _ _ refl (joined, refl) (λ i l e. l)
kind_fits s m rest behind (token.Member at) from to line b h c = quiet _ _ refl (at, refl, own_name (drop (at - from) b) h) (λ i l e. l)
kind_fits s m rest behind token.Assign from to line b h c = assign_fits m (is 40 behind) from to line b (target_is s m h)
kind_fits s m rest behind token.AddAssign from to line b h c = add_fits m (is 40 behind) from to line b (target_is s m h)

pub token_fits : Spells → (s : Source) (m : Mode) (text : List ℕ) (at : ℕ) (t : Token) (line : ℕ) → Tok (lex_mode s m) text at t → Fitting (sign m (kinds.kind_of text m t) t.kind t.from t.to line) (bytes_between text t.from t.to)
token_fits told s m text at t line tok =
    kind_fits s m (drop t.from text) (slice_get text t.to) t.kind t.from t.to line (bytes_between text t.from t.to) (told (lex_mode s m) text at t tok) (found (lex_mode s m) text at t tok).shown
