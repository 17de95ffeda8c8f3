-- What steps do with tokens that fit.
use Rattle.std.specs.Prelude.{◌≡◌, ℕ, Bool, true, false, ◌||◌, List, [], ◌∷◌, ◌++◌, Option, Some, None, Result, Ok, Err, if◌then◌else◌}
use Rattle.std.proofs.Common.{refl, sym, ◌∙◌, ap, subst}
use Rattle.ksh_ast.specs.declared.kinds.BinaryTest.{BinaryTest}
use Rattle.ksh_ast.specs.declared.kinds.SubstKind.TheVariants as subst_kind
use Rattle.ksh_ast.specs.declared.kinds.UnaryTest.{UnaryTest}
use Rattle.ksh_ast.specs.declared.tree.Command.{Command}
use Rattle.ksh_kinds.specs.Words.{path_front}
use Rattle.ksh_lexer.specs.declared.kind.Descriptor.{Descriptor}
use Rattle.ksh_lexer.specs.declared.kind.Form.{Form}
use Rattle.ksh_lexer.specs.declared.kind.Redirection.{Redirection}
use Rattle.ksh_lexer.specs.declared.kind.TokenKind.TheVariants as token
use Rattle.ksh_syntax.specs.declared.kind.Kind.{Kind}
use Rattle.ksh_syntax.specs.declared.kind.Kind.TheVariants as kind
use Rattle.ksh_syntax.specs.declared.kind.Mode.{Mode}
use Rattle.ksh_syntax.specs.declared.kind.Mode.TheVariants as mode
use Rattle.ksh_syntax.specs.declared.part.Words.TheVariants as words
use Rattle.ksh_syntax.specs.Takes.{are_in}
use Rattle.tree_moves.specs.Moves.{Row}
use Rattle.tree_moves.specs.Tags.{Tag}
use Rattle.tree_moves.specs.Tags as tag
use Rattle.tree_parts.specs.declared.sign.Sign.{Sign}
use Rattle.tree_parts.specs.Literals.{from_place, is_nested, literal_of}
use Rattle.tree_parts.specs.Parts.{all_names, binary_test, ended_by, is_descriptor, is_name, is_param, joins, names_of, redirect_form, unary_test}
use Rattle.tree_build.specs.Fits.{Fits, Moves, TakesTwo, opens}
use Rattle.tree_build.specs.Fitting.{Fitting, IsLiteral, IsSpelledAs, is_between}
use Rattle.tree_build.specs.Frame.{Frame}
use Rattle.tree_build.specs.Places.{place_at}
use Rattle.tree_build.specs.Reads.{breaks}
use Rattle.tree_build.specs.Silent.{is_silent}
use Rattle.tree_build.specs.Tables.{assigns, closes, ends_item, is_assignment, is_special, is_word}
use Rattle.tree_build.specs.declared.place.Place.{Place}
use Rattle.tree_build.specs.declared.place.Place.TheVariants as place
use Rattle.tree_build.specs.declared.unbuilt.Unbuilt.{Unbuilt}
use Rattle.tree_build.specs.declared.unbuilt.Unbuilt.TheVariants as unbuilt
use Rattle.script_tree.specs.Steps.{AllMove}
use Rattle.script_tree.specs.Taken.{case_in_steps, current_steps, do_for_steps, for_name_steps, form_steps, function_name_steps, group_steps, literal_steps, member_group_steps, member_steps, nested_steps, opened_steps, otherwise_steps, pass_steps, path_steps, push, push_steps, special_steps, text_steps}
use Rattle.script_tree.proofs.Tagged.{tag_place, top_place}

-- ---- what is silent

silent_somewhere : (k : Kind) → is_silent k place.Nothing ≡ true → ⊥
silent_somewhere kind.Newline e = cc
silent_somewhere kind.NewlineBodies e = cc
silent_somewhere _ e = cc

silent_there : (k : Kind) (p : Place) → is_silent k p ≡ true → p ≡ place.Nothing → ⊥
silent_there k p e n = silent_somewhere k (subst (λ q. is_silent k q ≡ true) n e)

-- what passes over a token where it is silent
abbrev pub Passes : {A : Type 0} → Kind → List Frame → List Frame → Result A Unbuilt → Type 0
Passes k old new res = is_silent k (place_at old 0) ≡ true → (place_at old 0 ≡ place.Nothing → ⊥) → Moves ([], []) old new res

pub pass_moves : {A : Type 0} (k : Kind) (old new : List Frame) (res : Result A Unbuilt) → Passes k old new res → AllMove (pass_steps k (place_at old 0)) old new res
pass_moves k old new res passes = by_silent (is_silent k (place_at old 0)) refl
  where
    by_silent : (b : Bool) → is_silent k (place_at old 0) ≡ b → AllMove (if b then ([], []) ∷ [] else []) old new res
    by_silent true e = (passes e (silent_there k (place_at old 0) e), tt)
    by_silent false e = tt

pub pass_at : {A : Type 0} (k : Kind) (p : Place) (old new : List Frame) (res : Result A Unbuilt) → is_silent k p ≡ true → place_at old 0 ≡ p → Passes k old new res → Moves ([], []) old new res
pass_at k p old new res e at passes =
    let here : is_silent k (place_at old 0) ≡ true = subst (λ q. is_silent k q ≡ true) (sym at) e in
    passes here (silent_there k (place_at old 0) here)

-- a token is passed over behind a step that opens a frame
pub opens_passes : {A B : Type 0} (t : Tag) (p : Place) (k : Kind) (old mid new : List Frame) (x : A) (res : Result B Unbuilt) → tag_place t ≡ Some p → is_silent k p ≡ true
    → Moves ([], t ∷ []) old mid (Ok x) → Passes k mid new res → Moves ([], t ∷ []) old new res
opens_passes t p k old mid new x (Ok y) e s first passes = λ rest h.
    pass_at k p mid new (Ok y) s (top_place t rest mid p e (first rest h)) passes (t ∷ rest) (first rest h)
opens_passes {A} {B} t p k old mid new x (Err unbuilt.Stray) e s first passes = λ rest h.
    pass_at {A = B} k p mid new (Err unbuilt.Stray) s (top_place t rest mid p e (first rest h)) passes (t ∷ rest) (first rest h)
opens_passes t p k old mid new x (Err unbuilt.Memory) e s first passes = tt

-- ---- parameters

pub special_moves : {A : Type 0} (k : Kind) (old new : List Frame) (res : Result A Unbuilt) → (is_special k ≡ true → Moves (tag.BracesValue ∷ [], tag.ParameterOther ∷ []) old new res)
    → (is_special k ≡ true → Moves (tag.BracesLength ∷ [], tag.AskedOther ∷ []) old new res) → AllMove (special_steps k) old new res
special_moves kind.Digits old new res a b = (a refl, (b refl, tt))
special_moves kind.Special old new res a b = (a refl, (b refl, tt))
special_moves _ old new res a b = tt

form_by : {A : Type 0} (k : Kind) (s : Sign) (b : List ℕ) (old new : List Frame) (res : Result A Unbuilt) → IsSpelledAs k s b
    → ((f : Form) → s.token ≡ token.Form f → Moves (tag.ParameterOther ∷ [], tag.Text ∷ tag.FormedOnce ∷ []) old new res)
    → ((f : Form) → s.token ≡ token.Form f → TakesTwo f → Moves (tag.ParameterOther ∷ [], tag.Text ∷ tag.FormedTwice ∷ []) old new res) → AllMove (form_steps k) old new res
form_by kind.Instead s b old new res is once twice = (once is.0 is.1, tt)
form_by kind.Cut s b old new res is once twice = (once is.0 is.1, tt)
form_by kind.Slice s b old new res is once twice = (twice is.0 is.1 is.2, tt)
form_by kind.Replace s b old new res is once twice = (twice is.0 is.1 is.2, tt)
form_by _ s b old new res is once twice = tt

pub form_moves : {A : Type 0} (s : Sign) (b : List ℕ) (old new : List Frame) (res : Result A Unbuilt) → Fitting s b
    → ((f : Form) → s.token ≡ token.Form f → Moves (tag.ParameterOther ∷ [], tag.Text ∷ tag.FormedOnce ∷ []) old new res)
    → ((f : Form) → s.token ≡ token.Form f → TakesTwo f → Moves (tag.ParameterOther ∷ [], tag.Text ∷ tag.FormedTwice ∷ []) old new res) → AllMove (form_steps s.kind) old new res
form_moves s b old new res fit once twice = form_by s.kind s b old new res fit.spelled once twice

-- what the kind says, where it is known
spelled_as : (k : Kind) (s : Sign) (b : List ℕ) → Fitting s b → s.kind ≡ k → IsSpelledAs k s b
spelled_as k s b fit e = subst (λ l. IsSpelledAs l s b) e fit.spelled

pub member_moves : {A : Type 0} (r : Row) (s : Sign) (b : List ℕ) (old new : List Frame) (res : Result A Unbuilt) → Fitting s b → s.kind ≡ kind.Member
    → ((at : ℕ) → s.token ≡ token.Member at → is_name (from_place s at b) ≡ true → Moves r old new res) → Moves r old new res
member_moves r s b old new res fit e m =
    let is : IsSpelledAs kind.Member s b = spelled_as kind.Member s b fit e in
    m is.0 is.1 is.2

pub items_moves : {A : Type 0} (r : Row) (s : Sign) (b : List ℕ) (old new : List Frame) (res : Result A Unbuilt) → Fitting s b → s.kind ≡ kind.Items
    → ((joined : Bool) → s.token ≡ token.Items joined → Moves r old new res) → Moves r old new res
items_moves r s b old new res fit e m =
    let is : IsSpelledAs kind.Items s b = spelled_as kind.Items s b fit e in
    m is.0 is.1

pub expand_moves : {A : Type 0} (s : Sign) (b : List ℕ) (old new : List Frame) (res : Result A Unbuilt) → Fitting s b → s.kind ≡ kind.Expand
    → ((at : ℕ) → s.token ≡ token.Expand at → is_param (from_place s at b) ≡ true → Moves (tag.Text ∷ [], tag.Text ∷ []) old new res) → AllMove text_steps old new res
expand_moves s b old new res fit e m =
    let is : IsSpelledAs kind.Expand s b = spelled_as kind.Expand s b fit e in
    (m is.0 is.1 is.2, tt)

-- ---- assignments

pub otherwise_moves : {A : Type 0} (k : Kind) (old new : List Frame) (res : Result A Unbuilt) → (k ≡ kind.Otherwise → Moves (tag.Target ∷ [], tag.Text ∷ tag.Element ∷ []) old new res) → AllMove (otherwise_steps k) old new res
otherwise_moves kind.Otherwise old new res m = (m refl, tt)
otherwise_moves _ old new res m = tt

pub assign_is : (s : Sign) (b : List ℕ) → Fitting s b → s.mode ≡ mode.Target → s.kind ≡ kind.Assign → assigns s.token ≡ None → ⊥
assign_is s b fit m k = (fit.target m).0 k

pub add_assign_is : (s : Sign) (b : List ℕ) → Fitting s b → s.mode ≡ mode.Target → s.kind ≡ kind.AddAssign → assigns s.token ≡ None → ⊥
add_assign_is s b fit m k = (fit.target m).1 k

pub value_assign_is : (s : Sign) (b : List ℕ) → Fitting s b → s.mode ≡ mode.Target → s.kind ≡ kind.ValueOpen → assigns s.token ≡ None → ⊥
value_assign_is s b fit m k = (fit.target m).2 k

pub element_is : (s : Sign) (b : List ℕ) → Fitting s b → s.kind ≡ kind.Element → all_names (names_of b) ≡ true
element_is s b fit e = spelled_as kind.Element s b fit e

pub value_open_is : (s : Sign) (b : List ℕ) → Fitting s b → is_between s.mode ≡ true → s.kind ≡ kind.ValueOpen → all_names (names_of (path_front b)) ≡ true
value_open_is s b fit between e =
    let is : IsSpelledAs kind.ValueOpen s b = spelled_as kind.ValueOpen s b fit e in
    is between

-- ---- texts

literal_by : {A : Type 0} (k : Kind) (m : Mode) (old new : List Frame) (res : Result A Unbuilt) → (IsLiteral m k → Moves (tag.Text ∷ [], tag.Text ∷ []) old new res) → AllMove (literal_steps k) old new res
literal_by kind.Plain m old new res move = (move tt, tt)
literal_by kind.Joined m old new res move = (move tt, tt)
literal_by kind.Escaped m old new res move = (move tt, tt)
literal_by kind.Single m old new res move = (move tt, tt)
literal_by kind.Ansi m old new res move = (move tt, tt)
literal_by kind.OpenQuote m old new res move = (move tt, tt)
literal_by kind.CloseQuote m old new res move = (move tt, tt)
literal_by kind.Dollar m old new res move = (move tt, tt)
literal_by kind.Open m old new res move = (move tt, tt)
literal_by _ m old new res move = tt

pub literal_moves : {A : Type 0} (s : Sign) (b : List ℕ) (old new : List Frame) (res : Result A Unbuilt) → Fitting s b → is_between s.mode ≡ false
    → ((literal_of s b ≡ None → ⊥) → Moves (tag.Text ∷ [], tag.Text ∷ []) old new res) → AllMove (literal_steps s.kind) old new res
literal_moves s b old new res fit between move = literal_by s.kind s.mode old new res (λ is. move (fit.literal between is))

pub nested_moves : {A : Type 0} (s : Sign) (b : List ℕ) (old new : List Frame) (res : Result A Unbuilt) → Fitting s b → is_between s.mode ≡ false → s.kind ≡ kind.Close
    → ((literal_of s b ≡ None → ⊥) → Moves (tag.Text ∷ [], tag.Text ∷ []) old new res) → AllMove (nested_steps s.mode) old new res
nested_moves s b old new res fit between e move = by_nested (is_nested s.mode) refl
  where
    by_nested : (n : Bool) → is_nested s.mode ≡ n → AllMove (if n then text_steps else []) old new res
    by_nested true n = (move (fit.literal between (subst (λ k. IsLiteral s.mode k) (sym e) n)), tt)
    by_nested false n = tt

pub subscript_moves : {A : Type 0} (s : Sign) (b : List ℕ) (old new : List Frame) (res : Result A Unbuilt) → Fitting s b → s.mode ≡ mode.Subscript → s.kind ≡ kind.Close
    → ((literal_of s b ≡ None → ⊥) → Moves (tag.Text ∷ [], tag.Text ∷ []) old new res) → AllMove text_steps old new res
subscript_moves s b old new res fit m e move =
    let within : is_between s.mode ≡ false = ap is_between m in
    let nested : IsLiteral s.mode kind.Close = ap is_nested m in
    (move (fit.literal within (subst (λ k. IsLiteral s.mode k) (sym e) nested)), tt)

-- ---- redirections

pub redirect_moves : {A : Type 0} (s : Sign) (b : List ℕ) (old new : List Frame) (res : Result A Unbuilt) → Fitting s b → s.kind ≡ kind.Redirect
    → ((s.kind ≡ kind.HereRedirect → ⊥) → (r : Redirection) (d : Descriptor) → s.token ≡ token.Redirect r d → is_descriptor d s.from b ≡ true → (redirect_form r ≡ None → ⊥)
    → Moves ([], tag.Redirection ∷ []) old new res) → AllMove (push (tag.Redirection ∷ [])) old new res
redirect_moves s b old new res fit e m =
    let is : IsSpelledAs kind.Redirect s b = spelled_as kind.Redirect s b fit e in
    (m not_here is.0 is.1 is.2 is.3 is.4, tt)
  where
    not_here : s.kind ≡ kind.HereRedirect → ⊥
    not_here here = cc

pub here_redirect_moves : {A : Type 0} (s : Sign) (b : List ℕ) (old new : List Frame) (res : Result A Unbuilt) → Fitting s b → s.kind ≡ kind.HereRedirect
    → (s.kind ≡ kind.HereRedirect → (r : Redirection) (d : Descriptor) → s.token ≡ token.Redirect r d → is_descriptor d s.from b ≡ true → Moves ([], tag.HereOperator ∷ []) old new res)
    → AllMove (push (tag.HereOperator ∷ [])) old new res
here_redirect_moves s b old new res fit e m =
    let is : IsSpelledAs kind.HereRedirect s b = spelled_as kind.HereRedirect s b fit e in
    (m e is.0 is.1 is.2 is.3, tt)

-- ---- commands

opened_by : {A : Type 0} (o : Option Tag) (old new : List Frame) (res : Result A Unbuilt) → ((t : Tag) → o ≡ Some t → Moves ([], t ∷ []) old new res) → AllMove (opened_steps o) old new res
opened_by (Some t) old new res m = (m t refl, tt)
opened_by None old new res m = tt

pub opened_moves : {A : Type 0} (k : Kind) (old new : List Frame) (res : Result A Unbuilt) → ((t : Tag) → opens k ≡ Some t → Moves ([], t ∷ []) old new res) → AllMove (opened_steps (opens k)) old new res
opened_moves k old new res m = opened_by (opens k) old new res m

pub group_moves : {A : Type 0} (k : Kind) (old new : List Frame) (res : Result A Unbuilt) → (k ≡ kind.RightBrace → Moves (tag.Listed ∷ tag.Group ∷ [], tag.Compound ∷ []) old new res) → AllMove (group_steps k) old new res
group_moves kind.RightBrace old new res m = (m refl, tt)
group_moves _ old new res m = tt

pub current_moves : {A : Type 0} (k : Kind) (old new : List Frame) (res : Result A Unbuilt)
    → (closes subst_kind.Current k ≡ true → Moves (tag.Listed ∷ tag.SubstitutionCurrent ∷ tag.Text ∷ [], tag.Text ∷ []) old new res) → AllMove (current_steps k) old new res
current_moves kind.RightBrace old new res m = (m refl, tt)
current_moves _ old new res m = tt

pub do_for_moves : {A : Type 0} (k : Kind) (old new : List Frame) (res : Result A Unbuilt) → (k ≡ kind.Do → Moves (tag.ForName ∷ [], tag.Lines ∷ tag.ForBody ∷ []) old new res)
    → (k ≡ kind.Do → Moves (tag.ForReady ∷ [], tag.Lines ∷ tag.ForBody ∷ []) old new res) → (k ≡ kind.Do → Moves (tag.ForArithmeticThree ∷ [], tag.Lines ∷ tag.ForArithmeticBody ∷ []) old new res)
    → AllMove (do_for_steps k) old new res
do_for_moves kind.Do old new res a b c = (a refl, (b refl, (c refl, tt)))
do_for_moves _ old new res a b c = tt

pub case_in_moves : {A : Type 0} (k : Kind) (old new : List Frame) (res : Result A Unbuilt) → (k ≡ kind.In → Moves (tag.CaseWord ∷ [], tag.Cases ∷ []) old new res) → AllMove (case_in_steps k) old new res
case_in_moves kind.In old new res m = (m refl, tt)
case_in_moves _ old new res m = tt

pub member_group_moves : {A : Type 0} (k : Kind) (old new : List Frame) (res : Result A Unbuilt) → (k ≡ kind.LeftBrace → Moves (tag.MemberBody ∷ [], tag.Lines ∷ tag.Group ∷ []) old new res) → AllMove (member_group_steps k) old new res
member_group_moves kind.LeftBrace old new res m = (m refl, tt)
member_group_moves _ old new res m = tt

variable_word : (k : Kind) → are_in words.VariableName k ≡ true → is_word k ≡ true
variable_word kind.End e = cc
variable_word _ e = cc

dotted_word : (k : Kind) → are_in words.DottedName k ≡ true → is_word k ≡ true
dotted_word kind.End e = cc
dotted_word _ e = cc

pub for_name_moves : {A : Type 0} (s : Sign) (b : List ℕ) (old new : List Frame) (res : Result A Unbuilt) → Fitting s b
    → (is_word s.kind ≡ true → is_name b ≡ true → Moves (tag.ForLoop ∷ [], tag.ForName ∷ []) old new res) → (is_word s.kind ≡ true → is_name b ≡ true → Moves (tag.ForSelect ∷ [], tag.ForName ∷ []) old new res)
    → AllMove (for_name_steps s.kind) old new res
for_name_moves s b old new res fit one two = by_name (are_in words.VariableName s.kind) refl
  where
    by_name : (v : Bool) → are_in words.VariableName s.kind ≡ v → AllMove (if v then (tag.ForLoop ∷ [], tag.ForName ∷ []) ∷ (tag.ForSelect ∷ [], tag.ForName ∷ []) ∷ [] else []) old new res
    by_name true e = (one (variable_word s.kind e) (fit.variable e), (two (variable_word s.kind e) (fit.variable e), tt))
    by_name false e = tt

pub function_name_moves : {A : Type 0} (s : Sign) (b : List ℕ) (old new : List Frame) (res : Result A Unbuilt) → Fitting s b → is_between s.mode ≡ true
    → (is_word s.kind ≡ true → all_names (names_of b) ≡ true → Moves (tag.Function ∷ [], tag.FunctionName ∷ []) old new res) → AllMove (function_name_steps s.kind) old new res
function_name_moves s b old new res fit between m = by_name (are_in words.DottedName s.kind) refl
  where
    by_name : (v : Bool) → are_in words.DottedName s.kind ≡ v → AllMove (if v then (tag.Function ∷ [], tag.FunctionName ∷ []) ∷ [] else []) old new res
    by_name true e = (m (dotted_word s.kind e) (fit.dotted between e), tt)
    by_name false e = tt

-- ---- words

word_by : {A : Type 0} (w d a : Bool) (old new : List Frame) (res : Result A Unbuilt) → a ≡ false → (w ≡ true → a ≡ false → Moves ([], tag.Whole ∷ []) old new res)
    → (w ≡ true → a ≡ false → d ≡ true → Moves ([], tag.WholeName ∷ []) old new res) → AllMove (if w then (if d then push (tag.WholeName ∷ []) else push (tag.Whole ∷ [])) else []) old new res
word_by true true a old new res n plain named = (named refl n refl, tt)
word_by true false a old new res n plain named = (plain refl n, tt)
word_by false d a old new res n plain named = tt

push_by : {A : Type 0} (k : Kind) (s : Sign) (b : List ℕ) (old new : List Frame) (res : Result A Unbuilt) → IsSpelledAs k s b → (are_in words.DottedName k ≡ true → all_names (names_of b) ≡ true)
    → (is_word k ≡ true → is_assignment k ≡ false → Moves ([], tag.Whole ∷ []) old new res)
    → (k ≡ kind.Assignment → Moves ([], tag.WholeAssignment ∷ []) old new res)
    → (is_word k ≡ true → is_assignment k ≡ false → all_names (names_of b) ≡ true → Moves ([], tag.WholeName ∷ []) old new res)
    → (is_word k ≡ true → (test : UnaryTest) → unary_test b ≡ Some test → Moves ([], tag.WholeUnary ∷ []) old new res)
    → (is_word k ≡ true → (test : BinaryTest) → binary_test b ≡ Some test → Moves ([], tag.WholeBinary ∷ []) old new res)
    → (k ≡ kind.Order → (test : BinaryTest) → binary_test b ≡ Some test → Moves ([], tag.WholeBinary ∷ []) old new res)
    → AllMove (push_steps k) old new res
push_by kind.Assignment s b old new res is dotted plain assignment named unary binary order = (assignment refl, tt)
push_by kind.Unary s b old new res is dotted plain assignment named unary binary order = (plain refl refl, (unary refl is.0 is.1, tt))
push_by kind.Binary s b old new res is dotted plain assignment named unary binary order = (plain refl refl, (binary refl is.0 is.1, tt))
push_by kind.Order s b old new res is dotted plain assignment named unary binary order = (order refl is.0 is.1, tt)
push_by k s b old new res is dotted plain assignment named unary binary order =
    word_by (is_word k) (are_in words.DottedName k) (is_assignment k) old new res refl plain (λ w a d. named w a (dotted d))

pub push_moves : {A : Type 0} (s : Sign) (b : List ℕ) (old new : List Frame) (res : Result A Unbuilt) → Fitting s b → is_between s.mode ≡ true
    → (is_word s.kind ≡ true → is_assignment s.kind ≡ false → Moves ([], tag.Whole ∷ []) old new res)
    → (s.kind ≡ kind.Assignment → Moves ([], tag.WholeAssignment ∷ []) old new res)
    → (is_word s.kind ≡ true → is_assignment s.kind ≡ false → all_names (names_of b) ≡ true → Moves ([], tag.WholeName ∷ []) old new res)
    → (is_word s.kind ≡ true → (test : UnaryTest) → unary_test b ≡ Some test → Moves ([], tag.WholeUnary ∷ []) old new res)
    → (is_word s.kind ≡ true → (test : BinaryTest) → binary_test b ≡ Some test → Moves ([], tag.WholeBinary ∷ []) old new res)
    → (s.kind ≡ kind.Order → (test : BinaryTest) → binary_test b ≡ Some test → Moves ([], tag.WholeBinary ∷ []) old new res)
    → AllMove (push_steps s.kind) old new res
push_moves s b old new res fit between = push_by s.kind s b old new res fit.spelled (fit.dotted between)

-- ---- kinds that end or join commands

pub break_ends : (k : Kind) → breaks k ≡ true → (line : ℕ) (c : Command) → ended_by k line c ≡ None → ⊥
break_ends kind.Newline e line c n = cc
break_ends kind.NewlineBodies e line c n = cc
break_ends kind.Semicolon e line c n = cc
break_ends _ e line c n = cc
