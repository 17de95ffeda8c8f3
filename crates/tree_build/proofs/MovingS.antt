-- What steps of texts and parameters do to the tags of frames.
use Rattle.std.specs.Prelude.{◌≡◌, ℕ, Bool, true, List, [], ◌∷◌, ◌++◌, Option, Some, None, Result, Ok, Err}
use Rattle.std.proofs.Common.{refl, sym, ◌∙◌, ap}
use Rattle.ksh_ast.specs.declared.kinds.SubstKind.{SubstKind}
use Rattle.ksh_ast.specs.declared.kinds.SubstKind.TheVariants as kinds
use Rattle.ksh_ast.specs.declared.tree.ParamOf.{ParamOf}
use Rattle.ksh_ast.specs.declared.tree.ParamOf.TheVariants as of
use Rattle.ksh_ast.specs.declared.tree.Piece.{Piece}
use Rattle.ksh_ast.specs.declared.tree.TreePath.{TreePath}
use Rattle.ksh_lexer.specs.declared.kind.Form.{Form}
use Rattle.ksh_lexer.specs.declared.kind.Form.TheVariants as form
use Rattle.ksh_lexer.specs.declared.kind.TokenKind.{TokenKind}
use Rattle.ksh_lexer.specs.declared.kind.TokenKind.TheVariants as token
use Rattle.tree_moves.specs.Tags.{Tag}
use Rattle.tree_moves.specs.Tags as tag
use Rattle.tree_parts.specs.declared.asked.Asked.{Asked}
use Rattle.tree_parts.specs.declared.asked.Asked.TheVariants as asked
use Rattle.tree_parts.specs.Parts.{formed}
use Rattle.tree_build.specs.declared.place.Place.{Place}
use Rattle.tree_build.specs.declared.place.Place.TheVariants as place
use Rattle.tree_build.specs.declared.unbuilt.Unbuilt.{Unbuilt}
use Rattle.tree_build.specs.declared.unbuilt.Unbuilt.TheVariants as unbuilt
use Rattle.tree_build.specs.Fits.{Fits, Is, Moves, TakesTwo}
use Rattle.tree_build.specs.Frame.{Frame, Text, Bracket, Subscript, Braces, Parameter, Formed, Substitution, Arithmetic, Target, Keyed}
use Rattle.tree_build.specs.Places.{place_at, place_of}
use Rattle.tree_build.proofs.Moving.{opens_frame, one_for_one, two_for_one, never_fits}

-- ---- one step behind another

-- the second puts a frame on top
pub then_on_top : {A : Type 0} (a : List Tag) (b t : Tag) (old between new : List Frame) (r : Result A Unbuilt) → ((rest : List Tag) → Fits (a ++ rest) old → Fits (b ∷ rest) between) → Moves ([], t ∷ []) between new r
    → Moves (a, t ∷ b ∷ []) old new r
then_on_top a b t old between new (Ok y) first second = λ rest fits. second (b ∷ rest) (first rest fits)
then_on_top a b t old between new (Err unbuilt.Stray) first second = λ rest fits. second (b ∷ rest) (first rest fits)
then_on_top a b t old between new (Err unbuilt.Memory) first second = tt

-- ---- texts

pub opens_text : (ps : List Piece) (old new : List Frame) → new ≡ Text ps ∷ old → (rest : List Tag) → Fits rest old → Fits (tag.Text ∷ rest) new
opens_text ps old new n = opens_frame tag.Text (Text ps) old new tt n

same_kind : (o : Option SubstKind) (k j : SubstKind) → o ≡ Some k → o ≡ Some j → k ≡ j
same_kind o k j e e' = cc

pub opens_fork : (o : Option SubstKind) (k : SubstKind) (quoted : Bool) (old new : List Frame) → o ≡ Some k → new ≡ Substitution quoted k ∷ old → o ≡ Some kinds.Fork → (rest : List Tag) → Fits rest old → Fits (tag.SubstitutionFork ∷ rest) new
opens_fork o k quoted old new e n is = opens_frame tag.SubstitutionFork (Substitution quoted k) old new (same_kind o k kinds.Fork e is) n

pub opens_current : (o : Option SubstKind) (k : SubstKind) (quoted : Bool) (old new : List Frame) → o ≡ Some k → new ≡ Substitution quoted k ∷ old → o ≡ Some kinds.Current → (rest : List Tag) → Fits rest old → Fits (tag.SubstitutionCurrent ∷ rest) new
opens_current o k quoted old new e n is = opens_frame tag.SubstitutionCurrent (Substitution quoted k) old new (same_kind o k kinds.Current e is) n

pub opens_arithmetic : (quoted : Bool) (old new : List Frame) → new ≡ Arithmetic quoted ∷ old → (rest : List Tag) → Fits rest old → Fits (tag.Arithmetic ∷ rest) new
opens_arithmetic quoted old new n = opens_frame tag.Arithmetic (Arithmetic quoted) old new tt n

-- ---- parameters in braces

pub opens_braces : (quoted : Bool) (old new : List Frame) → new ≡ Braces quoted asked.Value ∷ old → (rest : List Tag) → Fits rest old → Fits (tag.BracesValue ∷ rest) new
opens_braces quoted old new n = opens_frame tag.BracesValue (Braces quoted asked.Value) old new refl n

pub asks_length : (quoted : Bool) (a : Asked) (old s new : List Frame) → old ≡ Braces quoted a ∷ s → new ≡ Braces quoted asked.Length ∷ s → (rest : List Tag) → Fits (tag.BracesValue ∷ rest) old → Fits (tag.BracesLength ∷ rest) new
asks_length quoted a old s new o n = one_for_one tag.BracesValue tag.BracesLength (Braces quoted a) (Braces quoted asked.Length) old s new (λ h. refl) o n

pub asks_target : (quoted : Bool) (a : Asked) (old s new : List Frame) → old ≡ Braces quoted a ∷ s → new ≡ Braces quoted asked.Target ∷ s → (rest : List Tag) → Fits (tag.BracesValue ∷ rest) old → Fits (tag.BracesTarget ∷ rest) new
asks_target quoted a old s new o n = one_for_one tag.BracesValue tag.BracesTarget (Braces quoted a) (Braces quoted asked.Target) old s new (λ h. refl) o n

pub names_value : (quoted : Bool) (a : Asked) (path : TreePath) (old s new : List Frame) → old ≡ Braces quoted a ∷ s → new ≡ Parameter quoted a (of.Var path) ∷ s → (rest : List Tag) → Fits (tag.BracesValue ∷ rest) old → Fits (tag.ParameterPath ∷ rest) new
names_value quoted a path old s new o n = one_for_one tag.BracesValue tag.ParameterPath (Braces quoted a) (Parameter quoted a (of.Var path)) old s new (λ h. (h, (path, refl))) o n

pub names_length : (quoted : Bool) (a : Asked) (path : TreePath) (old s new : List Frame) → old ≡ Braces quoted a ∷ s → new ≡ Parameter quoted a (of.Var path) ∷ s → (rest : List Tag) → Fits (tag.BracesLength ∷ rest) old → Fits (tag.AskedPath ∷ rest) new
names_length quoted a path old s new o n = one_for_one tag.BracesLength tag.AskedPath (Braces quoted a) (Parameter quoted a (of.Var path)) old s new (λ h. (path, refl)) o n

pub names_target : (quoted : Bool) (a : Asked) (path : TreePath) (old s new : List Frame) → old ≡ Braces quoted a ∷ s → new ≡ Parameter quoted a (of.Var path) ∷ s → (rest : List Tag) → Fits (tag.BracesTarget ∷ rest) old → Fits (tag.TargetPath ∷ rest) new
names_target quoted a path old s new o n = one_for_one tag.BracesTarget tag.TargetPath (Braces quoted a) (Parameter quoted a (of.Var path)) old s new (λ h. (h, (path, refl))) o n

pub special_value : (quoted : Bool) (a : Asked) (p : ParamOf) (old s new : List Frame) → old ≡ Braces quoted a ∷ s → new ≡ Parameter quoted a p ∷ s → (rest : List Tag) → Fits (tag.BracesValue ∷ rest) old → Fits (tag.ParameterOther ∷ rest) new
special_value quoted a p old s new o n = one_for_one tag.BracesValue tag.ParameterOther (Braces quoted a) (Parameter quoted a p) old s new (λ h. h) o n

pub special_length : (quoted : Bool) (a : Asked) (p : ParamOf) (old s new : List Frame) → old ≡ Braces quoted a ∷ s → new ≡ Parameter quoted a p ∷ s → (rest : List Tag) → Fits (tag.BracesLength ∷ rest) old → Fits (tag.AskedOther ∷ rest) new
special_length quoted a p old s new o n = one_for_one tag.BracesLength tag.AskedOther (Braces quoted a) (Parameter quoted a p) old s new (λ h. tt) o n

-- a path that goes on
pub value_goes_on : (quoted : Bool) (a : Asked) (p : ParamOf) (path : TreePath) (old s new : List Frame) → old ≡ Parameter quoted a p ∷ s → new ≡ Parameter quoted a (of.Var path) ∷ s
    → (rest : List Tag) → Fits (tag.ParameterPath ∷ rest) old → Fits (tag.ParameterPath ∷ rest) new
value_goes_on quoted a p path old s new o n = one_for_one tag.ParameterPath tag.ParameterPath (Parameter quoted a p) (Parameter quoted a (of.Var path)) old s new (λ h. (h.0, (path, refl))) o n

pub asked_goes_on : (quoted : Bool) (a : Asked) (p : ParamOf) (path : TreePath) (old s new : List Frame) → old ≡ Parameter quoted a p ∷ s → new ≡ Parameter quoted a (of.Var path) ∷ s
    → (rest : List Tag) → Fits (tag.AskedPath ∷ rest) old → Fits (tag.AskedPath ∷ rest) new
asked_goes_on quoted a p path old s new o n = one_for_one tag.AskedPath tag.AskedPath (Parameter quoted a p) (Parameter quoted a (of.Var path)) old s new (λ h. (path, refl)) o n

pub target_goes_on : (quoted : Bool) (a : Asked) (p : ParamOf) (path : TreePath) (old s new : List Frame) → old ≡ Parameter quoted a p ∷ s → new ≡ Parameter quoted a (of.Var path) ∷ s
    → (rest : List Tag) → Fits (tag.TargetPath ∷ rest) old → Fits (tag.TargetPath ∷ rest) new
target_goes_on quoted a p path old s new o n = one_for_one tag.TargetPath tag.TargetPath (Parameter quoted a p) (Parameter quoted a (of.Var path)) old s new (λ h. (h.0, (path, refl))) o n

-- the same behind a subscript
pub value_subscript : (ps : List Piece) (quoted : Bool) (a : Asked) (p : ParamOf) (path : TreePath) (old s1 s2 new : List Frame) → old ≡ Subscript ps ∷ s1 → s1 ≡ Parameter quoted a p ∷ s2 → new ≡ Parameter quoted a (of.Var path) ∷ s2
    → (rest : List Tag) → Fits (tag.Subscript ∷ tag.ParameterPath ∷ rest) old → Fits (tag.ParameterPath ∷ rest) new
value_subscript ps quoted a p path old s1 s2 new o o' n = two_for_one tag.Subscript tag.ParameterPath tag.ParameterPath (Subscript ps) (Parameter quoted a p) (Parameter quoted a (of.Var path)) old s1 s2 new (λ h h'. (h'.0, (path, refl))) o o' n

pub asked_subscript : (ps : List Piece) (quoted : Bool) (a : Asked) (p : ParamOf) (path : TreePath) (old s1 s2 new : List Frame) → old ≡ Subscript ps ∷ s1 → s1 ≡ Parameter quoted a p ∷ s2 → new ≡ Parameter quoted a (of.Var path) ∷ s2
    → (rest : List Tag) → Fits (tag.Subscript ∷ tag.AskedPath ∷ rest) old → Fits (tag.AskedPath ∷ rest) new
asked_subscript ps quoted a p path old s1 s2 new o o' n = two_for_one tag.Subscript tag.AskedPath tag.AskedPath (Subscript ps) (Parameter quoted a p) (Parameter quoted a (of.Var path)) old s1 s2 new (λ h h'. (path, refl)) o o' n

pub target_subscript : (ps : List Piece) (quoted : Bool) (a : Asked) (p : ParamOf) (path : TreePath) (old s1 s2 new : List Frame) → old ≡ Subscript ps ∷ s1 → s1 ≡ Parameter quoted a p ∷ s2 → new ≡ Parameter quoted a (of.Var path) ∷ s2
    → (rest : List Tag) → Fits (tag.Subscript ∷ tag.TargetPath ∷ rest) old → Fits (tag.TargetPath ∷ rest) new
target_subscript ps quoted a p path old s1 s2 new o o' n = two_for_one tag.Subscript tag.TargetPath tag.TargetPath (Subscript ps) (Parameter quoted a p) (Parameter quoted a (of.Var path)) old s1 s2 new (λ h h'. (h'.0, (path, refl))) o o' n

pub prefix_moves : (quoted : Bool) (a : Asked) (p o : ParamOf) (old s new : List Frame) → old ≡ Parameter quoted a p ∷ s → new ≡ Parameter quoted asked.Value o ∷ s → (rest : List Tag) → Fits (tag.TargetPath ∷ rest) old → Fits (tag.ParameterOther ∷ rest) new
prefix_moves quoted a p o old s new b n = one_for_one tag.TargetPath tag.ParameterOther (Parameter quoted a p) (Parameter quoted asked.Value o) old s new (λ h. refl) b n

-- ---- forms

pub formed_once : (quoted : Bool) (a : Asked) (p o : ParamOf) (f : Form) (old s new : List Frame) → old ≡ Parameter quoted a p ∷ s → new ≡ Formed quoted o f None ∷ s → (rest : List Tag) → Fits (tag.ParameterOther ∷ rest) old → Fits (tag.FormedOnce ∷ rest) new
formed_once quoted a p o f old s new b n = one_for_one tag.ParameterOther tag.FormedOnce (Parameter quoted a p) (Formed quoted o f None) old s new (λ h. refl) b n

same_form : (t : TokenKind) (f g : Form) → t ≡ token.Form g → t ≡ token.Form f → g ≡ f
same_form t f g e e' = cc

takes_two : (f g : Form) → g ≡ f → TakesTwo g → TakesTwo f
takes_two f g e two = rw (sym e) two

pub formed_twice : (t : TokenKind) (g : Form) (quoted : Bool) (a : Asked) (p o : ParamOf) (f : Form) (old s new : List Frame) → t ≡ token.Form f → old ≡ Parameter quoted a p ∷ s → new ≡ Formed quoted o f None ∷ s
    → t ≡ token.Form g → TakesTwo g → (rest : List Tag) → Fits (tag.ParameterOther ∷ rest) old → Fits (tag.FormedTwice ∷ rest) new
formed_twice t g quoted a p o f old s new e b n e' two = one_for_one tag.ParameterOther tag.FormedTwice (Parameter quoted a p) (Formed quoted o f None) old s new (λ h. (refl, takes_two f g (same_form t f g e' e) two)) b n

-- a form that may have two texts takes its last
takes_last : (f : Form) (first last : List Piece) → TakesTwo f → formed f (Some first) last ≡ None → ⊥
takes_last form.Slice first last two e = absurd cc
takes_last form.ReplaceFirst first last two e = absurd cc
takes_last form.ReplaceAll first last two e = absurd cc
takes_last form.ReplaceFront first last two e = absurd cc
takes_last form.ReplaceTail first last two e = absurd cc
takes_last (form.Instead colon) first last two e = two
takes_last (form.Assign colon) first last two e = two
takes_last (form.Fault colon) first last two e = two
takes_last (form.Other colon) first last two e = two
takes_last (form.Cut tail longest) first last two e = two

pub formed_last : (ps : List Piece) (quoted : Bool) (p o : ParamOf) (f : Form) (first : Option (List Piece)) (old s1 s2 new : List Frame) → old ≡ Text ps ∷ s1 → s1 ≡ Formed quoted p f first ∷ s2 → new ≡ Formed quoted o f (Some ps) ∷ s2
    → (rest : List Tag) → Fits (tag.Text ∷ tag.FormedTwice ∷ rest) old → Fits (tag.FormedLast ∷ rest) new
formed_last ps quoted p o f first old s1 s2 new b b' n = two_for_one tag.Text tag.FormedTwice tag.FormedLast (Text ps) (Formed quoted p f first) (Formed quoted o f (Some ps)) old s1 s2 new (λ h h' last. takes_last f ps last h'.1) b b' n

-- ---- subscripts

pub opens_bracket : (old new : List Frame) → new ≡ Bracket ∷ old → (rest : List Tag) → Fits rest old → Fits (tag.Bracket ∷ rest) new
opens_bracket old new n = opens_frame tag.Bracket Bracket old new tt n

pub ends_subscript : (ps qs : List Piece) (old s1 s2 new : List Frame) → old ≡ Text ps ∷ s1 → s1 ≡ Bracket ∷ s2 → new ≡ Subscript qs ∷ s2 → (rest : List Tag) → Fits (tag.Text ∷ tag.Bracket ∷ rest) old → Fits (tag.Subscript ∷ rest) new
ends_subscript ps qs old s1 s2 new o o' n = two_for_one tag.Text tag.Bracket tag.Subscript (Text ps) Bracket (Subscript qs) old s1 s2 new (λ h h'. tt) o o' n

pub keys : (ps qs : List Piece) (old s new : List Frame) → old ≡ Subscript ps ∷ s → new ≡ Keyed qs ∷ s → (rest : List Tag) → Fits (tag.Subscript ∷ rest) old → Fits (tag.Keyed ∷ rest) new
keys ps qs old s new o n = one_for_one tag.Subscript tag.Keyed (Subscript ps) (Keyed qs) old s new (λ h. tt) o n

-- the path of an assignment goes on
pub element_goes_on : (from : ℕ) (path more : TreePath) (old s new : List Frame) → old ≡ Target from path ∷ s → new ≡ Target from more ∷ s → (rest : List Tag) → Fits (tag.Target ∷ rest) old → Fits (tag.Target ∷ rest) new
element_goes_on from path more old s new o n = one_for_one tag.Target tag.Target (Target from path) (Target from more) old s new (λ h. tt) o n

pub element_subscript : (ps : List Piece) (from : ℕ) (path more : TreePath) (old s1 s2 new : List Frame) → old ≡ Subscript ps ∷ s1 → s1 ≡ Target from path ∷ s2 → new ≡ Target from more ∷ s2
    → (rest : List Tag) → Fits (tag.Subscript ∷ tag.Target ∷ rest) old → Fits (tag.Target ∷ rest) new
element_subscript ps from path more old s1 s2 new o o' n = two_for_one tag.Subscript tag.Target tag.Target (Subscript ps) (Target from path) (Target from more) old s1 s2 new (λ h h'. tt) o o' n

-- ---- what stands on top, or below it

value_place : (f : Frame) → Is tag.ParameterPath f → place_of f ≡ place.Parameter
value_place (Parameter quoted a p) h = refl
value_place _ h = absurd h

asked_place : (f : Frame) → Is tag.AskedPath f → place_of f ≡ place.Parameter
asked_place (Parameter quoted a p) h = refl
asked_place _ h = absurd h

target_place : (f : Frame) → Is tag.TargetPath f → place_of f ≡ place.Parameter
target_place (Parameter quoted a p) h = refl
target_place _ h = absurd h

element_place : (f : Frame) → Is tag.Target f → place_of f ≡ place.Target
element_place (Target from path) h = refl
element_place _ h = absurd h

not_both : (q : Place) → q ≡ place.Parameter → q ≡ place.Target → ⊥
not_both q e e' = absurd cc

pub value_not_target : {A : Type 0} (b : List Tag) (old new : List Frame) (r : Result A Unbuilt) → place_at old 0 ≡ place.Target → Moves (tag.ParameterPath ∷ [], b) old new r
value_not_target b [] new r is = never_fits (tag.ParameterPath ∷ [], b) [] new r (λ rest h. h)
value_not_target b (f ∷ fs) new r is = never_fits (tag.ParameterPath ∷ [], b) (f ∷ fs) new r (λ rest h. not_both (place_of f) (value_place f h.0) is)

pub asked_not_target : {A : Type 0} (b : List Tag) (old new : List Frame) (r : Result A Unbuilt) → place_at old 0 ≡ place.Target → Moves (tag.AskedPath ∷ [], b) old new r
asked_not_target b [] new r is = never_fits (tag.AskedPath ∷ [], b) [] new r (λ rest h. h)
asked_not_target b (f ∷ fs) new r is = never_fits (tag.AskedPath ∷ [], b) (f ∷ fs) new r (λ rest h. not_both (place_of f) (asked_place f h.0) is)

pub target_not_target : {A : Type 0} (b : List Tag) (old new : List Frame) (r : Result A Unbuilt) → place_at old 0 ≡ place.Target → Moves (tag.TargetPath ∷ [], b) old new r
target_not_target b [] new r is = never_fits (tag.TargetPath ∷ [], b) [] new r (λ rest h. h)
target_not_target b (f ∷ fs) new r is = never_fits (tag.TargetPath ∷ [], b) (f ∷ fs) new r (λ rest h. not_both (place_of f) (target_place f h.0) is)

pub element_not_other : {A : Type 0} (b : List Tag) (old new : List Frame) (r : Result A Unbuilt) → (place_at old 0 ≡ place.Target → ⊥) → Moves (tag.Target ∷ [], b) old new r
element_not_other b [] new r is = never_fits (tag.Target ∷ [], b) [] new r (λ rest h. h)
element_not_other b (f ∷ fs) new r is = never_fits (tag.Target ∷ [], b) (f ∷ fs) new r (λ rest h. is (element_place f h.0))

-- the same below the top
pub value_not_target_below : {A : Type 0} (t : Tag) (b : List Tag) (old new : List Frame) (r : Result A Unbuilt) → place_at old 1 ≡ place.Target → Moves (t ∷ tag.ParameterPath ∷ [], b) old new r
value_not_target_below t b [] new r is = never_fits (t ∷ tag.ParameterPath ∷ [], b) [] new r (λ rest h. h)
value_not_target_below t b (f ∷ []) new r is = never_fits (t ∷ tag.ParameterPath ∷ [], b) (f ∷ []) new r (λ rest h. h.1)
value_not_target_below t b (f ∷ g ∷ fs) new r is = never_fits (t ∷ tag.ParameterPath ∷ [], b) (f ∷ g ∷ fs) new r (λ rest h. not_both (place_of g) (value_place g h.1.0) is)

pub asked_not_target_below : {A : Type 0} (t : Tag) (b : List Tag) (old new : List Frame) (r : Result A Unbuilt) → place_at old 1 ≡ place.Target → Moves (t ∷ tag.AskedPath ∷ [], b) old new r
asked_not_target_below t b [] new r is = never_fits (t ∷ tag.AskedPath ∷ [], b) [] new r (λ rest h. h)
asked_not_target_below t b (f ∷ []) new r is = never_fits (t ∷ tag.AskedPath ∷ [], b) (f ∷ []) new r (λ rest h. h.1)
asked_not_target_below t b (f ∷ g ∷ fs) new r is = never_fits (t ∷ tag.AskedPath ∷ [], b) (f ∷ g ∷ fs) new r (λ rest h. not_both (place_of g) (asked_place g h.1.0) is)

pub target_not_target_below : {A : Type 0} (t : Tag) (b : List Tag) (old new : List Frame) (r : Result A Unbuilt) → place_at old 1 ≡ place.Target → Moves (t ∷ tag.TargetPath ∷ [], b) old new r
target_not_target_below t b [] new r is = never_fits (t ∷ tag.TargetPath ∷ [], b) [] new r (λ rest h. h)
target_not_target_below t b (f ∷ []) new r is = never_fits (t ∷ tag.TargetPath ∷ [], b) (f ∷ []) new r (λ rest h. h.1)
target_not_target_below t b (f ∷ g ∷ fs) new r is = never_fits (t ∷ tag.TargetPath ∷ [], b) (f ∷ g ∷ fs) new r (λ rest h. not_both (place_of g) (target_place g h.1.0) is)

pub element_not_other_below : {A : Type 0} (t : Tag) (b : List Tag) (old new : List Frame) (r : Result A Unbuilt) → (place_at old 1 ≡ place.Target → ⊥) → Moves (t ∷ tag.Target ∷ [], b) old new r
element_not_other_below t b [] new r is = never_fits (t ∷ tag.Target ∷ [], b) [] new r (λ rest h. h)
element_not_other_below t b (f ∷ []) new r is = never_fits (t ∷ tag.Target ∷ [], b) (f ∷ []) new r (λ rest h. h.1)
element_not_other_below t b (f ∷ g ∷ fs) new r is = never_fits (t ∷ tag.Target ∷ [], b) (f ∷ g ∷ fs) new r (λ rest h. is (element_place g h.1.0))
