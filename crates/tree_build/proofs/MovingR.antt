-- What steps do to the tags of frames: functions, loops.
use Rattle.std.specs.Prelude.{◌≡◌, ℕ, zero, suc, Bool, true, false, List, [], ◌∷◌, ◌++◌, Option, Some, None, Result, Ok, Err}
use Rattle.std.proofs.Common.{rules, refl, sym, ◌∙◌, ap, subst, append_assoc}
use Rattle.ksh_ast.specs.declared.redirect.Redirect.{Redirect}
use Rattle.ksh_ast.specs.declared.tree.Argument.{Argument}
use Rattle.ksh_ast.specs.declared.tree.Argument.TheVariants as argument
use Rattle.ksh_ast.specs.declared.tree.Arith.{Arith}
use Rattle.ksh_ast.specs.declared.tree.Assign.{Assign}
use Rattle.ksh_ast.specs.declared.tree.CaseItem.{CaseItem}
use Rattle.ksh_ast.specs.declared.tree.Command.{Command, Command-F, out-Command, the_lemmas}
use Rattle.ksh_ast.specs.declared.tree.Command.TheVariants as command
use Rattle.ksh_ast.specs.declared.tree.FunctionDef.{FunctionDef}
use Rattle.ksh_ast.specs.declared.tree.Item.{Item}
use Rattle.ksh_ast.specs.declared.tree.Piece.{Piece}
use Rattle.ksh_ast.specs.declared.tree.Piece.TheVariants as piece
use Rattle.tree_build.specs.declared.opening.Opening.TheVariants as opening
use Rattle.tree_build.specs.declared.place.Place.{Place}
use Rattle.tree_build.specs.declared.place.Place.TheVariants as place
use Rattle.tree_build.specs.declared.unbuilt.Unbuilt.{Unbuilt}
use Rattle.tree_build.specs.declared.unbuilt.Unbuilt.TheVariants as unbuilt
use Rattle.tree_parts.specs.Parts.{all_names, names_of, redirects_by, with_redirects}
use Rattle.tree_build.specs.Counts.{Counts}
use Rattle.tree_build.specs.Reads.{repeated}
use Rattle.tree_build.specs.Fits.{Fits, Is, IsNames, Moves}
use Rattle.tree_build.specs.Loads.{top}
use Rattle.tree_build.specs.Names.{IsOneWord}
use Rattle.tree_build.proofs.Names.{names_of_word}
use Rattle.tree_parts.specs.Literals.{literal}
use Rattle.tree_parts.specs.declared.entry.Entry.{Entry}
use Rattle.tree_build.specs.Frame.{Frame, Opened, Text, Subscript, Parameter, Formed, Whole, Target, Element, Assigning, Assigned, Keyed, Value, Redirection, HereOperator, HereWord, HereBody, Redirected, Simple, Compound, Finished, Stages, Piped, Linked, Chain, Lines, Listed, FunctionName, Defined, If, Then, Else, LoopBody, ForName, ForWords, ForReady, ForBody, ForArithmetic, ForArithmeticBody, CaseWord, Cases, Patterns, Terms, Operands, Tested, Group, For, MemberBody, Function}
use Rattle.tree_build.specs.Places.{place_at, place_of}
use Rattle.tree_build.proofs.Moving.{fits_at, opens_frame, one_for_one, two_for_one}
use Rattle.tree_moves.specs.Moves.{Row}
use Rattle.tree_moves.specs.Tags.{Tag}
use Rattle.tree_moves.specs.Tags as tag

-- ---- redirections come behind

pub some_is : {A : Type 0} (x : A) (o : Option A) → o ≡ Some x → o ≡ None → ⊥
some_is x o s n =
    let both : Some x ≡ None = sym s ∙ n in
    absurd cc

pub repeated_redirects : (select : Bool) (name : List ℕ) (words : Option (List (List Piece))) (body : List Item) (more : List (Redirect (List Piece))) → with_redirects (repeated select name words body) more ≡ None → ⊥
repeated_redirects false name words body more e =
    let o : out-Command (command.For name words body []) ≡ Command-F.For name words body [] = search (rules, the_lemmas) in
    some_is (command.For name words body more) (with_redirects (command.For name words body []) more) (ap (λ f. redirects_by f more) o) e
repeated_redirects true name words body more e =
    let o : out-Command (command.Select name words body []) ≡ Command-F.Select name words body [] = search (rules, the_lemmas) in
    some_is (command.Select name words body more) (with_redirects (command.Select name words body []) more) (ap (λ f. redirects_by f more) o) e

pub case_redirects : (word : List Piece) (items : List CaseItem) (more : List (Redirect (List Piece))) → with_redirects (command.Case word items []) more ≡ None → ⊥
case_redirects word items more e =
    let o : out-Command (command.Case word items []) ≡ Command-F.Case word items [] = search (rules, the_lemmas) in
    some_is (command.Case word items more) (with_redirects (command.Case word items []) more) (ap (λ f. redirects_by f more) o) e

pub counted_redirects : (parts : List (Option Arith)) (body : List Item) (c : Command) → Counts parts body c → (more : List (Redirect (List Piece))) → with_redirects c more ≡ None → ⊥
counted_redirects parts body c counts more e =
    let o : out-Command (command.ForArith counts.0 counts.1 counts.2 body []) ≡ Command-F.ForArith counts.0 counts.1 counts.2 body [] = search (rules, the_lemmas) in
    some_is (command.ForArith counts.0 counts.1 counts.2 body more) (with_redirects (command.ForArith counts.0 counts.1 counts.2 body []) more) (ap (λ f. redirects_by f more) o) (ap (λ d. with_redirects d more) (sym counts.4) ∙ e)

-- ---- one frame for another

pub moves_for : (line : ℕ) (select : Bool) (name : List ℕ) (old s new : List Frame) → old ≡ For line select ∷ s → new ≡ ForName line select name ∷ s → (rest : List Tag) → Fits (tag.ForLoop ∷ rest) old → Fits (tag.ForName ∷ rest) new
moves_for line select name old s new o n = one_for_one tag.ForLoop tag.ForName (For line select) (ForName line select name) old s new (λ p. tt) o n

pub moves_select : (line : ℕ) (select : Bool) (name : List ℕ) (old s new : List Frame) → old ≡ For line select ∷ s → new ≡ ForName line select name ∷ s → (rest : List Tag) → Fits (tag.ForSelect ∷ rest) old → Fits (tag.ForName ∷ rest) new
moves_select line select name old s new o n = one_for_one tag.ForSelect tag.ForName (For line select) (ForName line select name) old s new (λ p. tt) o n

pub moves_for_in : (line : ℕ) (select : Bool) (name : List ℕ) (old s new : List Frame) → old ≡ ForName line select name ∷ s → new ≡ ForWords line select name [] ∷ s → (rest : List Tag) → Fits (tag.ForName ∷ rest) old → Fits (tag.ForWords ∷ rest) new
moves_for_in line select name old s new o n = one_for_one tag.ForName tag.ForWords (ForName line select name) (ForWords line select name []) old s new (λ p. tt) o n

pub moves_do_name : (line : ℕ) (select : Bool) (name : List ℕ) (old s new : List Frame) → old ≡ ForName line select name ∷ s → new ≡ ForBody line select name None ∷ s → (rest : List Tag) → Fits (tag.ForName ∷ rest) old → Fits (tag.ForBody ∷ rest) new
moves_do_name line select name old s new o n = one_for_one tag.ForName tag.ForBody (ForName line select name) (ForBody line select name None) old s new (λ p. tt) o n

pub moves_end_words : (line : ℕ) (select : Bool) (name : List ℕ) (words : List (List Piece)) (old s new : List Frame) → old ≡ ForWords line select name words ∷ s → new ≡ ForReady line select name words ∷ s → (rest : List Tag) → Fits (tag.ForWords ∷ rest) old → Fits (tag.ForReady ∷ rest) new
moves_end_words line select name words old s new o n = one_for_one tag.ForWords tag.ForReady (ForWords line select name words) (ForReady line select name words) old s new (λ p. tt) o n

pub moves_do_words : (line : ℕ) (select : Bool) (name : List ℕ) (words : List (List Piece)) (old s new : List Frame) → old ≡ ForReady line select name words ∷ s → new ≡ ForBody line select name (Some words) ∷ s → (rest : List Tag) → Fits (tag.ForReady ∷ rest) old → Fits (tag.ForBody ∷ rest) new
moves_do_words line select name words old s new o n = one_for_one tag.ForReady tag.ForBody (ForReady line select name words) (ForBody line select name (Some words)) old s new (λ p. tt) o n

pub moves_do_parts : (line : ℕ) (parts : List (Option Arith)) (old s new : List Frame) → old ≡ ForArithmetic line parts ∷ s → new ≡ ForArithmeticBody line parts ∷ s → (rest : List Tag) → Fits (tag.ForArithmeticThree ∷ rest) old → Fits (tag.ForArithmeticBody ∷ rest) new
moves_do_parts line parts old s new o n = one_for_one tag.ForArithmeticThree tag.ForArithmeticBody (ForArithmetic line parts) (ForArithmeticBody line parts) old s new (λ p. p) o n

pub moves_for_arithmetic : (line : ℕ) (old s new : List Frame) → old ≡ For line false ∷ s → new ≡ ForArithmetic line [] ∷ s → (rest : List Tag) → Fits (tag.ForLoop ∷ rest) old → Fits (tag.ForArithmeticNone ∷ rest) new
moves_for_arithmetic line old s new o n = one_for_one tag.ForLoop tag.ForArithmeticNone (For line false) (ForArithmetic line []) old s new (λ p. refl) o n

pub moves_case_in : (line : ℕ) (word : List Piece) (old s new : List Frame) → old ≡ CaseWord line word ∷ s → new ≡ Cases line word [] ∷ s → (rest : List Tag) → Fits (tag.CaseWord ∷ rest) old → Fits (tag.Cases ∷ rest) new
moves_case_in line word old s new o n = one_for_one tag.CaseWord tag.Cases (CaseWord line word) (Cases line word []) old s new (λ p. tt) o n

pub moves_case_ends : (line : ℕ) (word : List Piece) (items : List CaseItem) (old s new : List Frame) → old ≡ Cases line word items ∷ s → new ≡ Compound line (command.Case word items []) [] ∷ s → (rest : List Tag) → Fits (tag.Cases ∷ rest) old → Fits (tag.Compound ∷ rest) new
moves_case_ends line word items old s new o n = one_for_one tag.Cases tag.Compound (Cases line word items) (Compound line (command.Case word items []) []) old s new (λ p more e. case_redirects word items more e) o n

pub moves_defines : (line : ℕ) (d : FunctionDef (List Item)) (old s new : List Frame) → old ≡ Defined line d ∷ s → new ≡ Finished line (command.Function d) ∷ s → (rest : List Tag) → Fits (tag.Defined ∷ rest) old → Fits (tag.Finished ∷ rest) new
moves_defines line d old s new o n = one_for_one tag.Defined tag.Finished (Defined line d) (Finished line (command.Function d)) old s new (λ p. tt) o n

pub moves_member_body : (old new : List Frame) → new ≡ MemberBody ∷ old → (rest : List Tag) → Fits rest old → Fits (tag.MemberBody ∷ rest) new
moves_member_body old new n = opens_frame tag.MemberBody MemberBody old new tt n

-- ---- one step behind another

-- the second step opens a frame
pub opens_on : {B : Type 0} (a b t : Tag) (old between new : List Frame) (r : Result B Unbuilt) → ((rest : List Tag) → Fits (a ∷ rest) old → Fits (b ∷ rest) between) → Moves ([], t ∷ []) between new r
    → Moves (a ∷ [], t ∷ b ∷ []) old new r
opens_on a b t old between new (Ok y) first second = λ rest fits. second (b ∷ rest) (first rest fits)
opens_on a b t old between new (Err unbuilt.Stray) first second = λ rest fits. second (b ∷ rest) (first rest fits)
opens_on a b t old between new (Err unbuilt.Memory) first second = tt

pub opens_on_one_of_two : {B : Type 0} (a b c t : Tag) (old between new : List Frame) (r : Result B Unbuilt) → ((rest : List Tag) → Fits (a ∷ b ∷ rest) old → Fits (c ∷ rest) between) → Moves ([], t ∷ []) between new r
    → Moves (a ∷ b ∷ [], t ∷ c ∷ []) old new r
opens_on_one_of_two a b c t old between new (Ok y) first second = λ rest fits. second (c ∷ rest) (first rest fits)
opens_on_one_of_two a b c t old between new (Err unbuilt.Stray) first second = λ rest fits. second (c ∷ rest) (first rest fits)
opens_on_one_of_two a b c t old between new (Err unbuilt.Memory) first second = tt

-- two frames become one, and the second step looks below it
pub then_below : {B : Type 0} (a b c d : Tag) (e : List Tag) (old between new : List Frame) (r : Result B Unbuilt) → ((rest : List Tag) → Fits (a ∷ b ∷ rest) old → Fits (c ∷ rest) between) → Moves (c ∷ d ∷ [], e) between new r
    → Moves (a ∷ b ∷ d ∷ [], e) old new r
then_below a b c d e old between new (Ok y) first second = λ rest fits. second rest (first (d ∷ rest) fits)
then_below a b c d e old between new (Err unbuilt.Stray) first second = λ rest fits. second rest (first (d ∷ rest) fits)
then_below a b c d e old between new (Err unbuilt.Memory) first second = tt

-- ---- where frames stand

is_function_name : (f : Frame) → Is tag.FunctionName f → place_of f ≡ place.FunctionName
is_function_name (FunctionName a b c d) h = refl
is_function_name _ h = absurd h

is_stages : (f : Frame) → Is tag.Stages f → place_of f ≡ place.Stages
is_stages (Stages a b c) h = refl
is_stages _ h = absurd h

is_value : (f : Frame) → Is tag.Value f → place_of f ≡ place.Value
is_value (Value a) h = refl
is_value _ h = absurd h

is_value_broken : (f : Frame) → Is tag.ValueBroken f → place_of f ≡ place.Value
is_value_broken (Value a) h = refl
is_value_broken _ h = absurd h

is_for_name : (f : Frame) → Is tag.ForName f → place_of f ≡ place.ForName
is_for_name (ForName a b c) h = refl
is_for_name _ h = absurd h

is_for_ready : (f : Frame) → Is tag.ForReady f → place_of f ≡ place.ForReady
is_for_ready (ForReady a b c d) h = refl
is_for_ready _ h = absurd h

is_for_arithmetic_three : (f : Frame) → Is tag.ForArithmeticThree f → place_of f ≡ place.ForArithmetic
is_for_arithmetic_three (ForArithmetic a b) h = refl
is_for_arithmetic_three _ h = absurd h

pub placed_on_top : (t : Tag) (p : Place) → ((f : Frame) → Is t f → place_of f ≡ p) → (old : List Frame) (rest : List Tag) → Fits (t ∷ rest) old → place_at old 0 ≡ p
placed_on_top t p is [] rest h = absurd h
placed_on_top t p is (f ∷ fs) rest h = is f h.0

pub placed_below : (a t : Tag) (p : Place) → ((f : Frame) → Is t f → place_of f ≡ p) → (old : List Frame) (rest : List Tag) → Fits (a ∷ t ∷ rest) old → place_at old 1 ≡ p
placed_below a t p is [] rest h = absurd h
placed_below a t p is (f ∷ []) rest h = absurd h.1
placed_below a t p is (f ∷ g ∷ fs) rest h = is g h.1.0

pub fails_as : (A B : Type 0) (a b c : List Tag) (old new : List Frame) (e : Unbuilt) → Moves {A = A} (a, b) old new (Err e) → Moves {A = B} (a, c) old new (Err e)
fails_as A B a b c old new unbuilt.Stray h = h
fails_as A B a b c old new unbuilt.Memory h = tt

pub fails_before : (A B : Type 0) (a b d : Tag) (c e : List Tag) (old new : List Frame) (u : Unbuilt) → Moves {A = A} (a ∷ b ∷ [], c) old new (Err u) → Moves {A = B} (a ∷ b ∷ d ∷ [], e) old new (Err u)
fails_before A B a b d c e old new unbuilt.Stray h = λ rest fits. h (d ∷ rest) fits
fails_before A B a b d c e old new unbuilt.Memory h = tt

-- the first of two fails
pub two_fail : (a b m : Tag) (d c : List Tag) (old new new' : List Frame) (e : Unbuilt) → Moves {A = Unit {0}} (a ∷ b ∷ [], d) old new (Err e) → Moves {A = Unit {0}} (a ∷ b ∷ m ∷ [], c) old new' (Err e)
two_fail a b m d c old new new' unbuilt.Stray h = λ rest fits. h (m ∷ rest) fits
two_fail a b m d c old new new' unbuilt.Memory h = tt

-- a step that looks at the frame on top only
pub over_one : {A : Type 0} (a b d : Tag) (old new : List Frame) (r : Result A Unbuilt) → Moves (a ∷ [], b ∷ []) old new r → Moves (a ∷ d ∷ [], b ∷ d ∷ []) old new r
over_one a b d old new (Ok x) h = λ rest fits. h (d ∷ rest) fits
over_one a b d old new (Err unbuilt.Stray) h = λ rest fits. h (d ∷ rest) fits
over_one a b d old new (Err unbuilt.Memory) h = tt

-- ---- rows that fit no frames, by what stands there

pub none_fit : {A : Type 0} (r : Row) (old new : List Frame) (res : Result A Unbuilt) → ((rest : List Tag) → Fits (r.0 ++ rest) old → ⊥) → Moves r old new res
none_fit r old new (Ok a) never = λ rest fits. absurd (never rest fits)
none_fit r old new (Err unbuilt.Stray) never = never
none_fit r old new (Err unbuilt.Memory) never = tt

pub none_of : {A : Type 0} (o : Option A) → ((x : A) → o ≡ Some x → ⊥) → o ≡ None
none_of (Some x) h = absurd (h x refl)
none_of None h = refl

pub never_name : {A : Type 0} (b : List Tag) (old new : List Frame) (r : Result A Unbuilt) → (place_at old 0 ≡ place.ForName → ⊥) → Moves (tag.ForName ∷ [], b) old new r
never_name b old new r apart = none_fit (tag.ForName ∷ [], b) old new r (λ rest fits. apart (placed_on_top tag.ForName place.ForName is_for_name old rest fits))

pub never_ready : {A : Type 0} (b : List Tag) (old new : List Frame) (r : Result A Unbuilt) → (place_at old 0 ≡ place.ForReady → ⊥) → Moves (tag.ForReady ∷ [], b) old new r
never_ready b old new r apart = none_fit (tag.ForReady ∷ [], b) old new r (λ rest fits. apart (placed_on_top tag.ForReady place.ForReady is_for_ready old rest fits))

pub never_parts : {A : Type 0} (b : List Tag) (old new : List Frame) (r : Result A Unbuilt) → (place_at old 0 ≡ place.ForArithmetic → ⊥) → Moves (tag.ForArithmeticThree ∷ [], b) old new r
never_parts b old new r apart = none_fit (tag.ForArithmeticThree ∷ [], b) old new r (λ rest fits. apart (placed_on_top tag.ForArithmeticThree place.ForArithmetic is_for_arithmetic_three old rest fits))

pub never_stages : {A : Type 0} (a : Tag) (more b : List Tag) (old new : List Frame) (r : Result A Unbuilt) → (place_at old 1 ≡ place.Stages → ⊥) → Moves (a ∷ tag.Stages ∷ more, b) old new r
never_stages a more b old new r apart = none_fit (a ∷ tag.Stages ∷ more, b) old new r (λ rest fits. apart (placed_below a tag.Stages place.Stages is_stages old (more ++ rest) fits))

pub never_function_name : {A : Type 0} (a : Tag) (more b : List Tag) (old new : List Frame) (r : Result A Unbuilt) → (place_at old 1 ≡ place.FunctionName → ⊥) → Moves (a ∷ tag.FunctionName ∷ more, b) old new r
never_function_name a more b old new r apart = none_fit (a ∷ tag.FunctionName ∷ more, b) old new r (λ rest fits. apart (placed_below a tag.FunctionName place.FunctionName is_function_name old (more ++ rest) fits))

pub never_value : {A : Type 0} (a : Tag) (more b : List Tag) (old new : List Frame) (r : Result A Unbuilt) → (place_at old 1 ≡ place.Value → ⊥) → Moves (a ∷ tag.Value ∷ more, b) old new r
never_value a more b old new r apart = none_fit (a ∷ tag.Value ∷ more, b) old new r (λ rest fits. apart (placed_below a tag.Value place.Value is_value old (more ++ rest) fits))

pub never_broken : {A : Type 0} (a : Tag) (more b : List Tag) (old new : List Frame) (r : Result A Unbuilt) → (place_at old 1 ≡ place.Value → ⊥) → Moves (a ∷ tag.ValueBroken ∷ more, b) old new r
never_broken a more b old new r apart = none_fit (a ∷ tag.ValueBroken ∷ more, b) old new r (λ rest fits. apart (placed_below a tag.ValueBroken place.Value is_value_broken old (more ++ rest) fits))

-- ---- what stands there is something else

not_two : (q p p' : Place) → q ≡ p → q ≡ p' → (p ≡ p' → ⊥) → ⊥
not_two q p p' e e' apart = apart (sym e ∙ e')

name_apart : place.ForName ≡ place.ForReady → ⊥
name_apart e = absurd cc

name_apart_parts : place.ForName ≡ place.ForArithmetic → ⊥
name_apart_parts e = absurd cc

ready_apart : place.ForReady ≡ place.ForArithmetic → ⊥
ready_apart e = absurd cc

value_apart_stages : place.Value ≡ place.Stages → ⊥
value_apart_stages e = absurd cc

value_apart_function : place.Value ≡ place.FunctionName → ⊥
value_apart_function e = absurd cc

function_apart_stages : place.FunctionName ≡ place.Stages → ⊥
function_apart_stages e = absurd cc

pub ready_not_name : {A : Type 0} (b : List Tag) (old new : List Frame) (r : Result A Unbuilt) → place_at old 0 ≡ place.ForName → Moves (tag.ForReady ∷ [], b) old new r
ready_not_name b old new r is = never_ready b old new r (λ e. not_two (place_at old 0) place.ForName place.ForReady is e name_apart)

pub parts_not_name : {A : Type 0} (b : List Tag) (old new : List Frame) (r : Result A Unbuilt) → place_at old 0 ≡ place.ForName → Moves (tag.ForArithmeticThree ∷ [], b) old new r
parts_not_name b old new r is = never_parts b old new r (λ e. not_two (place_at old 0) place.ForName place.ForArithmetic is e name_apart_parts)

pub name_not_ready : {A : Type 0} (b : List Tag) (old new : List Frame) (r : Result A Unbuilt) → place_at old 0 ≡ place.ForReady → Moves (tag.ForName ∷ [], b) old new r
name_not_ready b old new r is = never_name b old new r (λ e. not_two (place_at old 0) place.ForName place.ForReady e is name_apart)

pub parts_not_ready : {A : Type 0} (b : List Tag) (old new : List Frame) (r : Result A Unbuilt) → place_at old 0 ≡ place.ForReady → Moves (tag.ForArithmeticThree ∷ [], b) old new r
parts_not_ready b old new r is = never_parts b old new r (λ e. not_two (place_at old 0) place.ForReady place.ForArithmetic is e ready_apart)

pub stages_not_value : {A : Type 0} (a : Tag) (more b : List Tag) (old new : List Frame) (r : Result A Unbuilt) → place_at old 1 ≡ place.Value → Moves (a ∷ tag.Stages ∷ more, b) old new r
stages_not_value a more b old new r is = never_stages a more b old new r (λ e. not_two (place_at old 1) place.Value place.Stages is e value_apart_stages)

pub function_not_value : {A : Type 0} (a : Tag) (more b : List Tag) (old new : List Frame) (r : Result A Unbuilt) → place_at old 1 ≡ place.Value → Moves (a ∷ tag.FunctionName ∷ more, b) old new r
function_not_value a more b old new r is = never_function_name a more b old new r (λ e. not_two (place_at old 1) place.Value place.FunctionName is e value_apart_function)

pub stages_not_function : {A : Type 0} (a : Tag) (more b : List Tag) (old new : List Frame) (r : Result A Unbuilt) → place_at old 1 ≡ place.FunctionName → Moves (a ∷ tag.Stages ∷ more, b) old new r
stages_not_function a more b old new r is = never_stages a more b old new r (λ e. not_two (place_at old 1) place.FunctionName place.Stages is e function_apart_stages)

pub broken_not_function : {A : Type 0} (a : Tag) (more b : List Tag) (old new : List Frame) (r : Result A Unbuilt) → place_at old 1 ≡ place.FunctionName → Moves (a ∷ tag.ValueBroken ∷ more, b) old new r
broken_not_function a more b old new r is = never_broken a more b old new r (λ e. not_two (place_at old 1) place.Value place.FunctionName e is value_apart_function)

-- ---- functions

pub never_simple_name : {A : Type 0} (b : List Tag) (from line : ℕ) (gs gs1 : List (List Assign)) (ws ws1 : List (List Argument)) (rs rs1 : List (List (Redirect (List Piece)))) (given : List Assign) (words : List Argument) (redirects : List (Redirect (List Piece)))
    (old s new : List Frame) (r : Result A Unbuilt) → old ≡ Simple from line (top [] gs) (top [] ws) (top [] rs) ∷ s → gs ≡ given ∷ gs1 → ws ≡ words ∷ ws1 → rs ≡ redirects ∷ rs1
    → ((word : List Piece) → IsOneWord given words redirects word → IsNames word → ⊥) → Moves (tag.SimpleName ∷ [], b) old new r
never_simple_name b from line gs gs1 ws ws1 rs rs1 given words redirects old s new r o a w q never = none_fit (tag.SimpleName ∷ [], b) old new r (λ rest fits.
    let h : Fits (tag.SimpleName ∷ rest) (Simple from line (top [] gs) (top [] ws) (top [] rs) ∷ s) = fits_at (tag.SimpleName ∷ rest) old (Simple from line (top [] gs) (top [] ws) (top [] rs) ∷ s) o fits in
    never h.0.0 (sym (ap (λ x. top [] x) a) ∙ h.0.1, sym (ap (λ x. top [] x) w) ∙ h.0.2, sym (ap (λ x. top [] x) q) ∙ h.0.3) h.0.4)

pub never_whole_name : {A : Type 0} (b : List Tag) (from to : ℕ) (ws ws1 : List (List Piece)) (word : List Piece) (old s new : List Frame) (r : Result A Unbuilt)
    → old ≡ Whole (top [] ws) from to false ∷ s → ws ≡ word ∷ ws1 → (IsNames word → ⊥) → Moves (tag.WholeName ∷ [], b) old new r
never_whole_name b from to ws ws1 word old s new r o w never = none_fit (tag.WholeName ∷ [], b) old new r (λ rest fits.
    let h : Fits (tag.WholeName ∷ rest) (Whole (top [] ws) from to false ∷ s) = fits_at (tag.WholeName ∷ rest) old (Whole (top [] ws) from to false ∷ s) o fits in
    never (subst (λ x. IsNames x) (ap (λ x. top [] x) w) h.0.1))

pub not_names : (word : List Piece) (text : List ℕ) → word ≡ literal text false → all_names (names_of text) ≡ false → IsNames word → ⊥
not_names word text w n is =
    let both : false ≡ true = sym n ∙ names_of_word word text is w in
    absurd cc

pub never_named : {A : Type 0} (b : List Tag) (f : Frame) (es : List Entry) (old s1 s2 new : List Frame) (r : Result A Unbuilt) → old ≡ f ∷ s1 → s1 ≡ Value es ∷ s2 → (Is tag.ValueBroken (Value es) → ⊥)
    → Moves (tag.Compound ∷ tag.ValueBroken ∷ [], b) old new r
never_named b f es old s1 s2 new r o o' never = none_fit (tag.Compound ∷ tag.ValueBroken ∷ [], b) old new r (λ rest fits.
    let h : Fits (tag.Compound ∷ tag.ValueBroken ∷ rest) (f ∷ Value es ∷ s2) = fits_at (tag.Compound ∷ tag.ValueBroken ∷ rest) old (f ∷ Value es ∷ s2) (o ∙ ap (λ fs. f ∷ fs) o') fits in
    never h.1.0)

pub never_compound : {A : Type 0} (more b : List Tag) (line : ℕ) (c : Command) (rs : List (Redirect (List Piece))) (old s new : List Frame) (r : Result A Unbuilt) → old ≡ Compound line c rs ∷ s → with_redirects c rs ≡ None
    → Moves (tag.Compound ∷ more, b) old new r
never_compound more b line c rs old s new r o none = none_fit (tag.Compound ∷ more, b) old new r (λ rest fits.
    let h : Fits (tag.Compound ∷ more ++ rest) (Compound line c rs ∷ s) = fits_at (tag.Compound ∷ more ++ rest) old (Compound line c rs ∷ s) o fits in
    h.0 rs none)
