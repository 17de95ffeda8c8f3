-- Where a kind is none of those that were asked for.
use Rattle.std.specs.Prelude.{◌≡◌, Bool, true, false, List, [], ◌∷◌, ◌++◌, Option, Some, None, Result}
use Rattle.std.proofs.Common.{◌⊎◌, inl, inr, refl, sym, ◌∙◌, ap, subst}
use Rattle.ksh_syntax.specs.declared.kind.Kind.{Kind}
use Rattle.ksh_syntax.specs.declared.kind.Kind.TheVariants as kind
use Rattle.ksh_syntax.specs.declared.kind.Mode.{Mode}
use Rattle.ksh_syntax.specs.declared.kind.Mode.TheVariants as mode
use Rattle.tree_moves.specs.Moves.{Row}
use Rattle.tree_moves.specs.Tags.{Tag}
use Rattle.tree_moves.specs.Tags as tag
use Rattle.tree_build.specs.Fits.{Moves, opens}
use Rattle.tree_build.specs.Fitting.{is_between}
use Rattle.tree_build.specs.Frame.{Frame}
use Rattle.tree_build.specs.Places.{place_at}
use Rattle.tree_build.specs.declared.place.Place.{Place}
use Rattle.tree_build.specs.declared.place.Place.TheVariants as place
use Rattle.tree_build.specs.declared.unbuilt.Unbuilt.{Unbuilt}
use Rattle.script_tree.specs.Steps.{AllMove}
use Rattle.script_tree.specs.Taken.{any_word_steps, assign_steps, between_steps, bracket_steps, break_steps, close_steps, command_steps, current_steps, do_for_steps, entry_steps, in_text_steps, item_word_steps, list_steps, literal_steps, name_word_steps, open_steps, opened_steps, pass_steps, plain_steps, prepared_steps, push, push_steps, right_brace_steps, settled_steps, term_word_steps, text_steps, token_steps, word_steps}

-- a kind that isn't some other
abbrev pub Not : Kind → Kind → Type 0
Not k l = k ≡ l → ⊥

pub command_default : {A : Type 0} (k : Kind) (old new : List Frame) (res : Result A Unbuilt) → Not k kind.If → Not k kind.While → Not k kind.Until → Not k kind.LeftBrace → Not k kind.LeftBrackets → Not k kind.Bang
    → AllMove (opened_steps (opens k)) old new res → AllMove (command_steps k) old new res
command_default kind.If old new res a b c d e f m = absurd (a refl)
command_default kind.While old new res a b c d e f m = absurd (b refl)
command_default kind.Until old new res a b c d e f m = absurd (c refl)
command_default kind.LeftBrace old new res a b c d e f m = absurd (d refl)
command_default kind.LeftBrackets old new res a b c d e f m = absurd (e refl)
command_default kind.Bang old new res a b c d e f m = absurd (f refl)
command_default k old new res a b c d e f m = m

list_opens : {A : Type 0} (l : Kind) (t : Tag) (k : Kind) (old new : List Frame) (res : Result A Unbuilt) → opens l ≡ Some t → command_steps l ≡ push (tag.Lines ∷ t ∷ []) → k ≡ l
    → ((u : Tag) → opens k ≡ Some u → Moves ([], tag.Lines ∷ u ∷ []) old new res) → AllMove (command_steps k) old new res
list_opens {A} l t k old new res o c e m = subst (λ rows. AllMove {A = A} rows old new res) (sym (ap command_steps e ∙ c)) (m t (ap opens e ∙ o), tt)

pub list_command : {A : Type 0} (k : Kind) (old new : List Frame) (res : Result A Unbuilt) → (k ≡ kind.If ⊎ (k ≡ kind.While ⊎ (k ≡ kind.Until ⊎ (k ≡ kind.LeftBrace))))
    → ((u : Tag) → opens k ≡ Some u → Moves ([], tag.Lines ∷ u ∷ []) old new res) → AllMove (command_steps k) old new res
list_command k old new res (inl e) m = list_opens kind.If tag.If k old new res refl refl e m
list_command k old new res (inr (inl e)) m = list_opens kind.While tag.Loop k old new res refl refl e m
list_command k old new res (inr (inr (inl e))) m = list_opens kind.Until tag.Loop k old new res refl refl e m
list_command k old new res (inr (inr (inr e))) m = list_opens kind.LeftBrace tag.Group k old new res refl refl e m

pub list_default : {A : Type 0} (k : Kind) (p : Place) (old new : List Frame) (res : Result A Unbuilt) → Not k kind.Then → Not k kind.Elif → Not k kind.Else → Not k kind.Fi → Not k kind.Do → Not k kind.Done → Not k kind.Esac
    → AllMove (right_brace_steps k p) old new res → AllMove (list_steps k p) old new res
list_default kind.Then p old new res a b c d e f g m = absurd (a refl)
list_default kind.Elif p old new res a b c d e f g m = absurd (b refl)
list_default kind.Else p old new res a b c d e f g m = absurd (c refl)
list_default kind.Fi p old new res a b c d e f g m = absurd (d refl)
list_default kind.Do p old new res a b c d e f g m = absurd (e refl)
list_default kind.Done p old new res a b c d e f g m = absurd (f refl)
list_default kind.Esac p old new res a b c d e f g m = absurd (g refl)
list_default k p old new res a b c d e f g m = m

pub name_word_moves : {A : Type 0} (k : Kind) (old new : List Frame) (res : Result A Unbuilt) → Not k kind.In → AllMove (do_for_steps k) old new res → AllMove (name_word_steps k) old new res
name_word_moves kind.In old new res a m = absurd (a refl)
name_word_moves k old new res a m = m

pub item_word_moves : {A : Type 0} (m : Mode) (k : Kind) (old new : List Frame) (res : Result A Unbuilt) → Not k kind.Esac → place_at old 0 ≡ place.Cases
    → AllMove (prepared_steps m k (place_at old 0)) old new res → AllMove (item_word_steps m k) old new res
item_word_moves {A} m k old new res a at moves = by_kind k a (subst (λ p. AllMove {A = A} (prepared_steps m k p) old new res) at moves)
  where
    by_kind : (k : Kind) → Not k kind.Esac → AllMove (prepared_steps m k place.Cases) old new res → AllMove (item_word_steps m k) old new res
    by_kind kind.Esac a moves = absurd (a refl)
    by_kind k a moves = moves

pub term_word_moves : {A : Type 0} (m : Mode) (k : Kind) (old new : List Frame) (res : Result A Unbuilt) → Not k kind.Bang → Not k kind.RightBrackets → place_at old 0 ≡ place.Terms
    → AllMove (prepared_steps m k (place_at old 0)) old new res → AllMove (term_word_steps m k) old new res
term_word_moves {A} m k old new res a b at moves = by_kind k a b (subst (λ p. AllMove {A = A} (prepared_steps m k p) old new res) at moves)
  where
    by_kind : (k : Kind) → Not k kind.Bang → Not k kind.RightBrackets → AllMove (prepared_steps m k place.Terms) old new res → AllMove (term_word_steps m k) old new res
    by_kind kind.Bang a b moves = absurd (a refl)
    by_kind kind.RightBrackets a b moves = absurd (b refl)
    by_kind k a b moves = moves

pub plain_moves : {A : Type 0} (m : Mode) (k : Kind) (old new : List Frame) (res : Result A Unbuilt) → (m ≡ mode.Value → ⊥) → AllMove (settled_steps k) old new res → AllMove (plain_steps m k) old new res
plain_moves mode.Value k old new res a moves = absurd (a refl)
plain_moves m k old new res a moves = moves

pub entry_moves : {A : Type 0} (k : Kind) (old new : List Frame) (res : Result A Unbuilt) → Not k kind.Typeset → AllMove (push_steps k) old new res → AllMove (entry_steps k) old new res
entry_moves kind.Typeset old new res a moves = absurd (a refl)
entry_moves k old new res a moves = moves

pub any_word_default : {A : Type 0} (m : Mode) (k : Kind) (old new : List Frame) (res : Result A Unbuilt) → Not k kind.Start → Not k kind.StartAssignment → Not k kind.Element → Not k kind.ValueOpen → Not k kind.Key
    → AllMove (plain_steps m k) old new res → AllMove (any_word_steps m k) old new res
any_word_default m kind.Start old new res a b c d e moves = absurd (a refl)
any_word_default m kind.StartAssignment old new res a b c d e moves = absurd (b refl)
any_word_default m kind.Element old new res a b c d e moves = absurd (c refl)
any_word_default m kind.ValueOpen old new res a b c d e moves = absurd (d refl)
any_word_default m kind.Key old new res a b c d e moves = absurd (e refl)
any_word_default m k old new res a b c d e moves = moves

-- ---- where something else stands

brace_default_by : {A : Type 0} (k : Kind) (p : Place) (old new : List Frame) (res : Result A Unbuilt) → (p ≡ place.Group → ⊥) → AllMove (current_steps k) old new res → AllMove (right_brace_steps k p) old new res
brace_default_by k place.Group old new res n0 m = absurd (n0 refl)
brace_default_by k p old new res n0 m = m

pub brace_default : {A : Type 0} (k : Kind) (p q : Place) (old new : List Frame) (res : Result A Unbuilt) → q ≡ p → (q ≡ place.Group → ⊥) → AllMove (current_steps k) old new res → AllMove (right_brace_steps k p) old new res
brace_default k p q old new res e n0 m = brace_default_by k p old new res (λ h. n0 (e ∙ h)) m

break_default_by : {A : Type 0} (k : Kind) (p : Place) (old new : List Frame) (res : Result A Unbuilt) → (p ≡ place.Finished → ⊥) → (p ≡ place.Value → ⊥) → (p ≡ place.Whole → ⊥) → (p ≡ place.ForWords → ⊥) → AllMove (pass_steps k p) old new res → AllMove (break_steps k p) old new res
break_default_by k place.Finished old new res n0 n1 n2 n3 m = absurd (n0 refl)
break_default_by k place.Value old new res n0 n1 n2 n3 m = absurd (n1 refl)
break_default_by k place.Whole old new res n0 n1 n2 n3 m = absurd (n2 refl)
break_default_by k place.ForWords old new res n0 n1 n2 n3 m = absurd (n3 refl)
break_default_by k p old new res n0 n1 n2 n3 m = m

pub break_default : {A : Type 0} (k : Kind) (p q : Place) (old new : List Frame) (res : Result A Unbuilt) → q ≡ p → (q ≡ place.Finished → ⊥) → (q ≡ place.Value → ⊥) → (q ≡ place.Whole → ⊥) → (q ≡ place.ForWords → ⊥) → AllMove (pass_steps k p) old new res → AllMove (break_steps k p) old new res
break_default k p q old new res e n0 n1 n2 n3 m = break_default_by k p old new res (λ h. n0 (e ∙ h)) (λ h. n1 (e ∙ h)) (λ h. n2 (e ∙ h)) (λ h. n3 (e ∙ h)) m

close_default_by : {A : Type 0} (below : Place) (p : Place) (old new : List Frame) (res : Result A Unbuilt) → (p ≡ place.Listed → ⊥) → (p ≡ place.Patterns → ⊥) → (p ≡ place.Terms → ⊥) → (p ≡ place.Value → ⊥) → (p ≡ place.Whole → ⊥) → AllMove (pass_steps kind.Close p) old new res → AllMove (close_steps p below) old new res
close_default_by below place.Listed old new res n0 n1 n2 n3 n4 m = absurd (n0 refl)
close_default_by below place.Patterns old new res n0 n1 n2 n3 n4 m = absurd (n1 refl)
close_default_by below place.Terms old new res n0 n1 n2 n3 n4 m = absurd (n2 refl)
close_default_by below place.Value old new res n0 n1 n2 n3 n4 m = absurd (n3 refl)
close_default_by below place.Whole old new res n0 n1 n2 n3 n4 m = absurd (n4 refl)
close_default_by below p old new res n0 n1 n2 n3 n4 m = m

pub close_default : {A : Type 0} (below : Place) (p q : Place) (old new : List Frame) (res : Result A Unbuilt) → q ≡ p → (q ≡ place.Listed → ⊥) → (q ≡ place.Patterns → ⊥) → (q ≡ place.Terms → ⊥) → (q ≡ place.Value → ⊥) → (q ≡ place.Whole → ⊥) → AllMove (pass_steps kind.Close p) old new res → AllMove (close_steps p below) old new res
close_default below p q old new res e n0 n1 n2 n3 n4 m = close_default_by below p old new res (λ h. n0 (e ∙ h)) (λ h. n1 (e ∙ h)) (λ h. n2 (e ∙ h)) (λ h. n3 (e ∙ h)) (λ h. n4 (e ∙ h)) m

word_default_by : {A : Type 0} (m : Mode) (k : Kind) (below : Place) (p : Place) (old new : List Frame) (res : Result A Unbuilt) → (p ≡ place.Stages → ⊥) → (p ≡ place.FunctionName → ⊥) → (p ≡ place.Listed → ⊥) → (p ≡ place.For → ⊥) → (p ≡ place.ForName → ⊥) → (p ≡ place.ForReady → ⊥) → (p ≡ place.ForArithmetic → ⊥) → (p ≡ place.Function → ⊥) → (p ≡ place.CaseWord → ⊥) → (p ≡ place.MemberBody → ⊥) → (p ≡ place.Cases → ⊥) → (p ≡ place.Terms → ⊥) → AllMove (prepared_steps m k p) old new res → AllMove (word_steps m k p below) old new res
word_default_by m k below place.Stages old new res n0 n1 n2 n3 n4 n5 n6 n7 n8 n9 n10 n11 moves = absurd (n0 refl)
word_default_by m k below place.FunctionName old new res n0 n1 n2 n3 n4 n5 n6 n7 n8 n9 n10 n11 moves = absurd (n1 refl)
word_default_by m k below place.Listed old new res n0 n1 n2 n3 n4 n5 n6 n7 n8 n9 n10 n11 moves = absurd (n2 refl)
word_default_by m k below place.For old new res n0 n1 n2 n3 n4 n5 n6 n7 n8 n9 n10 n11 moves = absurd (n3 refl)
word_default_by m k below place.ForName old new res n0 n1 n2 n3 n4 n5 n6 n7 n8 n9 n10 n11 moves = absurd (n4 refl)
word_default_by m k below place.ForReady old new res n0 n1 n2 n3 n4 n5 n6 n7 n8 n9 n10 n11 moves = absurd (n5 refl)
word_default_by m k below place.ForArithmetic old new res n0 n1 n2 n3 n4 n5 n6 n7 n8 n9 n10 n11 moves = absurd (n6 refl)
word_default_by m k below place.Function old new res n0 n1 n2 n3 n4 n5 n6 n7 n8 n9 n10 n11 moves = absurd (n7 refl)
word_default_by m k below place.CaseWord old new res n0 n1 n2 n3 n4 n5 n6 n7 n8 n9 n10 n11 moves = absurd (n8 refl)
word_default_by m k below place.MemberBody old new res n0 n1 n2 n3 n4 n5 n6 n7 n8 n9 n10 n11 moves = absurd (n9 refl)
word_default_by m k below place.Cases old new res n0 n1 n2 n3 n4 n5 n6 n7 n8 n9 n10 n11 moves = absurd (n10 refl)
word_default_by m k below place.Terms old new res n0 n1 n2 n3 n4 n5 n6 n7 n8 n9 n10 n11 moves = absurd (n11 refl)
word_default_by m k below p old new res n0 n1 n2 n3 n4 n5 n6 n7 n8 n9 n10 n11 moves = moves

pub word_default : {A : Type 0} (m : Mode) (k : Kind) (below : Place) (p q : Place) (old new : List Frame) (res : Result A Unbuilt) → q ≡ p → (q ≡ place.Stages → ⊥) → (q ≡ place.FunctionName → ⊥) → (q ≡ place.Listed → ⊥) → (q ≡ place.For → ⊥) → (q ≡ place.ForName → ⊥) → (q ≡ place.ForReady → ⊥) → (q ≡ place.ForArithmetic → ⊥) → (q ≡ place.Function → ⊥) → (q ≡ place.CaseWord → ⊥) → (q ≡ place.MemberBody → ⊥) → (q ≡ place.Cases → ⊥) → (q ≡ place.Terms → ⊥) → AllMove (prepared_steps m k p) old new res → AllMove (word_steps m k p below) old new res
word_default m k below p q old new res e n0 n1 n2 n3 n4 n5 n6 n7 n8 n9 n10 n11 moves = word_default_by m k below p old new res (λ h. n0 (e ∙ h)) (λ h. n1 (e ∙ h)) (λ h. n2 (e ∙ h)) (λ h. n3 (e ∙ h)) (λ h. n4 (e ∙ h)) (λ h. n5 (e ∙ h)) (λ h. n6 (e ∙ h)) (λ h. n7 (e ∙ h)) (λ h. n8 (e ∙ h)) (λ h. n9 (e ∙ h)) (λ h. n10 (e ∙ h)) (λ h. n11 (e ∙ h)) moves

open_default_by : {A : Type 0} (p : Place) (old new : List Frame) (res : Result A Unbuilt) → (p ≡ place.Simple → ⊥) → (p ≡ place.Cases → ⊥) → (p ≡ place.Terms → ⊥) → (p ≡ place.Assigning → ⊥) → (p ≡ place.Whole → ⊥) → AllMove (push (tag.Lines ∷ tag.Subshell ∷ [])) old new res → AllMove (open_steps p) old new res
open_default_by place.Simple old new res n0 n1 n2 n3 n4 moves = absurd (n0 refl)
open_default_by place.Cases old new res n0 n1 n2 n3 n4 moves = absurd (n1 refl)
open_default_by place.Terms old new res n0 n1 n2 n3 n4 moves = absurd (n2 refl)
open_default_by place.Assigning old new res n0 n1 n2 n3 n4 moves = absurd (n3 refl)
open_default_by place.Whole old new res n0 n1 n2 n3 n4 moves = absurd (n4 refl)
open_default_by p old new res n0 n1 n2 n3 n4 moves = moves

pub open_default : {A : Type 0} (p q : Place) (old new : List Frame) (res : Result A Unbuilt) → q ≡ p → (q ≡ place.Simple → ⊥) → (q ≡ place.Cases → ⊥) → (q ≡ place.Terms → ⊥) → (q ≡ place.Assigning → ⊥) → (q ≡ place.Whole → ⊥) → AllMove (push (tag.Lines ∷ tag.Subshell ∷ [])) old new res → AllMove (open_steps p) old new res
open_default p q old new res e n0 n1 n2 n3 n4 moves = open_default_by p old new res (λ h. n0 (e ∙ h)) (λ h. n1 (e ∙ h)) (λ h. n2 (e ∙ h)) (λ h. n3 (e ∙ h)) (λ h. n4 (e ∙ h)) moves

bracket_default_by : {A : Type 0} (below : Place) (p : Place) (old new : List Frame) (res : Result A Unbuilt) → (p ≡ place.Subscript → ⊥) → AllMove (text_steps) old new res → AllMove (bracket_steps p below) old new res
bracket_default_by below place.Subscript old new res n0 moves = absurd (n0 refl)
bracket_default_by below p old new res n0 moves = moves

pub bracket_default : {A : Type 0} (below : Place) (p q : Place) (old new : List Frame) (res : Result A Unbuilt) → q ≡ p → (q ≡ place.Subscript → ⊥) → AllMove (text_steps) old new res → AllMove (bracket_steps p below) old new res
bracket_default below p q old new res e n0 moves = bracket_default_by below p old new res (λ h. n0 (e ∙ h)) moves

assign_default_by : {A : Type 0} (p : Place) (old new : List Frame) (res : Result A Unbuilt) → (p ≡ place.Keyed → ⊥) → AllMove ((tag.Target ∷ [], tag.Text ∷ tag.Assigning ∷ []) ∷ []) old new res → AllMove (assign_steps p) old new res
assign_default_by place.Keyed old new res n0 moves = absurd (n0 refl)
assign_default_by p old new res n0 moves = moves

pub assign_default : {A : Type 0} (p q : Place) (old new : List Frame) (res : Result A Unbuilt) → q ≡ p → (q ≡ place.Keyed → ⊥) → AllMove ((tag.Target ∷ [], tag.Text ∷ tag.Assigning ∷ []) ∷ []) old new res → AllMove (assign_steps p) old new res
assign_default p q old new res e n0 moves = assign_default_by p old new res (λ h. n0 (e ∙ h)) moves

pub text_default : {A : Type 0} (m : Mode) (k : Kind) (p below : Place) (old new : List Frame) (res : Result A Unbuilt) → Not k kind.Expand → Not k kind.OpenParameter → Not k kind.OpenCurrent → Not k kind.OpenSubstitution → Not k kind.Backquote → Not k kind.OpenArithmetic → Not k kind.WordEnd → Not k kind.Separator → Not k kind.Close → AllMove (literal_steps k) old new res → AllMove (in_text_steps m k p below) old new res
text_default m kind.Expand p below old new res n0 n1 n2 n3 n4 n5 n6 n7 n8 moves = absurd (n0 refl)
text_default m kind.OpenParameter p below old new res n0 n1 n2 n3 n4 n5 n6 n7 n8 moves = absurd (n1 refl)
text_default m kind.OpenCurrent p below old new res n0 n1 n2 n3 n4 n5 n6 n7 n8 moves = absurd (n2 refl)
text_default m kind.OpenSubstitution p below old new res n0 n1 n2 n3 n4 n5 n6 n7 n8 moves = absurd (n3 refl)
text_default m kind.Backquote p below old new res n0 n1 n2 n3 n4 n5 n6 n7 n8 moves = absurd (n4 refl)
text_default m kind.OpenArithmetic p below old new res n0 n1 n2 n3 n4 n5 n6 n7 n8 moves = absurd (n5 refl)
text_default m kind.WordEnd p below old new res n0 n1 n2 n3 n4 n5 n6 n7 n8 moves = absurd (n6 refl)
text_default m kind.Separator p below old new res n0 n1 n2 n3 n4 n5 n6 n7 n8 moves = absurd (n7 refl)
text_default m kind.Close p below old new res n0 n1 n2 n3 n4 n5 n6 n7 n8 moves = absurd (n8 refl)
text_default m k p below old new res n0 n1 n2 n3 n4 n5 n6 n7 n8 moves = moves

pub between_default : {A : Type 0} (m : Mode) (k : Kind) (p below : Place) (old new : List Frame) (res : Result A Unbuilt) → Not k kind.Newline → Not k kind.NewlineBodies → Not k kind.Semicolon → Not k kind.Ampersand → Not k kind.BarAmpersand → Not k kind.AndIf → Not k kind.OrIf → Not k kind.Bar → Not k kind.DoubleSemicolon → Not k kind.SemicolonAmpersand → Not k kind.DoubleParenthesis → Not k kind.Open → Not k kind.Close → Not k kind.Backquote → Not k kind.Redirect → Not k kind.HereRedirect → AllMove (word_steps m k p below) old new res → AllMove (between_steps m k p below) old new res
between_default m kind.Newline p below old new res n0 n1 n2 n3 n4 n5 n6 n7 n8 n9 n10 n11 n12 n13 n14 n15 moves = absurd (n0 refl)
between_default m kind.NewlineBodies p below old new res n0 n1 n2 n3 n4 n5 n6 n7 n8 n9 n10 n11 n12 n13 n14 n15 moves = absurd (n1 refl)
between_default m kind.Semicolon p below old new res n0 n1 n2 n3 n4 n5 n6 n7 n8 n9 n10 n11 n12 n13 n14 n15 moves = absurd (n2 refl)
between_default m kind.Ampersand p below old new res n0 n1 n2 n3 n4 n5 n6 n7 n8 n9 n10 n11 n12 n13 n14 n15 moves = absurd (n3 refl)
between_default m kind.BarAmpersand p below old new res n0 n1 n2 n3 n4 n5 n6 n7 n8 n9 n10 n11 n12 n13 n14 n15 moves = absurd (n4 refl)
between_default m kind.AndIf p below old new res n0 n1 n2 n3 n4 n5 n6 n7 n8 n9 n10 n11 n12 n13 n14 n15 moves = absurd (n5 refl)
between_default m kind.OrIf p below old new res n0 n1 n2 n3 n4 n5 n6 n7 n8 n9 n10 n11 n12 n13 n14 n15 moves = absurd (n6 refl)
between_default m kind.Bar p below old new res n0 n1 n2 n3 n4 n5 n6 n7 n8 n9 n10 n11 n12 n13 n14 n15 moves = absurd (n7 refl)
between_default m kind.DoubleSemicolon p below old new res n0 n1 n2 n3 n4 n5 n6 n7 n8 n9 n10 n11 n12 n13 n14 n15 moves = absurd (n8 refl)
between_default m kind.SemicolonAmpersand p below old new res n0 n1 n2 n3 n4 n5 n6 n7 n8 n9 n10 n11 n12 n13 n14 n15 moves = absurd (n9 refl)
between_default m kind.DoubleParenthesis p below old new res n0 n1 n2 n3 n4 n5 n6 n7 n8 n9 n10 n11 n12 n13 n14 n15 moves = absurd (n10 refl)
between_default m kind.Open p below old new res n0 n1 n2 n3 n4 n5 n6 n7 n8 n9 n10 n11 n12 n13 n14 n15 moves = absurd (n11 refl)
between_default m kind.Close p below old new res n0 n1 n2 n3 n4 n5 n6 n7 n8 n9 n10 n11 n12 n13 n14 n15 moves = absurd (n12 refl)
between_default m kind.Backquote p below old new res n0 n1 n2 n3 n4 n5 n6 n7 n8 n9 n10 n11 n12 n13 n14 n15 moves = absurd (n13 refl)
between_default m kind.Redirect p below old new res n0 n1 n2 n3 n4 n5 n6 n7 n8 n9 n10 n11 n12 n13 n14 n15 moves = absurd (n14 refl)
between_default m kind.HereRedirect p below old new res n0 n1 n2 n3 n4 n5 n6 n7 n8 n9 n10 n11 n12 n13 n14 n15 moves = absurd (n15 refl)
between_default m k p below old new res n0 n1 n2 n3 n4 n5 n6 n7 n8 n9 n10 n11 n12 n13 n14 n15 moves = moves

-- ---- modes

-- what is taken in that mode
pub token_at : {A : Type 0} (l m : Mode) (k : Kind) (p below : Place) (old new : List Frame) (res : Result A Unbuilt) → m ≡ l → AllMove (token_steps l k p below) old new res → AllMove (token_steps m k p below) old new res
token_at {A} l m k p below old new res e moves = subst (λ n. AllMove {A = A} (token_steps n k p below) old new res) (sym e) moves

token_between_at : {A : Type 0} (l m : Mode) (k : Kind) (p below : Place) (old new : List Frame) (res : Result A Unbuilt) → is_between l ≡ true → (AllMove (between_steps l k p below) old new res → AllMove (token_steps l k p below) old new res)
    → m ≡ l → (is_between m ≡ true → AllMove (between_steps m k p below) old new res) → AllMove (token_steps m k p below) old new res
token_between_at {A} l m k p below old new res b same e moves =
    token_at l m k p below old new res e (same (subst (λ n. AllMove {A = A} (between_steps n k p below) old new res) e (moves (ap is_between e ∙ b))))

pub token_between : {A : Type 0} (m : Mode) (k : Kind) (p below : Place) (old new : List Frame) (res : Result A Unbuilt) → (m ≡ mode.Command ⊎ (m ≡ mode.Pattern ⊎ (m ≡ mode.Condition ⊎ (m ≡ mode.Value))))
    → (is_between m ≡ true → AllMove (between_steps m k p below) old new res) → AllMove (token_steps m k p below) old new res
token_between m k p below old new res (inl e) moves = token_between_at mode.Command m k p below old new res refl (λ x. x) e moves
token_between m k p below old new res (inr (inl e)) moves = token_between_at mode.Pattern m k p below old new res refl (λ x. x) e moves
token_between m k p below old new res (inr (inr (inl e))) moves = token_between_at mode.Condition m k p below old new res refl (λ x. x) e moves
token_between m k p below old new res (inr (inr (inr e))) moves = token_between_at mode.Value m k p below old new res refl (λ x. x) e moves

pub token_default : {A : Type 0} (m : Mode) (k : Kind) (p below : Place) (old new : List Frame) (res : Result A Unbuilt) → (m ≡ mode.Command → ⊥) → (m ≡ mode.Pattern → ⊥) → (m ≡ mode.Condition → ⊥) → (m ≡ mode.Value → ⊥) → (m ≡ mode.Parameter → ⊥) → (m ≡ mode.Form → ⊥) → (m ≡ mode.Target → ⊥) → (is_between m ≡ false → AllMove (in_text_steps m k p below) old new res) → AllMove (token_steps m k p below) old new res
token_default mode.Command k p below old new res n0 n1 n2 n3 n4 n5 n6 moves = absurd (n0 refl)
token_default mode.Pattern k p below old new res n0 n1 n2 n3 n4 n5 n6 moves = absurd (n1 refl)
token_default mode.Condition k p below old new res n0 n1 n2 n3 n4 n5 n6 moves = absurd (n2 refl)
token_default mode.Value k p below old new res n0 n1 n2 n3 n4 n5 n6 moves = absurd (n3 refl)
token_default mode.Parameter k p below old new res n0 n1 n2 n3 n4 n5 n6 moves = absurd (n4 refl)
token_default mode.Form k p below old new res n0 n1 n2 n3 n4 n5 n6 moves = absurd (n5 refl)
token_default mode.Target k p below old new res n0 n1 n2 n3 n4 n5 n6 moves = absurd (n6 refl)
token_default m k p below old new res n0 n1 n2 n3 n4 n5 n6 moves = moves refl
