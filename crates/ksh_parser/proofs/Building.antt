-- What is built while a script is heard.
use Rattle.std.specs.Prelude.{◌≡◌, ℕ, List, [], ◌∷◌, Some, None, Result, Ok, Err, IfErr, IfOk}
use Rattle.std.proofs.Common.{refl, sym, subst}
use Rattle.ksh_ast.specs.declared.tree.Item.{Item}
use Rattle.ksh_lexer.specs.declared.fault.SyntaxFault.{SyntaxFault}
use Rattle.ksh_scan.specs.Scan.{HasFault, IsRefused}
use Rattle.ksh_scan.specs.declared.refusal.SyntaxRefused.{SyntaxRefused}
use Rattle.ksh_scan.specs.declared.refusal.SyntaxRefused.TheVariants as scan
use Rattle.ksh_parser.specs.declared.refused.Unparsed.{Unparsed}
use Rattle.ksh_parser.specs.declared.refused.Unparsed.TheVariants.{Fault}
use Rattle.script_notes.specs.declared.cursor.Event.{Event}
use Rattle.script_notes.specs.declared.cursor.NotePlace.{NotePlace}
use Rattle.script_notes.specs.declared.note.Note.{Note}
use Rattle.script_notes.specs.declared.note.Notes.{Notes}
use Rattle.script_notes.specs.Arranged.{Hears, IsHeard, Rest}
use Rattle.script_notes.specs.Noted.{IsNoted}
use Rattle.tree_build.specs.Frame.{Frame, Listed}
use Rattle.tree_build.specs.declared.unbuilt.Unbuilt.{Unbuilt}
use Rattle.tree_build.specs.Frames.{Keeps, Stands}
use Rattle.tree_build.specs.Heard.{Heard}
use Rattle.tree_build.specs.Reads.{Reads}
use Rattle.ksh_parser.specs.Heard.{heard}
use Rattle.ksh_parser.specs.Tree.{Follows, IsBuilt, IsScriptText, IsTree}

-- whatever is heard of the rest, with it all of the notes is heard, and the frames have read what stands before
abbrev pub Builds : List ℕ → List (List Note) → List NotePlace → List Frame → Type 0
Builds script texts places frames = (es : List Event) → Rest texts places es → (all : List Event) × IsHeard texts all × Stands script (heard script all) frames (heard script es)

pub starts : (script : List ℕ) (texts : List (List Note)) (places : List NotePlace) (frames : List Frame) → ((texts : List (List Note)) (events : List Event) → Rest texts places events → IsHeard texts events)
    → (none : List Frame) → none ≡ [] → Keeps none frames → Builds script texts places frames
starts script texts places frames all_heard none empty begins es rest =
    let nothing : Stands script (heard script es) [] (heard script es) = refl in
    (es, all_heard texts es rest, begins script (heard script es) (heard script es) (subst (λ fs. Stands script (heard script es) fs (heard script es)) (sym empty) nothing))

pub goes_on : {A : Type 0} (script : List ℕ) (texts : List (List Note)) (e : Event) (old new : List NotePlace) (before after : List Frame) (a : A) → Hears texts (Some e) old new
    → (let r : Result A Unbuilt = Ok a in Follows script e before after r) → Builds script texts old before → Builds script texts new after
goes_on script texts e old new before after a hears follows builds es rest =
    let b = builds (e ∷ es) (hears es rest) in
    (b.0, b.1, follows (heard script b.0) (heard script es) b.2)

pub finishes : (script : List ℕ) (notes : Notes) (old new : List NotePlace) (frames : List Frame) (tree : List Item) → Hears notes.texts None old new → frames ≡ Listed tree ∷ []
    → Builds script notes.texts old frames → IsBuilt script notes tree
finishes script notes old new frames tree over whole builds =
    let b = builds [] over in
    let s : Stands script (heard script b.0) (Listed tree ∷ []) [] = subst (λ fs. Stands script (heard script b.0) fs []) whole b.2 in
    record { events = b.0; in_order = b.1; read = subst (λ (hs : List Heard). Reads script hs [] (Listed tree)) (sym s.1) s.2 }

-- the same where the list is answered
pub gives_built : (script : List ℕ) (notes : Notes) (old new : List NotePlace) (frames : List Frame) (r : Result (List Item) Unbuilt) → Hears notes.texts None old new
    → IfOk r (λ tree. frames ≡ Listed tree ∷ []) → Builds script notes.texts old frames → IfOk r (λ tree. IsBuilt script notes tree)
gives_built script notes old new frames (Ok tree) over whole builds = finishes script notes old new frames tree over whole builds
gives_built script notes old new frames (Err e) over whole builds = tt

pub is_tree : (text : List ℕ) (notes : Notes) (tree : List Item) → IsNoted text notes → IsBuilt text notes tree → IsTree text tree
is_tree text notes tree noted built = record { notes = notes; noted = noted; built = built }

pub is_script : (text : List ℕ) (notes : Notes) → IsNoted text notes → IsScriptText text
is_script text notes noted = (notes, noted)

-- a fault that is told is the text's
pub told : (text : List ℕ) (g : SyntaxFault) → HasFault text g → (f : SyntaxFault) → (let r : Result (List Item) Unparsed = Err (Fault g) in r ≡ Err (Fault f)) → HasFault text f
told text g has f e = subst (λ x. HasFault text x) (let s : g ≡ f = cc in s) has

-- and what the notes are refused for
pub of_refused : {A : Type 0} (text : List ℕ) (r : Result A SyntaxRefused) (x : SyntaxRefused) (g : SyntaxFault) → IfErr r (λ y. IsRefused text y) → r ≡ Err x → x ≡ scan.Fault g → HasFault text g
of_refused text (Ok a) x g h e f = absurd cc
of_refused text (Err (scan.Fault k)) x g h e f = subst (λ z. HasFault text z) (let s : k ≡ g = cc in s) h
of_refused text (Err scan.Memory) x g h e f = absurd cc
