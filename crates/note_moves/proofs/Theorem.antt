-- What is heard of a script's notes moves the tags from one list's beginning to its end.
use Rattle.std.specs.Prelude.{◌≡◌, ℕ, Bool, List, [], ◌∷◌, ◌++◌, map, reverse, slice_set, Some, is_some, option_and_then}
use Rattle.std.proofs.Common.{refl, sym, ◌∙◌, ap, append_assoc, subst}
use Rattle.ksh_syntax.specs.Sentences.{Event, Marked, Token, Took}
use Rattle.ksh_scan.specs.declared.state.Source.{Source}
use Rattle.ksh_scan.specs.declared.state.State.{State}
use Rattle.ksh_scan.specs.Scan.{start}
use Rattle.script_notes.specs.declared.note.Note.{Note}
use Rattle.script_notes.specs.declared.noting.Noting.{Noting}
use Rattle.script_notes.specs.declared.noting.OpenText.{OpenText}
use Rattle.script_notes.specs.Arranged.{text_at}
use Rattle.script_notes.specs.Noted.{Noted, begin, finished, nothing_noted, one_noted}
use Rattle.tree_moves.specs.Tags.{Tag}
use Rattle.tree_moves.specs.Tags as tag
use Rattle.tree_moves.specs.HereWords.{Still, Text, text_turn, text_turns}
use Rattle.tree_moves.proofs.Theorem.{words_agree}
use Rattle.tree_moves.proofs.Words.{then_goes}
use Rattle.note_moves.specs.Heard.{Good, Lead, NotesLead, NotesMove, moved_notes}
use Rattle.note_moves.proofs.Notes.{first_set, good_first, heard_moves}
use Rattle.note_moves.proofs.Standing.{Holds, Stand}
use Rattle.note_moves.proofs.Steps.{step_holds}

begin_holds : (text : List ℕ) → Holds (start text) begin ((tag.Lines ∷ [], [], Still) ∷ [])
begin_holds text = record {
  stand = (record { words = refl; still = refl; awaited = refl; moved = refl; number = refl; operator = refl }, tt);
  good = λ n. refl;
  count = 0;
  some = refl;
}

-- ---- events, one behind others

record Halves (front behind : List Event) (s now : List Text) : Type 0 where
  middle : List Text
  first : text_turns front s ≡ Some middle
  second : text_turns behind middle ≡ Some now

halves : (front behind : List Event) (s now : List Text) → text_turns (front ++ behind) s ≡ Some now → Halves front behind s now
halves [] behind s now h = record { middle = s; first = refl; second = h }
halves (e ∷ front) behind s now h =
    let k = then_goes (text_turns (front ++ behind)) (text_turn e s) now h in
    let o = halves front behind k.x now k.goes in
    record { middle = o.middle; first = ap (option_and_then (text_turns front)) k.some ∙ o.first; second = o.second }

noted_holds : (text : List ℕ) {s : State} {front : List Token} {events : List Event} {g : Noting} → Noted text s front events g → (now : List Text)
    → text_turns events ((tag.Lines ∷ [], [], Still) ∷ []) ≡ Some now → Holds s g now
noted_holds text nothing_noted now h =
    let same : (tag.Lines ∷ [], [], Still) ∷ [] ≡ now = cc in
    subst (Holds (start text) begin) same (begin_holds text)
noted_holds text (one_noted r marks s s' front events g n p) now h =
    let o = halves events (map Marked marks ++ Took (r.mode, r.seen.kind) ∷ []) ((tag.Lines ∷ [], [], Still) ∷ []) now
    (ap (λ es. text_turns es ((tag.Lines ∷ [], [], Still) ∷ [])) (sym (append_assoc events (map Marked marks) (Took (r.mode, r.seen.kind) ∷ []))) ∙ h) in
    step_holds text s s' r marks g o.middle now p (noted_holds text n o.middle o.first) o.second

-- ---- the whole script

record Whole (here : Bool) (source : Source) (o : OpenText) (x : Text) : Type 0 where
  number : o.number ≡ 0
  moved : moved_notes o.notes (tag.Lines ∷ []) ≡ Some x.0

whole : (here : Bool) (source : Source) (sources : List Source) (o : OpenText) (outer : List OpenText) (x : Text) → Stand here (source ∷ sources) (o ∷ outer) (x ∷ []) → Whole here source o x
whole here source sources o outer x h = record { number = h.0.number; moved = h.0.moved }

finished_leads : (texts : List (List Note)) (g : Noting) (s : State) → texts ≡ finished g → Holds s g ((tag.Listed ∷ [], [], Still) ∷ []) → Lead texts
finished_leads texts g s e h =
    let w = whole (is_some s.here) s.source (reverse s.outer) g.text g.outer (tag.Listed ∷ [], [], Still) h.stand in
    let same : texts ≡ slice_set g.texts 0 g.text.notes = e ∙ ap (λ n. slice_set g.texts n g.text.notes) w.number in
    let good : Good texts = subst Good (sym same) (good_first g.texts g.text.notes h.good) in
    let own : text_at 0 texts ≡ g.text.notes = ap (text_at 0) same ∙ first_set g.texts h.count g.text.notes h.some in
    record { own = ap (λ ns. moved_notes ns (tag.Lines ∷ [])) own ∙ w.moved; bodies = good }

pub notes_lead : NotesLead
notes_lead text notes n lexed = finished_leads notes.texts n.noting n.state n.given (noted_holds text n.was_noted ((tag.Listed ∷ [], [], Still) ∷ []) (words_agree n.front n.events n.script lexed))

pub notes_move : NotesMove
notes_move text notes events n lexed heard =
    let l = notes_lead text notes n lexed in
    heard_moves notes.texts l.bodies heard (tag.Lines ∷ []) (tag.Listed ∷ []) l.own
