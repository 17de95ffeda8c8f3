-- What is noted is spelled.
use Rattle.std.specs.Prelude.{ℕ, List}
use Rattle.std.proofs.Common.{sym, subst}
use Rattle.ksh_syntax.specs.Sentences.{Event, Token}
use Rattle.ksh_scan.specs.declared.state.State.{State}
use Rattle.ksh_scan.specs.Scan.{IsText, Spelled, nothing_read, one_more}
use Rattle.script_notes.specs.declared.note.Notes.{Notes}
use Rattle.script_notes.specs.declared.noting.Noting.{Noting}
use Rattle.script_notes.specs.Noted.{IsNoted, Noted, nothing_noted, one_noted}

spelled : {text : List ℕ} {s : State} {front : List Token} {events : List Event} {g : Noting} → Noted text s front events g → Spelled text s front events
spelled nothing_noted = nothing_read
spelled {text} {front} {events} (one_noted r marks s s' before told g h p) =
    subst (λ at. Spelled text at front events) (sym p.behind) (one_more r.mode r.seen marks s p.at before told (spelled h) p.sees p.fine)

pub is_text : (text : List ℕ) (notes : Notes) → IsNoted text notes → IsText text
is_text text notes n = (n.size, n.state, n.front, n.events, spelled n.was_noted, n.script, n.shallow)
