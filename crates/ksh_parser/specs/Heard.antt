-- What a builder of trees hears of a script's notes.
use Rattle.std.specs.Prelude.{ℕ, Bool, true, false, List, [], ◌∷◌, if◌then◌else◌}
use Rattle.ksh_scan.specs.Seeing.{slice}
use Rattle.ksh_syntax.specs.declared.kind.Kind.{Kind}
use Rattle.ksh_syntax.specs.declared.kind.Kind.TheVariants as kind
use Rattle.script_notes.specs.declared.cursor.Event.{Event}
use Rattle.script_notes.specs.declared.cursor.Event.TheVariants as event
use Rattle.tree_build.specs.Heard.{Heard, Lexed, Marked, BodyBegins, BodyEnds}

-- the end of the script says nothing of its tree
abbrev pub is_end : Kind → Bool
is_end kind.End = true
is_end _ = false

abbrev pub heard_before : List ℕ → Event → List Heard → List Heard
heard_before script (event.Token s) rest = if is_end s.kind then rest else Lexed s (slice script s.from s.to) ∷ rest
heard_before script (event.Mark k m) rest = Marked k m ∷ rest
heard_before script event.BodyBegins rest = BodyBegins ∷ rest
heard_before script event.BodyEnds rest = BodyEnds ∷ rest

-- each token with its bytes
abbrev pub heard : List ℕ → List Event → List Heard
heard script [] = []
heard script (e ∷ es) = heard_before script e (heard script es)
