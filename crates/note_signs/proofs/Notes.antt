-- What is noted of a script fits.
use Rattle.std.proofs.Common.{◌≡◌, ℕ, Bool, true, false, ◌&&◌, List, [], ◌∷◌, ◌++◌, length, Option, Some, None, All, refl, ap, sym, ◌∙◌, subst, slice_get, if◌then◌else◌}
use Rattle.std.specs.List.{list_all}
use Rattle.std.proofs.lemmas.List.Elements.{All-append, All-cons, All-contains, All-get_or, All-head, All-nil, All-push, All-set, All-tail}
use Rattle.std.proofs.lemmas.List.Folds.{list_all-append}
use Rattle.std.proofs.lemmas.Option.{slice_get_within, get_or_from_slice_get}
use Rattle.ksh_lexer.specs.Spells.{Spells}
use Rattle.ksh_syntax.specs.declared.kind.Kind.{Kind}
use Rattle.ksh_syntax.specs.declared.kind.Kind.TheVariants as kind
use Rattle.ksh_syntax.specs.declared.part.Mark.{Mark}
use Rattle.ksh_syntax.specs.Sentences.{Event as Told, Token}
use Rattle.ksh_scan.specs.declared.after.ReadToken.{ReadToken}
use Rattle.ksh_scan.specs.declared.state.State.{State}
use Rattle.ksh_scan.specs.Seeing.{text_of}
use Rattle.tree_parts.specs.declared.sign.Moment.{Moment}
use Rattle.tree_moves.specs.Turns.{is_lexed}
use Rattle.script_notes.specs.declared.cursor.Event.{Event}
use Rattle.script_notes.specs.declared.note.Note.{Note}
use Rattle.script_notes.specs.declared.note.Note.TheVariants as note
use Rattle.script_notes.specs.declared.noting.Noting.{Noting}
use Rattle.script_notes.specs.declared.noting.OpenText.{OpenText}
use Rattle.script_notes.specs.Arranged.{Arranged, body, mark, nothing, notes_or_none, text_at, token}
use Rattle.script_notes.specs.Noted.{Noted, adds, awaits, awaits_where, begin, ends_body, enters_first, finished, goes, leaves, leaves_to, line_of, marked, moment_of, noted_token, nothing_noted, one_noted, sign_of}
use Rattle.tree_build.specs.Fitting.{Fitting}
use Rattle.note_signs.specs.Signs.{AllFit, HeardFit, NotesAreLexed, NotesFit, SignFits}
use Rattle.note_signs.proofs.Seen.{Fine, Stands, same_bytes, seen_fine, seen_stands, stands_on, stands_start}

-- ---- notes of one text

abbrev NoteFits : List ℕ → Note → Type 0
NoteFits text (note.Token s) = SignFits text s
NoteFits text _ = Unit {0}

abbrev TextFits : List ℕ → List Note → Type 0
TextFits text notes = All (NoteFits text) notes

abbrev OpenFits : List ℕ → OpenText → Type 0
OpenFits text o = TextFits text o.notes

-- the notes so far of each text, of the one that is read, and of those outside it
record Holds (text : List ℕ) (g : Noting) : Type 0 where
  texts : All (TextFits text) g.texts
  now : TextFits text g.text.notes
  outer : All (OpenFits text) g.outer

marks_fit : (text : List ℕ) (marks : List Mark) (m : Moment) → TextFits text (marked marks m)
marks_fit text [] m = All-nil (NoteFits text)
marks_fit text (k ∷ marks) m = All-cons (NoteFits text) (note.Mark k m) (marked marks m) tt (marks_fit text marks m)

begins : (text : List ℕ) → Holds text begin
begins text = record {
  texts = All-cons (TextFits text) [] [] (All-nil (NoteFits text)) (All-nil (TextFits text));
  now = All-nil (NoteFits text);
  outer = All-nil (OpenFits text);
}

-- ---- one token

adds_on : (text : List ℕ) (notes : List Note) (g : Noting) → TextFits text notes → Holds text g → Holds text (adds notes g)
adds_on text notes g n h = record { texts = h.texts; now = All-append (NoteFits text) g.text.notes notes h.now n; outer = h.outer }

awaits_on : (text : List ℕ) (g : Noting) → Holds text g → Holds text (awaits g)
awaits_on text g h = record {
  texts = All-push (TextFits text) g.texts [] h.texts (All-nil (NoteFits text));
  now = All-push (NoteFits text) g.text.notes (note.Body (length g.texts)) h.now tt;
  outer = h.outer;
}

awaits_where_on : (text : List ℕ) (here : Bool) (g : Noting) → Holds text g → Holds text (awaits_where here g)
awaits_where_on text true g h = awaits_on text g h
awaits_where_on text false g h = h

token_on : (text : List ℕ) (line : ℕ) (r : ReadToken) (g : Noting) → SignFits text (sign_of r line) → Holds text g → Holds text (noted_token line r g)
token_on text line r g f h = go (ends_body r.seen.kind)
  where
    go : (t : Bool) → Holds text (if t then g else awaits_where r.ends_here_word (adds (note.Token (sign_of r line) ∷ []) g))
    go true = h
    go false = awaits_where_on text r.ends_here_word _ (adds_on text (note.Token (sign_of r line) ∷ []) g (All-cons (NoteFits text) (note.Token (sign_of r line)) [] f (All-nil (NoteFits text))) h)

enters_first_on : (text : List ℕ) (waiting : List ℕ) (g : Noting) → Holds text g → Holds text (enters_first waiting g)
enters_first_on text [] g h = h
enters_first_on text (number ∷ more) g h = record { texts = h.texts; now = All-nil (NoteFits text); outer = All-cons (OpenFits text) (record g.text { waiting = more }) g.outer h.now h.outer }

leaves_to_on : (text : List ℕ) (outer : List OpenText) (g : Noting) → All (OpenFits text) outer → Holds text g → Holds text (leaves_to outer g)
leaves_to_on text [] g o h = h
leaves_to_on text (x ∷ more) g o h = record {
  texts = All-set (TextFits text) g.texts g.text.number g.text.notes h.now h.texts;
  now = All-head (OpenFits text) x more o;
  outer = All-tail (OpenFits text) x more o;
}

leaves_on : (text : List ℕ) (g : Noting) → Holds text g → Holds text (leaves g)
leaves_on text g h = leaves_to_on text g.outer g h.outer h

goes_on : (text : List ℕ) (k : Kind) (g : Noting) → Holds text g → Holds text (goes k g)
goes_on text kind.End g h = h
goes_on text kind.Newline g h = h
goes_on text kind.NewlineBodies g h = enters_first_on text g.text.waiting g h
goes_on text kind.Semicolon g h = h
goes_on text kind.DoubleSemicolon g h = h
goes_on text kind.SemicolonAmpersand g h = h
goes_on text kind.AndIf g h = h
goes_on text kind.OrIf g h = h
goes_on text kind.Bar g h = h
goes_on text kind.BarAmpersand g h = h
goes_on text kind.Ampersand g h = h
goes_on text kind.DoubleParenthesis g h = h
goes_on text kind.Open g h = h
goes_on text kind.Close g h = h
goes_on text kind.Backquote g h = h
goes_on text kind.Redirect g h = h
goes_on text kind.HereRedirect g h = h
goes_on text kind.Order g h = h
goes_on text kind.Start g h = h
goes_on text kind.StartAssignment g h = h
goes_on text kind.Element g h = h
goes_on text kind.ValueOpen g h = h
goes_on text kind.Key g h = h
goes_on text kind.If g h = h
goes_on text kind.Then g h = h
goes_on text kind.Else g h = h
goes_on text kind.Elif g h = h
goes_on text kind.Fi g h = h
goes_on text kind.Case g h = h
goes_on text kind.Esac g h = h
goes_on text kind.For g h = h
goes_on text kind.While g h = h
goes_on text kind.Until g h = h
goes_on text kind.Do g h = h
goes_on text kind.Done g h = h
goes_on text kind.LeftBrace g h = h
goes_on text kind.RightBrace g h = h
goes_on text kind.Function g h = h
goes_on text kind.Select g h = h
goes_on text kind.LeftBrackets g h = h
goes_on text kind.Bang g h = h
goes_on text kind.RightBrackets g h = h
goes_on text kind.In g h = h
goes_on text kind.Time g h = h
goes_on text kind.Namespace g h = h
goes_on text kind.Typeset g h = h
goes_on text kind.Unary g h = h
goes_on text kind.Binary g h = h
goes_on text kind.Name g h = h
goes_on text kind.Dotted g h = h
goes_on text kind.Assignment g h = h
goes_on text kind.Other g h = h
goes_on text kind.Plain g h = h
goes_on text kind.Joined g h = h
goes_on text kind.Escaped g h = h
goes_on text kind.Single g h = h
goes_on text kind.Ansi g h = h
goes_on text kind.OpenQuote g h = h
goes_on text kind.Expand g h = h
goes_on text kind.OpenParameter g h = h
goes_on text kind.OpenCurrent g h = h
goes_on text kind.OpenSubstitution g h = h
goes_on text kind.OpenArithmetic g h = h
goes_on text kind.Dollar g h = h
goes_on text kind.Separator g h = h
goes_on text kind.WordEnd g h = h
goes_on text kind.CloseQuote g h = h
goes_on text kind.BodyNext g h = enters_first_on text (leaves g).text.waiting (leaves g) (leaves_on text g h)
goes_on text kind.BodyLast g h = leaves_on text g h
goes_on text kind.Length g h = h
goes_on text kind.Target g h = h
goes_on text kind.Digits g h = h
goes_on text kind.Special g h = h
goes_on text kind.Items g h = h
goes_on text kind.Member g h = h
goes_on text kind.Prefix g h = h
goes_on text kind.Instead g h = h
goes_on text kind.Cut g h = h
goes_on text kind.Slice g h = h
goes_on text kind.Replace g h = h
goes_on text kind.Assign g h = h
goes_on text kind.AddAssign g h = h
goes_on text kind.Otherwise g h = h

noted_on : (text : List ℕ) (line : ℕ) (r : ReadToken) (marks : List Mark) (g : Noting) → SignFits text (sign_of r line) → Holds text g
    → Holds text (goes r.seen.kind (noted_token line r (adds (marked marks (moment_of g.behind r.seen.token line)) g)))
noted_on text line r marks g f h =
    goes_on text r.seen.kind _ (token_on text line r _ f (adds_on text (marked marks (moment_of g.behind r.seen.token line)) g (marks_fit text marks (moment_of g.behind r.seen.token line)) h))

behind_on : (text : List ℕ) (g : Noting) (at : ℕ) → Holds text g → Holds text (record g { behind = at })
behind_on text g at h = record { texts = h.texts; now = h.now; outer = h.outer }

-- ---- a script

-- where the scanner stands, what is noted, and the tokens
record Kept (text : List ℕ) (s : State) (front : List Token) (g : Noting) : Type 0 where
  stands : Stands text s
  holds : Holds text g
  lexed : list_all is_lexed front ≡ true

one_lexed : (front : List Token) (t : Token) → list_all is_lexed front ≡ true → is_lexed t ≡ true → list_all is_lexed (front ++ t ∷ []) ≡ true
one_lexed front t h i = list_all-append is_lexed front (t ∷ []) ∙ ap (λ a. a && (is_lexed t && true)) h ∙ ap (λ a. a && true) i

-- the token that passes fits
passed : (text : List ℕ) (s : State) (r : ReadToken) (line : ℕ) → Stands text s → Fine r.mode (text_of s) r.seen → SignFits text (sign_of r line)
passed text s r line w f =
    subst (λ bytes. Fitting (sign_of r line) bytes) (same_bytes text (text_of s) r.seen.token.from r.seen.token.to w.own f.within) (f.fits line)

kept : Spells → (text : List ℕ) {s : State} {front : List Token} {events : List Told} {g : Noting} → Noted text s front events g → Kept text s front g
kept told text nothing_noted = record { stands = stands_start text; holds = begins text; lexed = refl }
kept told text (one_noted r marks s s' front events g h p) =
    let k = kept told text h in
    let line : ℕ = line_of text r.seen.token.from in
    let fits : SignFits text (sign_of r line) = passed text s r line k.stands (seen_fine told s r.mode r.seen p.at p.sees) in
    record {
      stands = subst (λ z. Stands text z) (sym p.behind) (stands_on text p.at r.seen marks (seen_stands text s r.mode r.seen p.at p.sees k.stands));
      holds = behind_on text _ r.seen.token.to (noted_on text line r marks g fits k.holds);
      lexed = one_lexed front (r.mode, r.seen.kind) k.lexed fits.lexed;
    }

-- the notes of each text
read_fits : (text : List ℕ) (texts : List (List Note)) (number : ℕ) (o : Option (List Note)) → slice_get texts number ≡ o → All (TextFits text) texts → TextFits text (notes_or_none o)
read_fits text texts number None e h = All-nil (NoteFits text)
read_fits text texts number (Some notes) e h =
    subst (λ ns. TextFits text ns) (get_or_from_slice_get texts number notes [] e) (All-get_or (TextFits text) texts number [] (slice_get_within texts number notes e) h)

texts_fit : (text : List ℕ) (texts : List (List Note)) (g : Noting) → texts ≡ finished g → Holds text g → (number : ℕ) → TextFits text (text_at number texts)
texts_fit text texts g e h number =
    read_fits text texts number (slice_get texts number) refl (subst (λ ts. All (TextFits text) ts) (sym e) (All-set (TextFits text) g.texts g.text.number g.text.notes h.now h.texts))

pub notes_fit : Spells → NotesFit
notes_fit told text notes n number s c =
    All-contains (NoteFits text) (text_at number notes.texts) (note.Token s) (texts_fit text notes.texts n.noting n.given (kept told text n.was_noted).holds number) c

pub notes_are_lexed : Spells → NotesAreLexed
notes_are_lexed told text notes n = (kept told text n.was_noted).lexed

-- what is heard of notes that fit
arranged_fit : (text : List ℕ) (texts : List (List Note)) → ((number : ℕ) → TextFits text (text_at number texts)) → {notes : List Note} {from to : List Event} → Arranged texts notes from to
    → TextFits text notes → AllFit text to → AllFit text from
arranged_fit text texts all nothing n h = h
arranged_fit text texts all (token {notes} s a) n h = (All-head (NoteFits text) (note.Token s) notes n, arranged_fit text texts all a (All-tail (NoteFits text) (note.Token s) notes n) h)
arranged_fit text texts all (mark {notes} k m a) n h = (tt, arranged_fit text texts all a (All-tail (NoteFits text) (note.Mark k m) notes n) h)
arranged_fit text texts all (body {notes} number a b) n h =
    (tt, arranged_fit text texts all a (all number) (tt, arranged_fit text texts all b (All-tail (NoteFits text) (note.Body number) notes n) h))

pub heard_fit : Spells → HeardFit
heard_fit told text notes n events h =
    let all : (number : ℕ) → TextFits text (text_at number notes.texts) = texts_fit text notes.texts n.noting n.given (kept told text n.was_noted).holds in
    arranged_fit text notes.texts all h (all 0) tt
