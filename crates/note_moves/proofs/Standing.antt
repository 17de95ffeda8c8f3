-- The texts that a scanner reads, what is noted of each, and the tags to which the notes lead.
use Rattle.std.specs.Prelude.{◌≡◌, ℕ, suc, Bool, true, false, List, [], ◌∷◌, ◌++◌, length, reverse, Some, is_some}
use Rattle.std.proofs.Common.{refl, ◌∙◌, ap, arith}
use Rattle.std.proofs.lemmas.List.{length-append}
use Rattle.ksh_syntax.specs.declared.part.Mark.{Mark}
use Rattle.ksh_scan.specs.declared.after.ReadToken.{ReadToken}
use Rattle.ksh_scan.specs.declared.opening.Opening.{Opening}
use Rattle.ksh_scan.specs.declared.see.Seen.{Seen}
use Rattle.ksh_scan.specs.declared.state.Source.{Source}
use Rattle.ksh_scan.specs.declared.state.State.{State}
use Rattle.ksh_scan.specs.After.{ends_here_word, source_after, word_by}
use Rattle.ksh_scan.specs.Openings.{innermost, opened_by, told_all}
use Rattle.script_notes.specs.declared.note.Note.{Note}
use Rattle.script_notes.specs.declared.note.Note.TheVariants as note
use Rattle.script_notes.specs.declared.noting.Noting.{Noting}
use Rattle.script_notes.specs.declared.noting.OpenText.{OpenText}
use Rattle.script_notes.specs.Noted.{adds, awaits_where, sign_of}
use Rattle.tree_moves.specs.Tags.{Tag}
use Rattle.tree_moves.specs.Tags as tag
use Rattle.tree_moves.specs.HereWords.{Text, Waits, Still, is_behind_operator, is_on_top, opened}
use Rattle.note_moves.specs.Heard.{Good, moved_note, moved_notes}
use Rattle.note_moves.proofs.Notes.{good_added, notes_then, one_note}
use Rattle.note_moves.proofs.Openings.{all_told, is_word, waits_all, words, words_parted}
use Rattle.note_moves.proofs.Passing.{awaits_none, awaits_one, opened_known}
use Rattle.note_moves.proofs.Seen.{Facts}
use Rattle.note_moves.proofs.Turns.{TokenMove}

-- a body within another text begins without pieces, and a script without commands
abbrev pub begins : List Text → List Tag
begins [] = tag.Lines ∷ []
begins (x ∷ outer) = tag.Text ∷ []

-- the script's number is 0
abbrev pub Numbered : List Text → ℕ → Type 0
Numbered [] n = n ≡ 0
Numbered (x ∷ outer) n = Unit {0}

-- a text that is read, what is noted of it, and its tags
pub record OneText (here : Bool) (s : Source) (o : OpenText) (x : Text) (outer : List Text) : Type 0 where
  pub words : words s.openings ≡ x.1
  pub still : x.2 ≡ Still
  pub awaited : length s.lexer.2 ≡ length o.waiting
  pub moved : moved_notes o.notes (begins outer) ≡ Some x.0
  pub number : Numbered outer o.number
  pub operator : is_behind_operator x.0 ≡ here

-- all that are open, the innermost first; in the outer ones no operator stands last
abbrev pub Stand : Bool → List Source → List OpenText → List Text → Type 0
Stand here [] [] [] = Unit {0}
Stand here (s ∷ ss) (o ∷ os) (x ∷ xs) = OneText here s o x xs × Stand false ss os xs
Stand here _ _ _ = ⊥

pub record Holds (s : State) (g : Noting) (now : List Text) : Type 0 where
  pub stand : Stand (is_some s.here) (s.source ∷ reverse s.outer) (g.text ∷ g.outer) now
  pub good : Good g.texts
  pub count : ℕ
  pub some : length g.texts ≡ suc count

-- ---- what is open and awaited behind a token

some_same : (os ls : List Bool) → Some os ≡ Some ls → os ≡ ls
some_same os ls h = cc

pub words_behind : (at : State) (n : Seen) (marks : List Mark) (os ls : List Bool) (w : Waits) → words at.source.openings ≡ os → waits_all marks Still ≡ Some w
    → opened w (is_word (opened_by n.token.kind at.here)) os ≡ Some ls → words (source_after at.here n marks at.source).openings ≡ ls
words_behind at n marks os ls w e waits h =
    let o : Opening = record { opened = opened_by n.token.kind at.here; byte = n.token.from; part = n.token.to; is_later = false } in
    words_parted n.kind n.token.to (told_all marks o at.source.openings)
    ∙ all_told marks Still w o os at.source.openings waits (λ xs f. e ∙ some_same os xs f) ls h

pub awaited_one : (at : State) (n : Seen) (marks : List Mark) → ends_here_word at n ≡ true → length (source_after at.here n marks at.source).lexer.2 ≡ suc (length at.source.lexer.2)
awaited_one at n marks h = awaits_one (word_by n.token.kind at.source.lexer.0 n.token at.here (innermost at.source.openings)) at.source.lexer h

pub awaited_none : (at : State) (n : Seen) (marks : List Mark) → ends_here_word at n ≡ false → length (source_after at.here n marks at.source).lexer.2 ≡ length at.source.lexer.2
awaited_none at n marks h = awaits_none (word_by n.token.kind at.source.lexer.0 n.token at.here (innermost at.source.openings)) at.source.lexer h

-- ---- a token is noted

pub record TokenHolds (here : Bool) (s : Source) (g old : Noting) (z : Text) (xs : List Text) : Type 0 where
  pub one : OneText here s g.text z xs
  pub outer : g.outer ≡ old.outer
  pub good : Good g.texts
  pub count : ℕ
  pub some : length g.texts ≡ suc count

-- the text and its notes before the token and behind the marks
pub record Before (at : State) (r : ReadToken) (marks : List Mark) (g : Noting) (y : Text) (xs : List Text) : Type 0 where
  pub facts : Facts r.mode r.seen
  pub here : is_some at.here ≡ is_behind_operator y.0
  pub words : words at.source.openings ≡ y.1
  pub waits : waits_all marks Still ≡ Some y.2
  pub awaited : length at.source.lexer.2 ≡ length g.text.waiting
  pub moved : moved_notes g.text.notes (begins xs) ≡ Some y.0
  pub number : Numbered xs g.text.number
  pub good : Good g.texts
  pub count : ℕ
  pub some : length g.texts ≡ suc count

token_moved : (r : ReadToken) (line : ℕ) (notes : List Note) (y z : Text) (xs : List Text) (k : TokenMove (r.mode, r.seen.kind) y z) → moved_notes notes (begins xs) ≡ Some y.0
    → moved_notes (notes ++ note.Token (sign_of r line) ∷ []) (begins xs) ≡ Some k.us
token_moved r line notes y z xs k h =
    notes_then notes (note.Token (sign_of r line) ∷ []) (begins xs) y.0 h ∙ one_note (note.Token (sign_of r line)) y.0 k.us k.moved

body_moved : (notes : List Note) (number count : ℕ) (us vs ts : List Tag) → number ≡ suc count → moved_notes notes ts ≡ Some us → moved_note (note.Body (suc count)) us ≡ Some vs
    → moved_notes (notes ++ note.Body number ∷ []) ts ≡ Some vs
body_moved notes number count us vs ts e h k =
    notes_then notes (note.Body number ∷ []) ts us h ∙ one_note (note.Body number) us vs (ap (λ n. moved_note (note.Body n) us) e ∙ k)

one_more : (a b : ℕ) (waiting : List ℕ) (n : ℕ) → a ≡ suc b → b ≡ length waiting → a ≡ length (waiting ++ n ∷ [])
one_more a b waiting n e f = omega (arith, e, f, length-append waiting (n ∷ []))

pub token_holds : (at : State) (r : ReadToken) (marks : List Mark) (line : ℕ) (g : Noting) (y z : Text) (xs : List Text) (b here : Bool) → Before at r marks g y xs
    → (k : TokenMove (r.mode, r.seen.kind) y z) → ends_here_word at r.seen ≡ b → is_on_top tag.HereWord k.us ≡ b → is_behind_operator z.0 ≡ here
    → TokenHolds here (source_after at.here r.seen marks at.source) (awaits_where b (adds (note.Token (sign_of r line) ∷ []) g)) g z xs
token_holds at r marks line g y z xs true here p k ends top o = record {
  one = record {
    words = words_behind at r.seen marks y.1 z.1 y.2 p.words p.waits (ap (λ w. opened y.2 w y.1) (opened_known at r.seen (is_behind_operator y.0) p.facts.knows p.here) ∙ k.openings);
    still = k.still;
    awaited = one_more (length (source_after at.here r.seen marks at.source).lexer.2) (length at.source.lexer.2) g.text.waiting (length g.texts) (awaited_one at r.seen marks ends) p.awaited;
    moved = body_moved (g.text.notes ++ note.Token (sign_of r line) ∷ []) (length g.texts) p.count k.us z.0 (begins xs) p.some (token_moved r line g.text.notes y z xs k p.moved) (k.word top);
    number = p.number;
    operator = o;
  };
  outer = refl;
  good = good_added g.texts p.good;
  count = suc p.count;
  some = omega (arith, p.some, length-append g.texts ([] ∷ []));
}
token_holds at r marks line g y z xs false here p k ends top o = record {
  one = record {
    words = words_behind at r.seen marks y.1 z.1 y.2 p.words p.waits (ap (λ w. opened y.2 w y.1) (opened_known at r.seen (is_behind_operator y.0) p.facts.knows p.here) ∙ k.openings);
    still = k.still;
    awaited = awaited_none at r.seen marks ends ∙ p.awaited;
    moved = token_moved r line g.text.notes y z xs k p.moved ∙ ap (λ ts. Some ts) (k.other top);
    number = p.number;
    operator = o;
  };
  outer = refl;
  good = p.good;
  count = p.count;
  some = p.some;
}
