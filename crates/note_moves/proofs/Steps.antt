-- Each token that is noted leaves the texts, their notes and their tags as they belong together.
use Rattle.std.specs.Prelude.{◌≡◌, ℕ, suc, Bool, true, false, List, [], ◌∷◌, ◌++◌, length, map, reverse, slice_set, Some, None, is_some, if◌then◌else◌}
use Rattle.std.proofs.Common.{◌⊎◌, inl, inr, refl, sym, ◌∙◌, ap, arith, subst}
use Rattle.std.proofs.lemmas.List.{length-set, reverse-append}
use Rattle.ksh_grammar.proofs.Begins.{and_left, and_right}
use Rattle.ksh_lexer.specs.declared.here.Body.{Body}
use Rattle.ksh_lexer.specs.declared.here.HereDocument.{HereDocument}
use Rattle.ksh_syntax.specs.declared.kind.Mode.{Mode}
use Rattle.ksh_syntax.specs.declared.kind.Kind.{Kind}
use Rattle.ksh_syntax.specs.declared.kind.Kind.TheVariants as kind
use Rattle.ksh_syntax.specs.declared.part.Mark.{Mark}
use Rattle.ksh_syntax.specs.Sentences.{Event, Took, Marked}
use Rattle.ksh_syntax.specs.Takes.{same_kind}
use Rattle.ksh_scan.specs.declared.after.ReadToken.{ReadToken}
use Rattle.ksh_scan.specs.declared.see.Seen.{Seen}
use Rattle.ksh_scan.specs.declared.state.Source.{Source}
use Rattle.ksh_scan.specs.declared.state.State.{State}
use Rattle.ksh_scan.specs.After.{after, body_source, command_word, ends_here_word, entered, operator_of, source_after}
use Rattle.ksh_scan.specs.Openings.{innermost as last_opened}
use Rattle.ksh_scan.specs.Scan.{ends_text}
use Rattle.ksh_scan.specs.Seeing.{text_of}
use Rattle.ksh_scan.specs.Steps.{Passes}
use Rattle.script_notes.specs.declared.note.Note.{Note}
use Rattle.script_notes.specs.declared.note.Note.TheVariants as note
use Rattle.script_notes.specs.declared.noting.Noting.{Noting}
use Rattle.script_notes.specs.declared.noting.OpenText.{OpenText}
use Rattle.script_notes.specs.Noted.{adds, awaits_where, ends_body, enters, enters_first, goes, leaves_to, line_of, marked, moment_of, noted, noted_on, noted_token, opened, sign_of}
use Rattle.tree_moves.specs.Tags.{Tag}
use Rattle.tree_moves.specs.Tags as tag
use Rattle.tree_moves.specs.Turns.{Own, is_text, role_of}
use Rattle.tree_moves.specs.HereWords as words
use Rattle.tree_moves.specs.HereWords.{Text, Waits, Still, Opening, Closing, end_step, ends_script, fresh, innermost, is_behind_operator, is_body, is_on_top, is_still, text_step, text_turn, text_turn_by, text_turns, within_text}
use Rattle.tree_moves.proofs.Words.{guarded, mapped, text_so, then_goes}
use Rattle.note_moves.proofs.Fitting.{is_inner}
use Rattle.note_moves.specs.Heard.{Good, moved_notes}
use Rattle.note_moves.proofs.Notes.{good_set, notes_then}
use Rattle.note_moves.proofs.Openings as open_words
use Rattle.note_moves.proofs.Openings.{waits_all, words_inner}
use Rattle.note_moves.proofs.Passing.{ends_known, operator_known}
use Rattle.note_moves.proofs.Seen.{Facts, Leaves, Seeing, Stays, begins_body, is_seen, last_body, next_body, stays_within}
use Rattle.note_moves.proofs.Standing.{Before, Holds, OneText, Stand, awaited_none, begins, token_holds, words_behind}
use Rattle.note_moves.proofs.Turns.{TokenMove, end_moves, marks_move, no_line_word, operator_behind, step_moves}

-- ---- kinds

inner_role : (k : Kind) → is_inner k ≡ true → (role_of k ≡ Own) ⊎ (k ≡ kind.End)
inner_role kind.NewlineBodies h = cc
inner_role kind.BodyNext h = cc
inner_role kind.BodyLast h = cc
inner_role kind.End h = inr refl
inner_role _ h = inl refl

inner_goes : (k : Kind) (g : Noting) → is_inner k ≡ true → goes k g ≡ g
inner_goes kind.NewlineBodies g h = cc
inner_goes kind.BodyNext g h = cc
inner_goes kind.BodyLast g h = cc
inner_goes _ g h = refl

inner_heard : (k : Kind) → is_inner k ≡ true → ends_body k ≡ false
inner_heard kind.NewlineBodies h = cc
inner_heard kind.BodyNext h = cc
inner_heard kind.BodyLast h = cc
inner_heard _ h = refl

own_text : (k : Kind) → role_of k ≡ Own → ends_text k ≡ false
own_text kind.End h = cc
own_text _ h = refl

-- ---- the state behind a token

-- without the body that may be entered
abbrev pub passed : State → Seen → List Mark → State
passed at n marks = record at { source = source_after at.here n marks at.source; here = operator_of (text_of at) n.token; command_word = command_word marks n }

one_event : (e : Event) (s now : List Text) → text_turns (e ∷ []) s ≡ Some now → text_turn e s ≡ Some now
one_event e s now h =
    let k = then_goes (text_turns []) (text_turn e s) now h in
    k.some ∙ k.goes

-- what is noted, but for the place behind it
placed : (s : State) (g g' : Noting) (now : List Text) (behind : ℕ) → g' ≡ g → Holds s g now → Holds s (record g' { behind = behind }) now
placed s g g' now behind e h = subst (λ n. Holds s (record n { behind = behind }) now) (sym e) (record { stand = h.stand; good = h.good; count = h.count; some = h.some })

-- ---- marks

-- what stands before the token: the marks are noted
record Marks (s : State) (g : Noting) (x : Text) (xs : List Text) (es : List Event) (now : List Text) (marks : List Mark) (notes : List Note) : Type 0 where
  y : Text
  openings : y.1 ≡ x.1
  waits : waits_all marks Still ≡ Some y.2
  moved : moved_notes (g.text.notes ++ notes) (begins xs) ≡ Some y.0
  operator : is_behind_operator y.0 ≡ is_some s.here
  goes : text_turns es (y ∷ xs) ≡ Some now

marks_noted : (s : State) (g : Noting) (x : Text) (xs : List Text) (e : Event) (now : List Text) (r : ReadToken) (marks : List Mark) (line : ℕ) → OneText (is_some s.here) s.source g.text x xs
    → text_turns (map Marked marks ++ e ∷ []) (x ∷ xs) ≡ Some now → Marks s g x xs (e ∷ []) now marks (marked marks (moment_of g.behind r.seen.token line))
marks_noted s g x xs e now r marks line one h =
    let k = marks_move marks x xs (e ∷ []) now h in
    record {
      y = k.y;
      openings = k.openings;
      waits = ap (waits_all marks) (sym one.still) ∙ k.waits;
      moved = notes_then g.text.notes (marked marks (moment_of g.behind r.seen.token line)) (begins xs) x.0 one.moved ∙ k.moved (moment_of g.behind r.seen.token line);
      operator = k.operator ∙ one.operator;
      goes = k.goes;
    }

-- ---- bodies that are awaited

-- a number waits where a body is awaited
record Shape (waiting : List ℕ) (left : List HereDocument) : Type 0 where
  number : ℕ
  more : List ℕ
  some : waiting ≡ number ∷ more
  awaited : length left ≡ length more

shape : (waiting : List ℕ) (d : HereDocument) (all left : List HereDocument) → all ≡ d ∷ left → length all ≡ length waiting → Shape waiting left
shape [] d all left e h = absurd (let n : suc (length left) ≡ 0 = sym (ap length e) ∙ h in cc)
shape (number ∷ more) d all left e h = record { number = number; more = more; some = refl; awaited = omega (arith, ap length e, h) }

abbrev with_waiting : List ℕ → Noting → Noting
with_waiting w g = record g { text = record g.text { waiting = w } }

first_text : (text : List ℕ) (b : Body) (number : ℕ) (here : Bool) (x : Text) (xs : List Text) → here ≡ false → OneText here (body_source text b) (opened number) fresh (x ∷ xs)
first_text text b number here x xs e = record { words = refl; still = refl; awaited = refl; moved = refl; number = tt; operator = sym e }

-- the innermost of the sources outside
last_source : (more : List Source) (below : Source) → reverse (more ++ below ∷ []) ≡ below ∷ reverse more
last_source more below = reverse-append more (below ∷ [])

-- ---- the text outside a body

record Outside (xs behind now : List Text) : Type 0 where
  x : Text
  more : List Text
  some : xs ≡ x ∷ more
  is_now : behind ≡ now

outside : (xs behind now : List Text) → within_text xs behind ≡ Some now → Outside xs behind now
outside [] behind now h = cc
outside (x ∷ xs) behind now h = record { x = x; more = xs; some = refl; is_now = cc }

record OuterText (below : Source) (ss : List Source) (os : List OpenText) (x : Text) (xs : List Text) : Type 0 where
  o : OpenText
  more : List OpenText
  some : os ≡ o ∷ more
  one : OneText false below o x xs
  rest : Stand false ss more xs

outer_text : (below : Source) (ss : List Source) (os : List OpenText) (x : Text) (xs : List Text) → Stand false (below ∷ ss) os (x ∷ xs) → OuterText below ss os x xs
outer_text below ss [] x xs h = absurd h
outer_text below ss (o ∷ os) x xs h = record { o = o; more = os; some = refl; one = h.0; rest = h.1 }

-- ---- a token within its text

module _ (s : State) (r : ReadToken) (marks : List Mark) (at : State) (g : Noting) (x : Text) (xs now : List Text) (line : ℕ)
    (facts : Facts r.mode r.seen) (here : r.ends_here_word ≡ ends_here_word at r.seen) (h : Holds s g (x ∷ xs))
    (m : Marks s g x xs (Took (r.mode, r.seen.kind) ∷ []) now marks (marked marks (moment_of g.behind r.seen.token line))) where
  -- the notes with the marks
  abbrev g1 : Noting
  g1 = adds (marked marks (moment_of g.behind r.seen.token line)) g

  abbrev kept : Note
  kept = note.Token (sign_of r line)

  here_so : at.here ≡ s.here → is_some at.here ≡ is_behind_operator m.y.0
  here_so e = ap is_some e ∙ sym m.operator

  words_so : Stays s at → open_words.words at.source.openings ≡ m.y.1
  words_so stays = ap open_words.words stays.openings ∙ (h.stand.0.words ∙ sym m.openings)

  before : Stays s at → (w : List ℕ) → length at.source.lexer.2 ≡ length w → Before at r marks (with_waiting w g1) m.y xs
  before stays w e = record {
    facts = facts;
    here = here_so stays.here;
    words = words_so stays;
    waits = m.waits;
    awaited = e;
    moved = m.moved;
    number = h.stand.0.number;
    good = h.good;
    count = h.count;
    some = h.some;
  }

  ends : Stays s at → (z : Text) (k : TokenMove (r.mode, r.seen.kind) m.y z) → ends_here_word at r.seen ≡ is_on_top tag.HereWord k.us
  ends stays z k =
      ends_known r.mode at r.seen (is_behind_operator m.y.0) (innermost m.y.1) facts (here_so stays.here) (words_inner at.source.openings ∙ ap innermost (words_so stays)) k.agree.condition
      ∙ sym k.agree.word

  turn : text_turn_by (role_of r.seen.kind) (Took (r.mode, r.seen.kind)) m.y xs ≡ Some now
  turn = one_event (Took (r.mode, r.seen.kind)) (m.y ∷ xs) now m.goes

  record Moved : Type 0 where
    z : Text
    move : TokenMove (r.mode, r.seen.kind) m.y z
    is_now : z ∷ xs ≡ now

  own_moved : role_of r.seen.kind ≡ Own → Moved
  own_moved e =
      let k = mapped (λ y. y ∷ xs) (text_step (Took (r.mode, r.seen.kind)) m.y) now (ap (λ l. text_turn_by l (Took (r.mode, r.seen.kind)) m.y xs) (sym e) ∙ turn) in
      record { z = k.x; move = step_moves (r.mode, r.seen.kind) m.y k.x (own_text r.seen.kind e) k.some; is_now = k.same }

  end_moved : r.seen.kind ≡ kind.End → Moved
  end_moved e =
      let k = mapped (λ y. y ∷ xs) (end_step (r.mode, r.seen.kind) m.y) now (ap (λ l. text_turn_by (role_of l) (Took (r.mode, r.seen.kind)) m.y xs) (sym e) ∙ turn) in
      record { z = k.x; move = end_moves (r.mode, r.seen.kind) m.y k.x e k.some; is_now = k.same }

  moved_by : (role_of r.seen.kind ≡ Own) ⊎ (r.seen.kind ≡ kind.End) → Moved
  moved_by (inl e) = own_moved e
  moved_by (inr e) = end_moved e

  -- what is noted within a text
  inner_noted : (b : Bool) → is_inner r.seen.kind ≡ true → r.ends_here_word ≡ b → goes r.seen.kind (noted_token line r g1) ≡ awaits_where b (adds (kept ∷ []) g1)
  inner_noted b i e =
      inner_goes r.seen.kind (noted_token line r g1) i
      ∙ (ap (λ c. if c then g1 else awaits_where r.ends_here_word (adds (kept ∷ []) g1)) (inner_heard r.seen.kind i) ∙ ap (λ c. awaits_where c (adds (kept ∷ []) g1)) e)

  same_holds : Stays s at → at.source.lexer.2 ≡ s.source.lexer.2 → is_inner r.seen.kind ≡ true → Holds (passed at r.seen marks) (noted_on line r marks g) now
  same_holds stays w i =
      let v = moved_by (inner_role r.seen.kind i) in
      let top : Bool = is_on_top tag.HereWord v.move.us in
      let a : State = passed at r.seen marks in
      let t = token_holds at r marks line g1 m.y v.z xs top (is_some a.here) (before stays g.text.waiting (ap length w ∙ h.stand.0.awaited)) v.move (ends stays v.z v.move) refl
      (operator_behind (r.mode, r.seen.kind) m.y v.z v.move ∙ sym (operator_known at r.seen facts.knows)) in
      let g2 : Noting = awaits_where top (adds (kept ∷ []) g1) in
      let rest : Stand false (reverse at.outer) g2.outer xs =
      subst (λ os. Stand false (reverse at.outer) os xs) (sym t.outer) (subst (λ o. Stand false (reverse o) g.outer xs) (sym stays.outer) h.stand.1) in
      let all : Holds a g2 (v.z ∷ xs) = record { stand = (t.one, rest); good = t.good; count = t.count; some = t.some } in
      subst (Holds a (noted_on line r marks g)) v.is_now
      (placed a g2 (goes r.seen.kind (noted_token line r g1)) (v.z ∷ xs) r.seen.token.to (inner_noted top i (here ∙ ends stays v.z v.move)) all)

  -- ---- bodies begin

  line_noted : (number : ℕ) (more : List ℕ) → r.seen.kind ≡ kind.NewlineBodies → r.ends_here_word ≡ false → g.text.waiting ≡ number ∷ more
      → goes r.seen.kind (noted_token line r g1)
      ≡ record g1 { text = opened number; outer = record g1.text { notes = g1.text.notes ++ kept ∷ []; waiting = more } ∷ g.outer }
  line_noted number more k e w =
      ap (λ l. goes l (if ends_body l then g1 else awaits_where r.ends_here_word (adds (kept ∷ []) g1))) k
      ∙ (ap (λ b. enters (awaits_where b (adds (kept ∷ []) g1))) e ∙ ap (λ l. enters_first l (adds (kept ∷ []) g1)) w)

  line_holds : (d : HereDocument) (b : Body) → Stays s at → s.source.lexer.2 ≡ d ∷ at.source.lexer.2 → r.seen.kind ≡ kind.NewlineBodies
      → Holds (entered (Some b) (passed at r.seen marks)) (noted_on line r marks g) now
  line_holds d b stays w k =
      let t : Mode × Kind = (r.mode, r.seen.kind) in
      let v = mapped (λ y. fresh ∷ y ∷ xs) (text_step (Took t) m.y) now (ap (λ l. text_turn_by (role_of l) (Took t) m.y xs) (sym k) ∙ turn) in
      let move = step_moves t m.y v.x (ap ends_text k) v.some in
      let top : is_on_top tag.HereWord move.us ≡ false =
      move.agree.word ∙ (ap (λ l. words.ends_here_word l (is_behind_operator m.y.0) (innermost m.y.1)) k ∙ no_line_word (is_behind_operator m.y.0) (innermost m.y.1)) in
      let no_end : ends_here_word at r.seen ≡ false = ends stays v.x move ∙ top in
      let p = shape g.text.waiting d s.source.lexer.2 at.source.lexer.2 w h.stand.0.awaited in
      let no_operator : same_kind r.seen.kind kind.HereRedirect ≡ false = ap (λ l. same_kind l kind.HereRedirect) k in
      let a : State = passed at r.seen marks in
      let o = token_holds at r marks line (with_waiting p.more g1) m.y v.x xs false false (before stays p.more p.awaited) move no_end top
      (operator_behind t m.y v.x move ∙ no_operator) in
      let g3 : Noting = record g1 { text = opened p.number; outer = record g1.text { notes = g1.text.notes ++ kept ∷ []; waiting = p.more } ∷ g.outer } in
      let within : Stand false (a.source ∷ reverse at.outer) g3.outer (v.x ∷ xs) = (o.one, subst (λ ss. Stand false (reverse ss) g.outer xs) (sym stays.outer) h.stand.1) in
      let rest : Stand false (reverse (at.outer ++ a.source ∷ [])) g3.outer (v.x ∷ xs) = subst (λ ss. Stand false ss g3.outer (v.x ∷ xs)) (sym (last_source at.outer a.source)) within in
      let all : Holds (entered (Some b) a) g3 (fresh ∷ v.x ∷ xs) = record {
        stand = (first_text (text_of a) b p.number (is_some a.here) v.x xs (operator_known at r.seen facts.knows ∙ no_operator), rest);
        good = h.good;
        count = h.count;
        some = h.some;
      } in
      subst (Holds (entered (Some b) a) (noted_on line r marks g)) v.same
      (placed (entered (Some b) a) g3 (goes r.seen.kind (noted_token line r g1)) (fresh ∷ v.x ∷ xs) r.seen.token.to (line_noted p.number p.more k (here ∙ no_end) p.some) all)

  -- ---- a body ends

  -- behind it stand these texts
  record BodyEnd (behind : List Text) (below : Source) : Type 0 where
    x2 : Text
    xs2 : List Text
    within : xs ≡ x2 ∷ xs2
    is_now : behind ≡ now
    text : m.y.0 ≡ tag.Text ∷ []
    still : waits_all marks Still ≡ Some Still
    outer : OuterText below (reverse at.outer) g.outer x2 xs2

  still_so : (w : Waits) → is_still w ≡ true → w ≡ Still
  still_so Still e = refl
  still_so Opening e = cc
  still_so Closing e = cc

  body_end : (behind : List Text) (below : Source) → Leaves s at below → (if is_body m.y then within_text xs behind else None) ≡ Some now → BodyEnd behind below
  body_end behind below leave e =
      let k = guarded (is_body m.y) (within_text xs behind) now e in
      let o = outside xs behind now k.goes in
      let sources : reverse s.outer ≡ below ∷ reverse at.outer = ap reverse leave.outer ∙ last_source at.outer below in
      let stand : Stand false (below ∷ reverse at.outer) g.outer (o.x ∷ o.more) =
      subst (λ ss. Stand false ss g.outer (o.x ∷ o.more)) sources (subst (λ ts. Stand false (reverse s.outer) g.outer ts) o.some h.stand.1) in
      record {
        x2 = o.x;
        xs2 = o.more;
        within = o.some;
        is_now = o.is_now;
        text = text_so m.y.0 (and_left (is_text m.y.0) (is_still m.y.2) k.so);
        still = m.waits ∙ ap (λ w. Some w) (still_so m.y.2 (and_right (is_text m.y.0) (is_still m.y.2) k.so));
        outer = outer_text below (reverse at.outer) g.outer o.x o.more stand;
      }

  no_end : (below : Source) (k : Kind) → Leaves s at below → m.y.0 ≡ tag.Text ∷ [] → r.seen.kind ≡ k
      → words.ends_here_word k false (open_words.inner_word (last_opened at.source.openings)) ≡ false → ends_here_word at r.seen ≡ false
  no_end below k leave text e f =
      ends_known r.mode at r.seen false (open_words.inner_word (last_opened at.source.openings)) facts (here_so leave.here ∙ ap is_behind_operator text) refl (λ wrong. cc)
      ∙ (ap (λ l. words.ends_here_word l false (open_words.inner_word (last_opened at.source.openings))) e ∙ f)

  -- the text outside goes on
  outer_goes : (behind : List Text) (below : Source) (here' : Bool) (waiting : List ℕ) → Leaves s at below → (b : BodyEnd behind below) → ends_here_word at r.seen ≡ false → false ≡ here'
      → length at.source.lexer.2 ≡ length waiting → OneText here' (passed at r.seen marks).source (record b.outer.o { waiting = waiting }) b.x2 b.xs2
  outer_goes behind below here' waiting leave b e f w = record {
    words = words_behind at r.seen marks (open_words.words at.source.openings) (open_words.words at.source.openings) Still refl b.still refl
        ∙ (ap open_words.words leave.openings ∙ b.outer.one.words);
    still = b.outer.one.still;
    awaited = awaited_none at r.seen marks e ∙ w;
    moved = b.outer.one.moved;
    number = b.outer.one.number;
    operator = b.outer.one.operator ∙ f;
  }

  body_good : (behind : List Text) (below : Source) → BodyEnd behind below → Good (slice_set g.texts g.text.number g1.text.notes)
  body_good behind below b =
      good_set g.texts g.text.number g1.text.notes h.good (sym (ap (λ ts. moved_notes g1.text.notes (begins ts)) b.within) ∙ (m.moved ∙ ap (λ ts. Some ts) b.text))

  -- the texts behind the body's end
  abbrev g2 : OpenText → List OpenText → Noting
  g2 o os = record g1 { texts = slice_set g.texts g.text.number g1.text.notes; text = o; outer = os }

  last_noted : (o : OpenText) (os : List OpenText) → r.seen.kind ≡ kind.BodyLast → g.outer ≡ o ∷ os → goes r.seen.kind (noted_token line r g1) ≡ g2 o os
  last_noted o os k e =
      ap (λ l. goes l (if ends_body l then g1 else awaits_where r.ends_here_word (adds (kept ∷ []) g1))) k ∙ ap (λ ts. leaves_to ts g1) e

  next_noted : (o : OpenText) (os : List OpenText) (number : ℕ) (more : List ℕ) → r.seen.kind ≡ kind.BodyNext → g.outer ≡ o ∷ os → o.waiting ≡ number ∷ more
      → goes r.seen.kind (noted_token line r g1) ≡ g2 (opened number) (record o { waiting = more } ∷ os)
  next_noted o os number more k e w =
      ap (λ l. goes l (if ends_body l then g1 else awaits_where r.ends_here_word (adds (kept ∷ []) g1))) k
      ∙ (ap (λ ts. enters (leaves_to ts g1)) e ∙ ap (λ l. enters_first l (g2 o os)) w)

  texts_some : length (slice_set g.texts g.text.number g1.text.notes) ≡ suc h.count
  texts_some = length-set g.texts g.text.number g1.text.notes ∙ h.some

  last_holds : (below : Source) → Leaves s at below → below.lexer.2 ≡ at.source.lexer.2 → r.seen.kind ≡ kind.BodyLast → Holds (passed at r.seen marks) (noted_on line r marks g) now
  last_holds below leave w k =
      let b = body_end xs below leave (ap (λ l. text_turn_by (role_of l) (Took (r.mode, r.seen.kind)) m.y xs) (sym k) ∙ turn) in
      let a : State = passed at r.seen marks in
      let here' : is_some a.here ≡ false = operator_known at r.seen facts.knows ∙ ap (λ l. same_kind l kind.HereRedirect) k in
      let one = outer_goes xs below (is_some a.here) b.outer.o.waiting leave b (no_end below kind.BodyLast leave b.text k refl) (sym here') (ap length (sym w) ∙ b.outer.one.awaited) in
      let all : Holds a (g2 b.outer.o b.outer.more) (b.x2 ∷ b.xs2) = record { stand = (one, b.outer.rest); good = body_good xs below b; count = h.count; some = texts_some } in
      subst (Holds a (noted_on line r marks g)) (sym b.within ∙ b.is_now)
      (placed a (g2 b.outer.o b.outer.more) (goes r.seen.kind (noted_token line r g1)) (b.x2 ∷ b.xs2) r.seen.token.to (last_noted b.outer.o b.outer.more k b.outer.some) all)

  next_holds : (d : HereDocument) (body : Body) (below : Source) → Leaves s at below → below.lexer.2 ≡ d ∷ at.source.lexer.2 → r.seen.kind ≡ kind.BodyNext
      → Holds (entered (Some body) (passed at r.seen marks)) (noted_on line r marks g) now
  next_holds d body below leave w k =
      let b = body_end (fresh ∷ xs) below leave (ap (λ l. text_turn_by (role_of l) (Took (r.mode, r.seen.kind)) m.y xs) (sym k) ∙ turn) in
      let a : State = passed at r.seen marks in
      let here' : is_some a.here ≡ false = operator_known at r.seen facts.knows ∙ ap (λ l. same_kind l kind.HereRedirect) k in
      let p = shape b.outer.o.waiting d below.lexer.2 at.source.lexer.2 w b.outer.one.awaited in
      let one = outer_goes (fresh ∷ xs) below false p.more leave b (no_end below kind.BodyNext leave b.text k refl) refl p.awaited in
      let g3 : Noting = g2 (opened p.number) (record b.outer.o { waiting = p.more } ∷ b.outer.more) in
      let within : Stand false (a.source ∷ reverse at.outer) g3.outer (b.x2 ∷ b.xs2) = (one, b.outer.rest) in
      let rest : Stand false (reverse (at.outer ++ a.source ∷ [])) g3.outer (b.x2 ∷ b.xs2) = subst (λ ss. Stand false ss g3.outer (b.x2 ∷ b.xs2)) (sym (last_source at.outer a.source)) within in
      let all : Holds (entered (Some body) a) g3 (fresh ∷ b.x2 ∷ b.xs2) = record {
        stand = (first_text (text_of a) body p.number (is_some a.here) b.x2 b.xs2 here', rest);
        good = body_good (fresh ∷ xs) below b;
        count = h.count;
        some = texts_some;
      } in
      subst (Holds (entered (Some body) a) (noted_on line r marks g)) (ap (λ ts. fresh ∷ ts) (sym b.within) ∙ b.is_now)
      (placed (entered (Some body) a) g3 (goes r.seen.kind (noted_token line r g1)) (fresh ∷ b.x2 ∷ b.xs2) r.seen.token.to (next_noted b.outer.o b.outer.more p.number p.more k b.outer.some p.some) all)

  seen_holds : Seeing s r.seen at → Holds (after at r.seen marks) (noted_on line r marks g) now
  seen_holds (stays_within stays w e i) = subst (λ b. Holds (entered b (passed at r.seen marks)) (noted_on line r marks g) now) (sym e) (same_holds stays w i)
  seen_holds (begins_body d b stays w e k) = subst (λ o. Holds (entered o (passed at r.seen marks)) (noted_on line r marks g) now) (sym e) (line_holds d b stays w k)
  seen_holds (next_body d b below leave w e k) = subst (λ o. Holds (entered o (passed at r.seen marks)) (noted_on line r marks g) now) (sym e) (next_holds d b below leave w k)
  seen_holds (last_body below leave w e k) = subst (λ o. Holds (entered o (passed at r.seen marks)) (noted_on line r marks g) now) (sym e) (last_holds below leave w k)

-- ---- a step

-- a token that is read and noted keeps the texts together
pub step_holds : (text : List ℕ) (s s' : State) (r : ReadToken) (marks : List Mark) (g : Noting) (before now : List Text) → Passes s r marks s' → Holds s g before
    → text_turns (map Marked marks ++ Took (r.mode, r.seen.kind) ∷ []) before ≡ Some now → Holds s' (noted text r marks g) now
step_holds text s s' r marks g [] now p h t = absurd h.stand
step_holds text s s' r marks g (x ∷ xs) now p h t =
    let sight = is_seen s r.mode r.seen p.at p.sees in
    let at_line : ℕ = line_of text r.seen.token.from in
    let m = marks_noted s g x xs (Took (r.mode, r.seen.kind)) now r marks at_line h.stand.0 t in
    subst (λ z. Holds z (noted text r marks g) now) (sym p.behind) (seen_holds s r marks p.at g x xs now at_line sight.facts p.here h m sight.seeing)
