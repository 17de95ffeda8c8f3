-- What the marks before a token, and the token, do to a text that is open.
use Rattle.std.specs.Prelude.{◌≡◌, Bool, true, false, not, ◌||◌, ◌&&◌, List, [], ◌∷◌, ◌++◌, map, Some, option_and_then, option_map, if◌then◌else◌}
use Rattle.std.proofs.Common.{◌⊎◌, inl, inr, refl, sym, ◌∙◌, ap}
use Rattle.ksh_grammar.proofs.Begins.{and_left, and_right, or_to}
use Rattle.ksh_syntax.specs.declared.kind.Mode.{Mode}
use Rattle.ksh_syntax.specs.declared.kind.Mode.TheVariants as mode
use Rattle.ksh_syntax.specs.declared.kind.Kind.TheVariants as kind
use Rattle.ksh_syntax.specs.declared.part.Mark.{Mark}
use Rattle.ksh_syntax.specs.Sentences.{Event, Took, Marked, Token}
use Rattle.ksh_syntax.specs.Takes.{same_kind, same_mode}
use Rattle.ksh_scan.specs.Scan.{ends_text}
use Rattle.tree_parts.specs.declared.sign.Moment.{Moment}
use Rattle.script_notes.specs.Noted.{marked}
use Rattle.tree_moves.specs.Tags.{Tag, same_tag}
use Rattle.tree_moves.specs.Tags as tag
use Rattle.tree_moves.specs.Moves.{body_begins, body_ends, by_rows, heard, moves}
use Rattle.tree_moves.specs.HereWords.{Text, Still, agrees, agrees_on_mark, end_step, ends_here_word, has_any, innermost, is_behind_operator, is_on_top, mark_step, openings_behind, same_bool, text_step, text_turn, text_turns, token_step, waits_behind, with_openings}
use Rattle.tree_moves.proofs.Numbers.{tag_same}
use Rattle.tree_moves.proofs.Rows.{Replaces, row_or_later}
use Rattle.tree_moves.proofs.Words.{guarded, mapped, then_goes, with_some}
use Rattle.note_moves.specs.Heard.{body_heard, moved_notes}
use Rattle.note_moves.proofs.Openings.{waits_all}
use Rattle.note_moves.proofs.Passing.{same_so}

-- ---- marks

pub record MarksMove (marks : List Mark) (x : Text) (xs : List Text) (es : List Event) (now : List Text) : Type 0 where
  pub y : Text
  pub waits : waits_all marks x.2 ≡ Some y.2
  pub openings : y.1 ≡ x.1
  pub moved : (m : Moment) → moved_notes (marked marks m) x.0 ≡ Some y.0
  pub operator : is_behind_operator y.0 ≡ is_behind_operator x.0
  pub goes : text_turns es (y ∷ xs) ≡ Some now

record MarkMove (m : Mark) (x z : Text) : Type 0 where
  waits : waits_behind m x.2 ≡ Some z.2
  openings : z.1 ≡ x.1
  moved : moves (Marked m) x.0 ≡ Some z.0
  operator : is_behind_operator z.0 ≡ is_behind_operator x.0

mark_moves : (m : Mark) (x z : Text) → text_step (Marked m) x ≡ Some z → MarkMove m x z
mark_moves m x z h =
    let k = then_goes (mark_step m x) (moves (Marked m) x.0) z h in
    let g = guarded (agrees_on_mark x k.x) (option_map (λ w. (k.x, x.1, w)) (waits_behind m x.2)) z k.goes in
    let w = mapped (λ w. (k.x, x.1, w)) (waits_behind m x.2) z g.goes in
    let tags : k.x ≡ z.0 = ap (λ v. v.0) w.same in
    let operator : Bool = same_bool (is_behind_operator k.x) (is_behind_operator x.0) in
    let same = same_so (is_behind_operator k.x) (is_behind_operator x.0)
    (and_right (not (is_on_top tag.HereWord k.x)) operator (and_right (has_any k.x) (not (is_on_top tag.HereWord k.x) && operator) (and_right (has_any x.0) (has_any k.x && (not (is_on_top tag.HereWord k.x) && operator)) g.so))) in
    record {
      waits = w.some ∙ ap (λ v. Some v.2) w.same;
      openings = sym (ap (λ v. v.1) w.same);
      moved = k.some ∙ ap (λ us. Some us) tags;
      operator = sym (ap is_behind_operator tags) ∙ same;
    }

pub marks_move : (marks : List Mark) (x : Text) (xs : List Text) (es : List Event) (now : List Text) → text_turns (map Marked marks ++ es) (x ∷ xs) ≡ Some now → MarksMove marks x xs es now
marks_move [] x xs es now h = record { y = x; waits = refl; openings = refl; moved = λ m. refl; operator = refl; goes = h }
marks_move (m ∷ marks) x xs es now h =
    let t = then_goes (text_turns (map Marked marks ++ es)) (text_turn (Marked m) (x ∷ xs)) now h in
    let s = mapped (λ y. y ∷ xs) (text_step (Marked m) x) t.x t.some in
    let o = mark_moves m x s.x s.some in
    let k = marks_move marks s.x xs es now (ap (text_turns (map Marked marks ++ es)) s.same ∙ t.goes) in
    record {
      y = k.y;
      waits = ap (option_and_then (waits_all marks)) o.waits ∙ k.waits;
      openings = k.openings ∙ o.openings;
      moved = λ at. ap (option_and_then (moved_notes (marked marks at))) o.moved ∙ k.moved at;
      operator = k.operator ∙ o.operator;
      goes = k.goes;
    }

-- ---- what agrees

pub record Agrees (t : Token) (y : Text) (us : List Tag) : Type 0 where
  pub some : has_any us ≡ true
  pub condition : is_behind_operator y.0 ≡ true → t.0 ≡ mode.Condition
  pub word : is_on_top tag.HereWord us ≡ ends_here_word t.1 (is_behind_operator y.0) (innermost y.1)
  pub operator : is_behind_operator us ≡ same_kind t.1 kind.HereRedirect

mode_so : (m : Mode) → same_mode m mode.Condition ≡ true → m ≡ mode.Condition
mode_so mode.Condition h = refl
mode_so _ h = cc

not_both : {A : Type 0} (b : Bool) → not b ≡ true → b ≡ true → A
not_both true h k = cc
not_both false h k = cc

pub agreed : (t : Token) (y : Text) (us : List Tag) → agrees t y us ≡ true → Agrees t y us
agreed t y us h =
    let mode_is : Bool = not (is_behind_operator y.0) || same_mode t.0 mode.Condition in
    let word_is : Bool = same_bool (is_on_top tag.HereWord us) (ends_here_word t.1 (is_behind_operator y.0) (innermost y.1)) in
    let operator_is : Bool = same_bool (is_behind_operator us) (same_kind t.1 kind.HereRedirect) in
    let a = and_right (has_any y.0) (has_any us && (mode_is && (word_is && operator_is))) h in
    let b = and_right (has_any us) (mode_is && (word_is && operator_is)) a in
    let c = and_right mode_is (word_is && operator_is) b in
    record {
      some = and_left (has_any us) (mode_is && (word_is && operator_is)) a;
      condition = λ e. or_to (not (is_behind_operator y.0)) (same_mode t.0 mode.Condition) (and_left mode_is (word_is && operator_is) b)
          (λ n. not_both (is_behind_operator y.0) n e) (λ s. mode_so t.0 s);
      word = same_so (is_on_top tag.HereWord us) (ends_here_word t.1 (is_behind_operator y.0) (innermost y.1)) (and_left word_is operator_is c);
      operator = same_so (is_behind_operator us) (same_kind t.1 kind.HereRedirect) (and_right word_is operator_is c);
    }

-- ---- tokens

-- the tags directly behind the token, and behind a body that is heard there
pub record TokenMove (t : Token) (y z : Text) : Type 0 where
  pub us : List Tag
  pub moved : (if ends_text t.1 then Some y.0 else moves (Took t) y.0) ≡ Some us
  pub agree : Agrees t y us
  pub word : is_on_top tag.HereWord us ≡ true → body_heard us ≡ Some z.0
  pub other : is_on_top tag.HereWord us ≡ false → us ≡ z.0
  pub openings : openings_behind t y ≡ Some z.1
  pub still : z.2 ≡ Still

heard_word : (us vs : List Tag) → heard us ≡ Some vs → is_on_top tag.HereWord us ≡ true → body_heard us ≡ Some vs
heard_word [] vs h e = cc
heard_word (u ∷ us) vs h e = sym (ap (λ b. if b then body_heard (u ∷ us) else Some (u ∷ us)) e) ∙ h

heard_other : (us vs : List Tag) → heard us ≡ Some vs → is_on_top tag.HereWord us ≡ false → us ≡ vs
heard_other [] vs h e = cc
heard_other (u ∷ us) vs h e =
    let same : Some (u ∷ us) ≡ Some vs = sym (ap (λ b. if b then body_heard (u ∷ us) else Some (u ∷ us)) e) ∙ h in
    cc

pub step_moves : (t : Token) (y z : Text) → ends_text t.1 ≡ false → text_step (Took t) y ≡ Some z → TokenMove t y z
step_moves t y z e h =
    let k = then_goes (token_step t y) (moves (Took t) y.0) z h in
    let g = guarded (agrees t y k.x) (with_openings (heard k.x) (openings_behind t y)) z k.goes in
    let w = with_some (heard k.x) (openings_behind t y) z g.goes in
    record {
      us = k.x;
      moved = ap (λ b. if b then Some y.0 else moves (Took t) y.0) e ∙ k.some;
      agree = agreed t y k.x g.so;
      word = λ b. heard_word k.x z.0 w.tags b;
      other = λ b. heard_other k.x z.0 w.tags b;
      openings = w.openings;
      still = w.still;
    }

never_word : (here word : Bool) → ends_here_word kind.End here word ≡ false
never_word true word = refl
never_word false word = refl

pub no_line_word : (here word : Bool) → ends_here_word kind.NewlineBodies here word ≡ false
no_line_word true word = refl
no_line_word false word = refl

absurd_word : {A : Type 0} (b c : Bool) → b ≡ c → c ≡ false → b ≡ true → A
absurd_word b c e f h = let wrong : true ≡ false = sym h ∙ (e ∙ f) in cc

pub end_moves : (t : Token) (y z : Text) → t.1 ≡ kind.End → end_step t y ≡ Some z → TokenMove t y z
end_moves t y z e h =
    let g = guarded (agrees t y y.0) (with_openings (Some y.0) (openings_behind t y)) z h in
    let w = with_some (Some y.0) (openings_behind t y) z g.goes in
    let a = agreed t y y.0 g.so in
    let same : y.0 ≡ z.0 = let o : Some y.0 ≡ Some z.0 = w.tags in cc in
    record {
      us = y.0;
      moved = ap (λ k. if ends_text k then Some y.0 else moves (Took t) y.0) e;
      agree = a;
      word = λ b. absurd_word (is_on_top tag.HereWord y.0) (ends_here_word kind.End (is_behind_operator y.0) (innermost y.1))
          (a.word ∙ ap (λ k. ends_here_word k (is_behind_operator y.0) (innermost y.1)) e) (never_word (is_behind_operator y.0) (innermost y.1)) b;
      other = λ b. same;
      openings = w.openings;
      still = w.still;
    }

-- ---- the operator behind a token

word_no_operator : (us : List Tag) → is_on_top tag.HereWord us ≡ true → is_behind_operator us ≡ false
word_no_operator [] h = cc
word_no_operator (u ∷ us) h = ap (λ t. same_tag t tag.HereOperator) (tag_same u tag.HereWord h)

ended_no_operator : (ts us : List Tag) → by_rows body_ends ts ≡ Some us → is_behind_operator us ≡ false
ended_no_operator ts us h = first (row_or_later (tag.Text ∷ tag.HereBody ∷ tag.Simple ∷ [], tag.Simple ∷ []) ((tag.Text ∷ tag.HereBody ∷ tag.Compound ∷ [], tag.Compound ∷ []) ∷ []) ts us h)
  where
    none : by_rows [] ts ≡ Some us → is_behind_operator us ≡ false
    none e = cc

    second : Replaces (tag.Text ∷ tag.HereBody ∷ tag.Compound ∷ [], tag.Compound ∷ []) ts us ⊎ (by_rows [] ts ≡ Some us) → is_behind_operator us ≡ false
    second (inl r) = ap is_behind_operator r.behind
    second (inr e) = none e

    first : Replaces (tag.Text ∷ tag.HereBody ∷ tag.Simple ∷ [], tag.Simple ∷ []) ts us ⊎ (by_rows ((tag.Text ∷ tag.HereBody ∷ tag.Compound ∷ [], tag.Compound ∷ []) ∷ []) ts ≡ Some us) → is_behind_operator us ≡ false
    first (inl r) = ap is_behind_operator r.behind
    first (inr e) = second (row_or_later (tag.Text ∷ tag.HereBody ∷ tag.Compound ∷ [], tag.Compound ∷ []) [] ts us e)

pub operator_behind : (t : Token) (y z : Text) → TokenMove t y z → is_behind_operator z.0 ≡ same_kind t.1 kind.HereRedirect
operator_behind t y z k = go (is_on_top tag.HereWord k.us) refl
  where
    go : (b : Bool) → is_on_top tag.HereWord k.us ≡ b → is_behind_operator z.0 ≡ same_kind t.1 kind.HereRedirect
    go true e =
        let f = then_goes (by_rows body_ends) (by_rows body_begins k.us) z.0 (k.word e) in
        ended_no_operator f.x z.0 f.goes ∙ (sym (word_no_operator k.us e) ∙ k.agree.operator)
    go false e = sym (ap is_behind_operator (k.other e)) ∙ k.agree.operator
