-- How a run ends from its words, by what it does with the script's text.
use Rattle.std.proofs.Common.{◌≡◌, ℕ, ◌⊎◌, inl, inr, List, [], Option, Some, None, Result, Ok, Err, IfOk, refl, subst, Bool, true, false}
use Rattle.ksh_base.specs.Words.{words_plan}
use Rattle.ksh_base.specs.declared.words.Plan.{Plan}
use Rattle.ksh_base.specs.declared.words.UsageFault.{UsageFault}
use Rattle.ksh_lexer.specs.declared.fault.SyntaxFault.{SyntaxFault}
use Rattle.ksh_scan.specs.Scan as scan
use Rattle.ksh_scan.specs.declared.refusal.SyntaxRefused.{SyntaxRefused}
use Rattle.ksh_scan.specs.declared.refusal.SyntaxRefused.TheVariants.{Fault}
use Rattle.ksh_run.specs.Texts.{source_line, syntax_line, usage_line}
use Rattle.kernel_ask.specs.Seen.{Seen}
use Rattle.ksh_parser.specs.declared.refused.Unparsed.{Unparsed}
use Rattle.ksh_parser.specs.declared.refused.Unparsed.TheVariants as unparsed
use Rattle.ksh_program.specs.Program.{IsProgram}
use Rattle.ksh_run.specs.Script.{IsText}
use Rattle.ksh_run.specs.Checks.{ChecksBy, ChecksPlan, ChecksText, RefusesBy, RefusesText}
use Rattle.ksh_run.specs.declared.check.Checked.{Checked}
use Rattle.ksh_run.specs.declared.check.Checked.TheVariants.{Fine, Refused}
use Rattle.ksh_run.specs.Top.{EndsBoth, EndsBy, EndsCheck, EndsList, EndsPlan, EndsText, HasRoot, IsFine, IsLost, IsRun, IsUnasked, RanOut, Refuses}
use Rattle.ksh_run.specs.declared.ended.Ended.{Ended}
use Rattle.ksh_run.specs.declared.ended.Why.{Why}
use Rattle.ksh_run.specs.declared.ended.Why.TheVariants.{Meant, Usage, Syntax, SourceFault, Spent, Memory}
use Rattle.ksh_script.specs.declared.tree.Item.{Item}
use Rattle.shell_family.specs.Told.{ForTold}
use Rattle.shell_state.specs.declared.start.Start.{Start}
use Rattle.shell_thread.specs.declared.album.ShellEnd.{ShellEnd}
use Rattle.shell_thread.specs.declared.album.ShellStop.TheVariants as stop

module _ {Po A : Type 0} (sees : Po → Seen Start) where
  has_weaker : (P Q : ShellEnd Po A → Type 0) (root : Option (ShellEnd Po A)) → ((e : ShellEnd Po A) → P e → Q e) → HasRoot sees root P → HasRoot sees root Q
  has_weaker P Q None f h = h
  has_weaker P Q (Some e) f h = f e h

  has_told : (P Q : ShellEnd Po A → Type 0) (root : Option (ShellEnd Po A)) → ((e : ShellEnd Po A) → P e → Q e) → HasRoot sees root P → ForTold root Q
  has_told P Q None f h = absurd h
  has_told P Q (Some e) f h = f e h

  -- memory ran out before anything was asked
  by_lost : (words : List (List ℕ)) (left : Option (List ℕ)) (before now : ℕ) (why : Why) (status : ℕ) (root : Option (ShellEnd Po A)) → IsLost sees why status root
      → EndsBy sees words left before now why status root
  by_lost words left before now why status root h =
      rw h.0 (h.1, has_told (λ e. (e.stop ≡ stop.Before) × ForTold (sees e.port).done (λ es. es ≡ [])) (RanOut sees words left before now) root (λ e l. inl l) h.2)

  -- the list was run
  by_list : (words : List (List ℕ)) (plan : Plan) (left : Option (List ℕ)) (before now : ℕ) (text : List ℕ) (list : List Item) (why : Why) (status : ℕ) (e : ShellEnd Po A)
      → words_plan words ≡ Ok plan → now ≡ before → IsText plan.script left text → plan.check ≡ false → IsProgram text list → EndsList sees plan.budget list why status e
      → EndsBy sees words left before now why status (Some e)
  by_list words plan left before now text list Meant status e planned kept is_text check script l =
      inl (l.0, l.1, record { list = list; has = record { plan = plan; planned = planned; kept = kept; text = text; is_text = is_text; so = (check, script, l.2) } })
  by_list words plan left before now text list Spent status e planned kept is_text check script l =
      (l.0, (l.1, record { list = list; has = record { plan = plan; planned = planned; kept = kept; text = text; is_text = is_text; so = (check, script, l.2) } }))
  by_list words plan left before now text list Memory status e planned kept is_text check script l =
      (l.0, inr (l.1, record { list = list; has = record { plan = plan; planned = planned; kept = kept; text = text; is_text = is_text; so = (check, script, l.2) } }))
  by_list words plan left before now text list (Usage f) status e planned kept is_text check script l = absurd l
  by_list words plan left before now text list (Syntax f) status e planned kept is_text check script l = absurd l
  by_list words plan left before now text list SourceFault status e planned kept is_text check script l = absurd l

  by_run : (words : List (List ℕ)) (plan : Plan) (left : Option (List ℕ)) (before now : ℕ) (text : List ℕ) (why : Why) (status : ℕ) (root : Option (ShellEnd Po A))
      → words_plan words ≡ Ok plan → now ≡ before → IsText plan.script left text → plan.check ≡ false
      → HasRoot sees root (λ r. (list : List Item) × IsProgram text list × EndsList sees plan.budget list why status r) → EndsBy sees words left before now why status root
  by_run words plan left before now text why status None planned kept is_text check h = absurd h
  by_run words plan left before now text why status (Some e) planned kept is_text check h =
      by_list words plan left before now text h.0 why status e planned kept is_text check h.1 h.2

  -- the text was run or checked alone
  by_both : (check : Bool) (words : List (List ℕ)) (plan : Plan) (left : Option (List ℕ)) (before now : ℕ) (text : List ℕ) (e : Ended Po A)
      → words_plan words ≡ Ok plan → now ≡ before → IsText plan.script left text → plan.check ≡ check → EndsBoth sees check plan.budget text e
      → EndsBy sees words left before now e.why e.status e.root
  by_both true words plan left before now text e planned kept is_text check (inl h) =
      rw h.1.0 (has_weaker (IsUnasked sees)
      (λ r. ((r.stop ≡ stop.Meant) × (r.status ≡ e.status) × IsRun sees words left before now r) ⊎ ((e.status ≡ 0) × IsUnasked sees r × IsFine words left before now)) e.root
      (λ r u. inr (h.1.1, u, record { plan = plan; planned = planned; kept = kept; text = text; is_text = is_text; so = (check, h.0) })) h.1.2)
  by_both true words plan left before now text e planned kept is_text check (inr (inl h)) =
      rw h.2 (record { plan = plan; planned = planned; kept = kept; text = text; is_text = is_text; so = h.1 }, h.3, h.4)
  by_both true words plan left before now text e planned kept is_text check (inr (inr h)) = by_lost words left before now e.why e.status e.root h
  by_both false words plan left before now text e planned kept is_text check (inl h) = by_run words plan left before now text e.why e.status e.root planned kept is_text check h
  by_both false words plan left before now text e planned kept is_text check (inr (inl h)) =
      rw h.2 (record { plan = plan; planned = planned; kept = kept; text = text; is_text = is_text; so = h.1 }, h.3, h.4)
  by_both false words plan left before now text e planned kept is_text check (inr (inr h)) = by_lost words left before now e.why e.status e.root h

  -- how it ends from the plan of the words
  pub by_plan : (words : List (List ℕ)) (plan : Plan) (left : Option (List ℕ)) (before now : ℕ) (e : Ended Po A) → words_plan words ≡ Ok plan → EndsPlan sees plan left before now e
      → EndsBy sees words left before now e.why e.status e.root
  by_plan words plan left before now e planned (inl h) = by_both plan.check words plan left before now h.1.0 e planned h.0 h.1.1 refl h.1.2
  by_plan words plan left before now e planned (inr (inl h)) = rw h.2 (record { plan = plan; planned = planned; file = h.0; failed = h.1 }, h.3, h.4)
  by_plan words plan left before now e planned (inr (inr h)) = by_lost words left before now e.why e.status e.root h

  -- a text that is checked alone and has that fault
  pub refused_check : (text : List ℕ) (f : SyntaxFault) (x : SyntaxRefused) (e : Ended Po A) → x ≡ Fault f → scan.IsRefused text x → Refuses sees (Syntax f) (syntax_line f) 2 e → EndsCheck sees text e
  refused_check text f x e is h (inl r) = inr (inl (f, rw is at h, r.0, r.1, r.2))
  refused_check text f x e is h (inr l) = inr (inr l)

  -- a text that is to be run and has that fault
  pub refused_text : {B : Type 0} (budget : ℕ) (text : List ℕ) (f : SyntaxFault) (r : Result B Unparsed) (x : Unparsed) (e : Ended Po A)
      → ((k : SyntaxFault) → r ≡ Err (unparsed.Fault k) → scan.HasFault text k) → r ≡ Err x → x ≡ unparsed.Fault f → Refuses sees (Syntax f) (syntax_line f) 2 e → EndsText sees budget text e
  refused_text budget text f r x e has is told (inl h) = inr (inl (f, has f (subst (λ u. r ≡ Err u) told is), h.0, h.1, h.2))
  refused_text budget text f r x e has is told (inr l) = inr (inr l)

-- what a check says of a text that was read
refused_by : (words : List (List ℕ)) (plan : Plan) (left : Option (List ℕ)) (before now : ℕ) (text : List ℕ) (status : ℕ) (why : Why) (line : List ℕ)
    → words_plan words ≡ Ok plan → now ≡ before → IsText plan.script left text → RefusesText text status why line → RefusesBy words left before now status why line
refused_by words plan left before now text status (Syntax f) line planned kept is_text h =
    (record { plan = plan; planned = planned; kept = kept; text = text; is_text = is_text; so = h.0 }, h.1, h.2)
refused_by words plan left before now text status (Usage f) line planned kept is_text h = absurd h
refused_by words plan left before now text status SourceFault line planned kept is_text h = absurd h
refused_by words plan left before now text status Meant line planned kept is_text h = absurd h
refused_by words plan left before now text status Spent line planned kept is_text h = absurd h
refused_by words plan left before now text status Memory line planned kept is_text h = absurd h

checked_text : (words : List (List ℕ)) (plan : Plan) (left : Option (List ℕ)) (before now : ℕ) (text : List ℕ) (checked : Checked)
    → words_plan words ≡ Ok plan → now ≡ before → IsText plan.script left text → ChecksText text checked → ChecksBy words left before now checked
checked_text words plan left before now text Fine planned kept is_text h = record { plan = plan; planned = planned; kept = kept; text = text; is_text = is_text; so = h }
checked_text words plan left before now text (Refused status why line) planned kept is_text h = refused_by words plan left before now text status why line planned kept is_text h

-- what a check says of the words, from what it says of their plan
pub checked_plan : (words : List (List ℕ)) (plan : Plan) (left : Option (List ℕ)) (before now : ℕ) (checked : Checked) → words_plan words ≡ Ok plan → ChecksPlan plan left before now checked
    → ChecksBy words left before now checked
checked_plan words plan left before now checked planned (inl h) = checked_text words plan left before now h.1.0 checked planned h.0 h.1.1 h.1.2
checked_plan words plan left before now checked planned (inr h) = rw h.2 (record { plan = plan; planned = planned; file = h.0; failed = h.1 }, refl, refl)

pub checked_words : {E : Type 0} (words : List (List ℕ)) (plan : Plan) (left : Option (List ℕ)) (before now : ℕ) (r : Result Checked E) → words_plan words ≡ Ok plan → IfOk r (ChecksPlan plan left before now)
    → IfOk r (ChecksBy words left before now)
checked_words words plan left before now (Ok c) planned h = checked_plan words plan left before now c planned h
checked_words words plan left before now (Err e) planned h = tt

-- what a check says of a text with that fault
pub faulty_text : {E : Type 0} (text : List ℕ) (f : SyntaxFault) (x : SyntaxRefused) (r : Result Checked E) → x ≡ Fault f → scan.IsRefused text x
    → IfOk r (λ c. c ≡ Refused 2 (Syntax f) (syntax_line f)) → IfOk r (ChecksText text)
faulty_text text f x (Ok c) is h e = rw e (rw is at h, refl, refl)
faulty_text text f x (Err m) is h e = tt

-- a usage fault is told wherever the words have it
same_usage : (words : List (List ℕ)) (status : ℕ) (g f : UsageFault) (line : List ℕ) → words_plan words ≡ Err g → words_plan words ≡ Err f → status ≡ 2 → line ≡ usage_line g
    → Refused status (Usage g) line ≡ Refused 2 (Usage f) (usage_line f)
same_usage words status g f line a b s l = cc

no_plan : (words : List (List ℕ)) (plan : Plan) (f : UsageFault) → words_plan words ≡ Ok plan → words_plan words ≡ Err f → ⊥
no_plan words plan f a b = cc

usage_refused : (words : List (List ℕ)) (left : Option (List ℕ)) (before now status : ℕ) (why : Why) (line : List ℕ) (f : UsageFault) → RefusesBy words left before now status why line
    → words_plan words ≡ Err f → Refused status why line ≡ Refused 2 (Usage f) (usage_line f)
usage_refused words left before now status (Usage g) line f h e = same_usage words status g f line h.0 e h.2 h.3
usage_refused words left before now status SourceFault line f h e = absurd (no_plan words h.0.plan f h.0.planned e)
usage_refused words left before now status (Syntax g) line f h e = absurd (no_plan words h.0.plan f h.0.planned e)
usage_refused words left before now status Meant line f h e = absurd h
usage_refused words left before now status Spent line f h e = absurd h
usage_refused words left before now status Memory line f h e = absurd h

pub usage_told : (words : List (List ℕ)) (left : Option (List ℕ)) (before now : ℕ) (checked : Checked) (f : UsageFault) → ChecksBy words left before now checked → words_plan words ≡ Err f
    → checked ≡ Refused 2 (Usage f) (usage_line f)
usage_told words left before now Fine f h e = absurd (no_plan words h.plan f h.planned e)
usage_told words left before now (Refused status why line) f h e = usage_refused words left before now status why line f h e

-- a failed read is told wherever the source's count changed
same_source : (status : ℕ) (line : List ℕ) → status ≡ 122 → line ≡ source_line → Refused status SourceFault line ≡ Refused 122 SourceFault source_line
same_source status line s l = cc

source_refused : (words : List (List ℕ)) (left : Option (List ℕ)) (before now status : ℕ) (why : Why) (line : List ℕ) → RefusesBy words left before now status why line → (now ≡ before → ⊥)
    → Refused status why line ≡ Refused 122 SourceFault source_line
source_refused words left before now status SourceFault line h rose = same_source status line h.1 h.2
source_refused words left before now status (Usage f) line h rose = absurd (rose h.1)
source_refused words left before now status (Syntax f) line h rose = absurd (rose h.0.kept)
source_refused words left before now status Meant line h rose = absurd h
source_refused words left before now status Spent line h rose = absurd h
source_refused words left before now status Memory line h rose = absurd h

pub source_told : (words : List (List ℕ)) (left : Option (List ℕ)) (before now : ℕ) (checked : Checked) → ChecksBy words left before now checked → (now ≡ before → ⊥)
    → checked ≡ Refused 122 SourceFault source_line
source_told words left before now Fine h rose = absurd (rose h.kept)
source_told words left before now (Refused status why line) h rose = source_refused words left before now status why line h rose
