-- How a run ends, by its cause.
use Rattle.std.specs.Prelude.{◌≡◌, ◌⊎◌, ℕ, Bool, true, false, List, [], ◌∷◌, Option, Some, None, Err}
use Rattle.kernel_ask.specs.Seen.{Seen}
use Rattle.kernel_ask.specs.declared.ask.Answer.{Answer}
use Rattle.kernel_ask.specs.declared.ask.Ask.TheVariants.{Asked}
use Rattle.ksh_base.specs.Source.{Rose}
use Rattle.ksh_base.specs.Words.{words_plan}
use Rattle.ksh_base.specs.declared.words.Plan.{Plan}
use Rattle.ksh_meaning.specs.Output.{write}
use Rattle.ksh_lexer.specs.declared.fault.SyntaxFault.{SyntaxFault}
use Rattle.ksh_program.specs.Program.{IsProgram}
use Rattle.ksh_scan.specs.Scan as scan
use Rattle.ksh_run.specs.Script.{HasText, HasFailed, IsFile, IsText}
use Rattle.ksh_run.specs.Texts.{source_line, syntax_line, usage_line}
use Rattle.ksh_run.specs.declared.ended.Ended.{Ended}
use Rattle.ksh_run.specs.declared.ended.Why.{Why}
use Rattle.ksh_run.specs.declared.ended.Why.TheVariants.{Meant, Usage, Syntax, SourceFault, Spent, Memory}
use Rattle.ksh_script.specs.declared.tree.Item.{Item}
use Rattle.shell_family.specs.Family.{Family}
use Rattle.shell_family.specs.Meaning.{RunTold}
use Rattle.shell_family.specs.Told.{ForTold, from}
use Rattle.shell_state.specs.State.{root_state}
use Rattle.shell_state.specs.declared.start.Start.{Start}
use Rattle.shell_thread.specs.declared.album.ShellEnd.{ShellEnd}
use Rattle.shell_thread.specs.declared.album.ShellStop.{ShellStop}
use Rattle.shell_thread.specs.declared.album.ShellStop.TheVariants as stop

-- what the root begins with
abbrev pub root_start : Plan → List Item → Start
root_start plan list = record { state = root_state plan.budget; body = list }

-- a root's port as it comes from a world
pub record IsFresh (s : Seen Start) : Type 0 where
  pub live : s.live ≡ true
  pub name : s.name ≡ []
  pub children : s.children ≡ []
  pub done : ForTold s.done (λ es. es ≡ [])

-- why a run ended whose root ran and stopped so
abbrev pub why_of : ShellStop → Why
why_of stop.Meant = Meant
why_of stop.Spent = Spent
why_of _ = Memory

-- the words have `-n` and no fault, and the text is a script
abbrev pub IsFine : List (List ℕ) → Option (List ℕ) → ℕ → ℕ → Type 0
IsFine words left before now = HasText words left before now (λ plan text. (plan.check ≡ true) × scan.IsText text)

module _ {Po A : Type 0} (sees : Po → Seen Start) where
  -- the shell ended before its list began, and all that it asked was one Write of the text on handle 2
  pub record IsRefused (line : List ℕ) (status : ℕ) (e : ShellEnd Po A) : Type 0 where
    pub stop : e.stop ≡ stop.Before
    pub status_is : e.status ≡ status
    pub asked : ForTold (sees e.port).done (λ es. (answer : Answer) × (es ≡ record { ask = Asked (write 2 line); answer = answer } ∷ []))

  -- the shell ended before its list began, with status 0, and asked nothing
  pub record IsUnasked (e : ShellEnd Po A) : Type 0 where
    pub stop : e.stop ≡ stop.Before
    pub status_is : e.status ≡ 0
    pub asked : ForTold (sees e.port).done (λ es. es ≡ [])

  -- the words have no fault and no `-n`, the text is a script, and the shell is a run of its commands
  pub record IsRun (words : List (List ℕ)) (left : Option (List ℕ)) (before now : ℕ) (e : ShellEnd Po A) : Type 0 where
    pub list : List Item
    pub has : HasText words left before now (λ plan text. (plan.check ≡ false) × IsProgram text list × RunTold (root_start plan list) (sees e.port).done e.stop e.status)

  -- memory ran out: before the list began and before anything was asked, or in a run of the list
  abbrev pub RanOut : List (List ℕ) → Option (List ℕ) → ℕ → ℕ → ShellEnd Po A → Type 0
  RanOut words left before now e =
      ((e.stop ≡ stop.Before) × ForTold (sees e.port).done (λ es. es ≡ [])) ⊎ ((e.stop ≡ stop.Memory) × IsRun words left before now e)

  abbrev pub HasRoot : Option (ShellEnd Po A) → (ShellEnd Po A → Type 0) → Type 0
  HasRoot None P = ⊥
  HasRoot (Some e) P = P e

  -- Why a run ended so, with what status, and what the root then is. `left` is what the source had left, where it
  -- tells it, and `before` and `now` count its faults.
  abbrev pub EndsBy : List (List ℕ) → Option (List ℕ) → ℕ → ℕ → Why → ℕ → Option (ShellEnd Po A) → Type 0
  EndsBy words left before now (Usage f) status root =
      (words_plan words ≡ Err f) × (status ≡ 2) × HasRoot root (IsRefused (usage_line f) 2)
  EndsBy words left before now SourceFault status root =
      HasFailed words before now (Rose before now) × (status ≡ 122) × HasRoot root (IsRefused source_line 122)
  EndsBy words left before now (Syntax f) status root =
      HasText words left before now (λ plan text. scan.HasFault text f) × (status ≡ 2) × HasRoot root (IsRefused (syntax_line f) 2)
  EndsBy words left before now Meant status root =
      HasRoot root (λ e. ((e.stop ≡ stop.Meant) × (e.status ≡ status) × IsRun words left before now e) ⊎ ((status ≡ 0) × IsUnasked e × IsFine words left before now))
  EndsBy words left before now Spent status root =
      (status ≡ 123) × HasRoot root (λ e. (e.stop ≡ stop.Spent) × IsRun words left before now e)
  EndsBy words left before now Memory status root =
      (status ≡ 121) × ForTold root (RanOut words left before now)

  -- The root's end, whatever came: its name is empty, its port isn't live, is of the world and tells where that tells, and
  -- every end in its album, at any depth, is of the family.
  pub record IsRoot {P : Type 0} (list : A → Option (List (ShellEnd Po A))) (faults : P → ℕ) (world : ℕ × Bool) (e : ShellEnd Po A) : Type 0 where
    pub name : e.name ≡ []
    pub over : (sees e.port).live ≡ false
    pub port_name : (sees e.port).name ≡ []
    pub of : from (sees e.port) ≡ world
    pub family : Family sees list faults e

  -- memory ran out before anything was asked
  abbrev pub IsLost : Why → ℕ → Option (ShellEnd Po A) → Type 0
  IsLost why status root = (why ≡ Memory) × (status ≡ 121) × HasRoot root (λ e. (e.stop ≡ stop.Before) × ForTold (sees e.port).done (λ es. es ≡ []))

  -- refused with this text, unless memory ran out first
  abbrev pub Refuses : Why → List ℕ → ℕ → Ended Po A → Type 0
  Refuses why line status e = ((e.why ≡ why) × (e.status ≡ status) × HasRoot e.root (IsRefused line status)) ⊎ IsLost e.why e.status e.root

  -- checked alone, and without a fault
  abbrev pub Passes : Ended Po A → Type 0
  Passes e = (e.why ≡ Meant) × (e.status ≡ 0) × HasRoot e.root IsUnasked

  -- how a run of the list ends
  abbrev pub EndsList : ℕ → List Item → Why → ℕ → ShellEnd Po A → Type 0
  EndsList budget list Meant status e = (e.stop ≡ stop.Meant) × (e.status ≡ status) × RunTold (record { state = root_state budget; body = list }) (sees e.port).done e.stop e.status
  EndsList budget list Spent status e = (status ≡ 123) × (e.stop ≡ stop.Spent) × RunTold (record { state = root_state budget; body = list }) (sees e.port).done e.stop e.status
  EndsList budget list Memory status e = (status ≡ 121) × (e.stop ≡ stop.Memory) × RunTold (record { state = root_state budget; body = list }) (sees e.port).done e.stop e.status
  EndsList budget list _ status e = ⊥

  abbrev pub EndsRun : ℕ → List Item → Ended Po A → Type 0
  EndsRun budget list e = HasRoot e.root (EndsList budget list e.why e.status) ⊎ IsLost e.why e.status e.root

  -- how it ends from a text: a run of the tree, a refusal where there is none, or memory ran out
  abbrev pub EndsText : ℕ → List ℕ → Ended Po A → Type 0
  EndsText budget text e =
      HasRoot e.root (λ r. (list : List Item) × IsProgram text list × EndsList budget list e.why e.status r)
      ⊎ (((f : SyntaxFault) × scan.HasFault text f × (e.why ≡ Syntax f) × (e.status ≡ 2) × HasRoot e.root (IsRefused (syntax_line f) 2))
      ⊎ IsLost e.why e.status e.root)

  -- how it ends from a text that is checked alone: it has no fault, or is refused with its first, or memory ran out
  abbrev pub EndsCheck : List ℕ → Ended Po A → Type 0
  EndsCheck text e =
      (scan.IsText text × Passes e)
      ⊎ (((f : SyntaxFault) × scan.HasFault text f × (e.why ≡ Syntax f) × (e.status ≡ 2) × HasRoot e.root (IsRefused (syntax_line f) 2))
      ⊎ IsLost e.why e.status e.root)

  -- how it ends from a plan's text
  abbrev pub EndsBoth : Bool → ℕ → List ℕ → Ended Po A → Type 0
  EndsBoth true budget text e = EndsCheck text e
  EndsBoth false budget text e = EndsText budget text e

  -- how it ends from a plan
  abbrev pub EndsPlan : Plan → Option (List ℕ) → ℕ → ℕ → Ended Po A → Type 0
  EndsPlan plan left before now e =
      ((now ≡ before) × ((text : List ℕ) × IsText plan.script left text × EndsBoth plan.check plan.budget text e))
      ⊎ ((IsFile plan.script × Rose before now × (e.why ≡ SourceFault) × (e.status ≡ 122) × HasRoot e.root (IsRefused source_line 122))
      ⊎ IsLost e.why e.status e.root)
