-- What a check of the words and the script says, by its cause.
use Rattle.std.specs.Prelude.{◌≡◌, ◌⊎◌, ℕ, List, Option, Err}
use Rattle.ksh_base.specs.Source.{Rose}
use Rattle.ksh_base.specs.Words.{words_plan}
use Rattle.ksh_base.specs.declared.words.Plan.{Plan}
use Rattle.ksh_run.specs.Script.{HasFailed, HasText, IsFile, IsText}
use Rattle.ksh_run.specs.Texts.{source_line, syntax_line, usage_line}
use Rattle.ksh_run.specs.declared.check.Checked.{Checked}
use Rattle.ksh_run.specs.declared.check.Checked.TheVariants.{Fine, Refused}
use Rattle.ksh_run.specs.declared.ended.Why.{Why}
use Rattle.ksh_run.specs.declared.ended.Why.TheVariants.{Usage, Syntax, SourceFault}
use Rattle.ksh_scan.specs.Scan as scan

-- of a text: it is a script, or this is its first fault
abbrev pub RefusesText : List ℕ → ℕ → Why → List ℕ → Type 0
RefusesText text status (Syntax f) line = scan.HasFault text f × (status ≡ 2) × (line ≡ syntax_line f)
RefusesText text status _ line = ⊥

abbrev pub ChecksText : List ℕ → Checked → Type 0
ChecksText text Fine = scan.IsText text
ChecksText text (Refused status why line) = RefusesText text status why line

-- of a plan: its text was read and checked, or a read failed
abbrev pub ChecksPlan : Plan → Option (List ℕ) → ℕ → ℕ → Checked → Type 0
ChecksPlan plan left before now checked =
    ((now ≡ before) × ((text : List ℕ) × IsText plan.script left text × ChecksText text checked))
    ⊎ (IsFile plan.script × Rose before now × (checked ≡ Refused 122 SourceFault source_line))

-- Why a check refused, with what status and line. `left` is what the source had left, where it tells it, and `before` and `now`
-- count its faults.
abbrev pub RefusesBy : List (List ℕ) → Option (List ℕ) → ℕ → ℕ → ℕ → Why → List ℕ → Type 0
RefusesBy words left before now status (Usage f) line = (words_plan words ≡ Err f) × (now ≡ before) × (status ≡ 2) × (line ≡ usage_line f)
RefusesBy words left before now status SourceFault line = HasFailed words before now (Rose before now) × (status ≡ 122) × (line ≡ source_line)
RefusesBy words left before now status (Syntax f) line = HasText words left before now (λ plan text. scan.HasFault text f) × (status ≡ 2) × (line ≡ syntax_line f)
RefusesBy words left before now status _ line = ⊥

-- fine: the words have no fault, no read failed and the text is a script
abbrev pub ChecksBy : List (List ℕ) → Option (List ℕ) → ℕ → ℕ → Checked → Type 0
ChecksBy words left before now Fine = HasText words left before now (λ plan text. scan.IsText text)
ChecksBy words left before now (Refused status why line) = RefusesBy words left before now status why line
