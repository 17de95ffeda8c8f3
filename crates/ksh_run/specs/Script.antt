-- What the words and the source say of the script's text.
use Rattle.std.specs.Prelude.{◌≡◌, ℕ, List, Option, Ok, take, IfSome}
use Rattle.ksh_base.specs.Words.{words_plan}
use Rattle.ksh_base.specs.declared.words.Plan.{Plan}
use Rattle.ksh_base.specs.declared.words.ScriptFrom.{ScriptFrom}
use Rattle.ksh_base.specs.declared.words.ScriptFrom.TheVariants.{File, Given, Generated}

-- of a file at most this many bytes are taken, one more than a script may have
abbrev pub most_read : ℕ
most_read = 16777217

-- the script is a file's
abbrev pub IsFile : ScriptFrom → Type 0
IsFile (File path) = Unit {0}
IsFile (Given text) = ⊥
IsFile (Generated n) = ⊥

-- the text: the given one, or what the source had left, where it tells it
abbrev pub IsText : ScriptFrom → Option (List ℕ) → List ℕ → Type 0
IsText (Given given) left text = text ≡ given
IsText (File path) left text = IfSome left (λ all. text ≡ take most_read all)
IsText (Generated n) left text = ⊥

-- the words have a plan, no read of the source failed, and this is so of the plan and the text
pub record HasText (words : List (List ℕ)) (left : Option (List ℕ)) (before now : ℕ) (P : Plan → List ℕ → Type 0) : Type 0 where
  pub plan : Plan
  pub planned : words_plan words ≡ Ok plan
  pub kept : now ≡ before
  pub text : List ℕ
  pub is_text : IsText plan.script left text
  pub so : P plan text

-- the words have a plan for a file, and a read of the source failed
pub record HasFailed (words : List (List ℕ)) (before now : ℕ) (rose : Type 0) : Type 0 where
  pub plan : Plan
  pub planned : words_plan words ≡ Ok plan
  pub file : IsFile plan.script
  pub failed : rose
