-- What the program's words mean: a plan, or the first fault from the left.
use Rattle.std.specs.Prelude.{◌≡◌, ℕ, ◌+◌, ◌-◌, ◌*◌, ◌^◌, ◌&&◌, Bool, true, false, nat_le, List, [], ◌∷◌, length, take, drop, Option, Some, None, is_some, Result, Ok, Err, if◌then◌else◌, codes}
use Rattle.std.specs.Char.{is_ascii_digit}
use Rattle.std.specs.List.{list_all}
use Rattle.ksh_base.specs.Text.{same_numbers}
use Rattle.ksh_base.specs.declared.words.Options.{Options}
use Rattle.ksh_base.specs.declared.words.Plan.{Plan}
use Rattle.ksh_base.specs.declared.words.ScriptFrom.{ScriptFrom}
use Rattle.ksh_base.specs.declared.words.ScriptFrom.TheVariants.{File, Given, Generated}
use Rattle.ksh_base.specs.declared.words.UsageFault.{UsageFault}
use Rattle.ksh_base.specs.declared.words.UsageKind.{UsageKind}
use Rattle.ksh_base.specs.declared.words.UsageKind.TheVariants.{NoScript, UnknownOption, Repeated, BadNumber, NoArgument}
use Rattle.ksh_base.specs.declared.words.WordsRefused.{WordsRefused}
use Rattle.ksh_base.specs.declared.words.WordsRefused.TheVariants.{Usage, Memory}

-- the number that decimal digits write
abbrev pub written : List ℕ → ℕ
written [] = 0
written (d ∷ ds) = (d - 48) * 10 ^ length ds + written ds

abbrev pub largest_budget : ℕ
largest_budget = 1000000000000000000

abbrev pub default_budget : ℕ
default_budget = 1000000000000

-- decimal digits, at least one, of a number from 1 to the largest budget
abbrev pub is_budget : List ℕ → Bool
is_budget text = list_all is_ascii_digit text && (nat_le 1 (written text) && nat_le (written text) largest_budget)

-- `--budget=` begins the word
abbrev pub is_budget_word : List ℕ → Bool
is_budget_word word = same_numbers (take 9 word) (codes "--budget=")

abbrev pub begins_with_dash : List ℕ → Bool
begins_with_dash [] = false
begins_with_dash (b ∷ bs) = nat_le 45 b && nat_le b 45

-- the public number of a kind
abbrev pub usage_number : UsageKind → ℕ
usage_number NoScript = 1
usage_number UnknownOption = 2
usage_number Repeated = 3
usage_number BadNumber = 4
usage_number NoArgument = 5

abbrev pub Planned : Type 0
Planned = Result Plan UsageFault

-- a fault at a word, counted from 1
abbrev pub fault : UsageKind → ℕ → Planned
fault kind word = Err (record { kind = usage_number kind; word = word })

-- the budget that was asked for, else the one of a run without `--budget`
abbrev pub budget_of : Option ℕ → ℕ
budget_of None = default_budget
budget_of (Some n) = n

abbrev pub planned : Options → ScriptFrom → List ℕ → List (List ℕ) → Planned
planned seen script zero args = Ok (record { check = seen.check; boxed = false; budget = budget_of seen.budget; script = script; zero = zero; args = args })

-- after `-c` at that word: the text, then `$0`, then the arguments
abbrev pub after_c : Options → ℕ → List (List ℕ) → Planned
after_c seen at [] = fault NoArgument at
after_c seen at (text ∷ []) = planned seen (Given text) (codes "kshtree") []
after_c seen at (text ∷ zero ∷ args) = planned seen (Given text) zero args

-- after `--` at that word: the file, which is `$0` too, then the arguments
abbrev pub after_dashes : Options → ℕ → List (List ℕ) → Planned
after_dashes seen at [] = fault NoArgument at
after_dashes seen at (file ∷ args) = planned seen (File file) file args

-- that word, the first that is no option, and the words behind it
abbrev pub script_plan : Options → ℕ → List ℕ → List (List ℕ) → Planned
script_plan seen at word rest =
    if same_numbers word (codes "-c") then after_c seen at rest
    else (if same_numbers word (codes "--") then after_dashes seen at rest
    else (if begins_with_dash word then fault UnknownOption at
    else planned seen (File word) word rest))

-- `--budget=` and this number behind the options that were read
abbrev pub with_budget : Options → List ℕ → Result Options UsageKind
with_budget seen number =
    if is_some seen.budget then Err Repeated
    else (if is_budget number then Ok (record { check = seen.check; budget = Some (written number) }) else Err BadNumber)

-- the options with that of the word, or its fault; None where the word is no option
abbrev pub read_option : Options → List ℕ → Option (Result Options UsageKind)
read_option seen word =
    if same_numbers word (codes "-n") then Some (if seen.check then Err Repeated else Ok (record { check = true; budget = seen.budget }))
    else (if is_budget_word word then Some (with_budget seen (drop 9 word)) else None)

-- what follows a word: the plan with its option, its fault, or the script's plan
abbrev pub behind_option : (Options → Planned) → ℕ → Planned → Option (Result Options UsageKind) → Planned
behind_option go at script (Some (Ok next)) = go next
behind_option go at script (Some (Err kind)) = fault kind at
behind_option go at script None = script

-- the words from that one on, behind the options that were read
abbrev pub options_plan : Options → ℕ → List (List ℕ) → Planned
options_plan seen at [] = fault NoScript at
options_plan seen at (word ∷ rest) = behind_option (λ next. options_plan next (at + 1) rest) at (script_plan seen at word rest) (read_option seen word)

-- all the words
abbrev pub words_plan : List (List ℕ) → Planned
words_plan words = options_plan (record { check = false; budget = None }) 1 words

-- the place of the word behind the options, each of which is one word
abbrev pub word_behind : Options → ℕ
word_behind seen = 1 + (if seen.check then 1 else 0) + (if is_some seen.budget then 1 else 0)

-- what a function answered is what the words mean, unless memory ran out
abbrev pub AnswersPlan : Result Plan WordsRefused → Planned → Type 0
AnswersPlan (Ok p) means = means ≡ Ok p
AnswersPlan (Err (Usage f)) means = means ≡ Err f
AnswersPlan (Err Memory) means = Unit {0}

-- no words ask for the generator yet
abbrev pub IsKnown : ScriptFrom → Type 0
IsKnown (File path) = Unit {0}
IsKnown (Given text) = Unit {0}
IsKnown (Generated n) = ⊥
