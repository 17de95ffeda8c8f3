-- The texts that a shell writes on descriptor 2, without the newline at the end.
use Rattle.std.specs.Prelude.{ℕ, List, [], ◌∷◌, ◌++◌, codes, decimal}
use Rattle.kernel_ask.specs.declared.ask.Refusal.{Refusal}
use Rattle.kernel_ask.specs.declared.ask.Refusal.TheVariants.{NoEntry, NotDir, IsDir, Exists, Denied, BadHandle, Broken, Io, TooMany}
use Rattle.var_store.specs.declared.faults.VarFault.{VarFault}
use Rattle.var_store.specs.declared.faults.VarFault.TheVariants.{NoParent, ReadOnly, NotArray, SubscriptRange, NotAName, WrongKind, Memory}

abbrev pub newline : List ℕ
newline = 10 ∷ []

-- the words of a refusal
abbrev pub refusal_words : Refusal → List ℕ
refusal_words NoEntry = codes "no entry"
refusal_words NotDir = codes "not a directory"
refusal_words IsDir = codes "is a directory"
refusal_words Exists = codes "exists"
refusal_words Denied = codes "denied"
refusal_words BadHandle = codes "bad handle"
refusal_words Broken = codes "broken"
refusal_words Io = codes "refused"
refusal_words TooMany = codes "too many"

-- a line of text from the command of that line of the script
abbrev pub fault_line : ℕ → List ℕ → List ℕ
fault_line line words = codes "kshtree: line " ++ decimal line ++ codes ": " ++ words ++ newline

-- that an ask of this name was refused
abbrev pub refused_words : List ℕ → Refusal → List ℕ
refused_words name r = name ++ codes ": " ++ refusal_words r

-- the words of a fault of a variable; no change means Memory, for want of which a shell stops
abbrev pub var_fault_words : VarFault → List ℕ
var_fault_words NoParent = codes "no parent"
var_fault_words ReadOnly = codes "is read only"
var_fault_words NotArray = codes "not an array"
var_fault_words SubscriptRange = codes "subscript out of range"
var_fault_words NotAName = codes "not a name"
var_fault_words WrongKind = codes "wrong kind"
var_fault_words Memory = codes "out of memory"

-- that a change of this variable was refused
abbrev pub var_refused_words : List ℕ → VarFault → List ℕ
var_refused_words name f = name ++ codes ": " ++ var_fault_words f
