-- What a path stands for: the longest front of it that is a reference row is replaced by the end of that row's chain.
use Rattle.std.specs.Prelude.{◌≡◌, ℕ, ◌+◌, ◌≤◌, true, false, List, [], take, drop, length, ◌⊎◌}
use Rattle.var_types.specs.declared.path.Path.{Path}
use Rattle.var_types.specs.declared.path.Step.{Step}
use Rattle.var_types.specs.Rows.{Rows}
use Rattle.ksh_nameref.specs.Chains.{is_reference, is_blind, row_is, EndsAt, ComesBack}
use Rattle.ksh_nameref.specs.declared.fault.RefFault.{RefFault}
use Rattle.ksh_nameref.specs.declared.fault.RefFault.TheVariants.{Loop, NoTarget, Memory}

-- the path's first steps alone
abbrev pub front : Path → ℕ → Path
front path n = record { scope = path.scope; name = path.name; steps = take n path.steps }

-- no front of so many steps or more is a reference row
abbrev pub NoneFrom : {H : Type 0} → Rows H → Path → ℕ → Type 0
NoneFrom rows path n = (m : ℕ) → n ≤ m → m ≤ length path.steps → row_is is_reference rows (front path m) ≡ false

-- the longest front that is a reference row has so many steps
pub record IsLongest {H : Type 0} (rows : Rows H) (path : Path) (n : ℕ) : Type 0 where
  pub within : n ≤ length path.steps
  pub is : row_is is_reference rows (front path n) ≡ true
  pub longest : NoneFrom rows path (n + 1)

-- the path as it is
pub record IsItself {H : Type 0} (rows : Rows H) (path base : Path) (rest : List Step) : Type 0 where
  pub none : NoneFrom rows path 0
  pub same : base ≡ path
  pub nothing : rest ≡ []

-- the end of a chain, which isn't a reference without a target, and the steps behind the front
pub record IsByReference {H : Type 0} (rows : Rows H) (path base : Path) (rest : List Step) : Type 0 where
  pub steps : ℕ
  pub longest : IsLongest rows path steps
  pub ends : EndsAt rows (front path steps) base
  pub seen : row_is is_blind rows base ≡ false
  pub behind : rest ≡ drop steps path.steps

abbrev pub IsTarget : {H : Type 0} → Rows H → Path → Path → List Step → Type 0
IsTarget rows path base rest = IsItself rows path base rest ⊎ IsByReference rows path base rest

-- the chain ends in a reference without a target
pub record HasNoTarget {H : Type 0} (rows : Rows H) (from : Path) : Type 0 where
  pub last : Path
  pub ends : EndsAt rows from last
  pub blind : row_is is_blind rows last ≡ true

-- the cause of a fault in a chain
abbrev pub ChainHasCause : {H : Type 0} → Rows H → Path → RefFault → Type 0
ChainHasCause rows from Loop = ComesBack rows from
ChainHasCause rows from NoTarget = HasNoTarget rows from
ChainHasCause rows from Memory = Unit {0}

abbrev pub HasCause : {H : Type 0} → Rows H → Path → RefFault → Type 0
HasCause rows path Memory = Unit {0}
HasCause rows path fault = (n : ℕ) × IsLongest rows path n × ChainHasCause rows (front path n) fault
