use Rattle.std.proofs.Common.{◌≡◌, drop}
use Rattle.kernel_core.specs.Opening.{files_from, plan_files}
use Rattle.kernel_core.proofs.opening.plan_files.Given as goal

-- the entries that are left lead to the whole
abbrev pub invariant-loop-at : goal.invariant-loop-at
invariant-loop-at l = files_from l.at l.files (drop l.at l.entries) ≡ plan_files l.entries
