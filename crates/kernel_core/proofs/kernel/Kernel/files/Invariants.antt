use Rattle.std.proofs.Common.{◌≡◌, ◌++◌}
use Rattle.kernel_core.specs.Opening.{files_in}
use Rattle.kernel_core.proofs.kernel.Kernel.files.Given as goal

-- the files so far, and those in the rows that are left
abbrev pub invariant-loop-path : goal.invariant-loop-path
invariant-loop-path l = l.files ++ files_in l.path-iterator ≡ files_in l.self.stores.files
