use Rattle.std.proofs.Common.{◌≡◌, drop, []}
use Rattle.kernel_core.specs.Forks.{kept_from}
use Rattle.kernel_core.proofs.forks.kept.Given as goal

-- what is left to keep decides as the whole
abbrev pub invariant-loop-handle : goal.invariant-loop-handle
invariant-loop-handle l = kept_from l.held (drop l.handle-index l.keep) l.kept ≡ kept_from l.held l.keep []
