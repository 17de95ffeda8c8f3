use Rattle.std.proofs.Common.{◌≡◌}
use Rattle.kernel_core.specs.Forks.{all_retained}
use Rattle.kernel_core.proofs.forks.retain_all.Given as goal

-- the handles that are left lead to the whole
abbrev pub invariant-loop-held : goal.invariant-loop-held
invariant-loop-held l = all_retained l.held-iterator l.opens ≡ all_retained l.fn.handles l.fn.opens
