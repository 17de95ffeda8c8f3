use Rattle.std.proofs.Common.{◌≡◌, length}
use Rattle.kernel_core.specs.Handles.{all_released, reach_of}
use Rattle.kernel_core.proofs.handles.release_all.Given as goal

-- the handles that are left lead to the whole
abbrev pub invariant-loop-held : goal.invariant-loop-held
invariant-loop-held l = all_released (reach_of l.opens l.stores) l.handles ≡ all_released (reach_of l.fn.opens l.fn.stores) l.fn.handles

abbrev pub decreases-loop-held : goal.decreases-loop-held
decreases-loop-held l = length l.handles
