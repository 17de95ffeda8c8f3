use Rattle.std.proofs.Common.{◌≡◌, take}
use Rattle.var_types.proofs.path.copy_steps.Given as goal

-- the steps so far are copied
abbrev pub invariant-loop-step : goal.invariant-loop-step
invariant-loop-step l = l.copies ≡ take l.step-index l.steps
