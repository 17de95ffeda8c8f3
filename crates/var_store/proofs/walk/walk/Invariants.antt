use Rattle.std.proofs.Common.{◌≡◌}
use Rattle.var_store.specs.Standing.{standing, Stands}
use Rattle.var_store.specs.Faults.{path_faults}
use Rattle.var_store.proofs.walk.walk.Given as goal

-- the steps so far have been walked
abbrev pub invariant-loop-step : goal.invariant-loop-step
invariant-loop-step g l = record {
  at : l.depth ≡ l.step-index;
  faults : l.faults ≡ path_faults l.rows l.path l.depth;
  stands : Stands l.stands (standing l.rows l.path l.depth);
}
