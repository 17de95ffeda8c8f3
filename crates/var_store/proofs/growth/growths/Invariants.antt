use Rattle.std.proofs.Common.{◌≡◌}
use Rattle.var_store.specs.Standing.{standing, Stands}
use Rattle.var_store.specs.Growth.{growths}
use Rattle.var_store.proofs.growth.growths.Given as goal

-- the steps so far have been walked, and what is to be written before them is gathered
abbrev pub invariant-loop-step : goal.invariant-loop-step
invariant-loop-step g l = record {
  at : l.depth ≡ l.step-index;
  gathered : l.writes.items ≡ growths l.rows l.path l.depth;
  stands : Stands l.stands (standing l.rows l.path l.depth);
}
