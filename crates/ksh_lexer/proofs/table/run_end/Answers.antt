use Rattle.std.proofs.Common.{rules, sym}
use Rattle.ksh_lexer.specs.Begin.{runs}
use Rattle.ksh_lexer.proofs.Runs.{more}
use Rattle.ksh_lexer.proofs.table.run_end.Goals as goal

-- src/table.rt:78:5
pub loop-end-preserved : goal.loop-end-preserved
loop-end-preserved c = record {
  ordered = search rules;
  within = search rules;
  each = more (runs c.args.mode) _ _ _ c.loop-end.invariant.each (sym c.if-runs.ensures);
}
