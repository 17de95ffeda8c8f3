use Rattle.std.proofs.Common.{◌≡◌, ◌-◌, ◌≤◌, ◌++◌, length, vec_len, option_map}
use Rattle.ksh_base.proofs.source.read_script.Given as goal

-- the text and what is left are what was left at first, and no read has failed
abbrev pub invariant-loop-script : goal.invariant-loop-script
invariant-loop-script g l = record {
  taken : g.S.Source.left l.fn.source ≡ option_map (λ rest. l.script ++ rest) (g.S.Source.left l.source);
  within : length l.script ≤ l.limit;
  faults : g.S.Source.faults l.source ≡ g.S.Source.faults l.fn.source;
  room : vec_len l.piece ≡ 65536;
}

abbrev pub decreases-loop-script : goal.decreases-loop-script
decreases-loop-script g l = l.limit - length l.script
