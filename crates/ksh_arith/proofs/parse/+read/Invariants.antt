use Rattle.std.proofs.Common.{◌≡◌, ◌≤◌, ◌+◌, ◌-◌, ◌*◌, [], length, Ok}
use Rattle.ksh_arith.specs.Grammar.{at_level, links_read, read_by, height_of}
use Rattle.ksh_arith.proofs.parse.+read.Given as goal

abbrev pub decreases-read : goal.decreases-read
decreases-read l = l.levels * 40 + 20

abbrev pub decreases-read_signed : goal.decreases-read_signed
decreases-read_signed l = l.levels * 40 + 15

abbrev pub decreases-read_operand : goal.decreases-read_operand
decreases-read_operand l = l.levels * 40 + 14

abbrev pub decreases-read_parentheses : goal.decreases-read_parentheses
decreases-read_parentheses l = l.levels * 40 + 13

abbrev pub decreases-read_behind : goal.decreases-read_behind
decreases-read_behind l = l.levels * 40 + 19

abbrev pub decreases-power_behind : goal.decreases-power_behind
decreases-power_behind l = l.levels * 40 + 18

abbrev pub decreases-choice_behind : goal.decreases-choice_behind
decreases-choice_behind l = l.levels * 40 + 18

abbrev pub decreases-choose : goal.decreases-choose
decreases-choose l = l.levels * 40 + 17

abbrev pub decreases-assign_behind : goal.decreases-assign_behind
decreases-assign_behind l = l.levels * 40 + 18

abbrev pub decreases-assign : goal.decreases-assign
decreases-assign l = l.levels * 40 + 17

abbrev pub decreases-read_links : goal.decreases-read_links
decreases-read_links l = l.levels * 40 + 18

-- what was read so far is what is read up to that level
abbrev pub invariant-read-loop-from : goal.invariant-read-loop-from
invariant-read-loop-from l = record {
  so_far : at_level l.levels (read_by (l.levels - 1)) l.from l.fn.text ≡ Ok (l.part, l.rest);
  low : height_of l.part ≤ l.levels + 2;
  within : l.from ≤ l.level;
}

abbrev pub decreases-read-loop-from : goal.decreases-read-loop-from
decreases-read-loop-from l = l.level - l.from

-- the links that are left stand behind those so far
abbrev pub invariant-read_links-loop-left : goal.invariant-read_links-loop-left
invariant-read_links-loop-left l = record {
  left : links_read l.levels (read_by (l.levels - 1)) (length l.fn.text) l.level l.tighter l.fn.first [] (height_of l.fn.first) l.fn.text
      ≡ links_read l.levels (read_by (l.levels - 1)) l.left l.level l.tighter l.fn.first l.links l.height l.rest;
  same : l.first ≡ l.fn.first;
  low : l.height ≤ l.levels + 2;
  chain : (l.links ≡ [] → ⊥) → l.height ≤ l.levels + 1;
}

abbrev pub decreases-read_links-loop-left : goal.decreases-read_links-loop-left
decreases-read_links-loop-left l = l.left
