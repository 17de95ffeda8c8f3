use Rattle.std.proofs.Common.{ℕ, ◌+◌, ◌-◌, ◌*◌, drop}
use Rattle.ksh_arith.specs.Asks.{Performs, Serves}
use Rattle.ksh_arith.specs.Meaning.{chain_from, meaning_at, reads_by}
use Rattle.ksh_arith.proofs.Serving.{Left}
use Rattle.ksh_arith.proofs.eval.+eval.Given as goal

-- a text that is read stands above all that is done while it is read, each of 256 levels with room for the functions of one
abbrev base : ℕ → ℕ
base depth = (16 - depth) * 3000

abbrev pub decreases-read_text : goal.decreases-read_text
decreases-read_text g l = base l.depth

abbrev pub decreases-read : goal.decreases-read
decreases-read g l = base l.depth + 1

abbrev pub decreases-step_settled : goal.decreases-step_settled
decreases-step_settled g l = base l.depth + 2

abbrev pub decreases-eval_step : goal.decreases-eval_step
decreases-eval_step g l = base l.depth + 3

abbrev pub decreases-eval : goal.decreases-eval
decreases-eval g l = base l.depth + 4 + l.levels * 10

abbrev pub decreases-eval_truth : goal.decreases-eval_truth
decreases-eval_truth g l = base l.depth + 5 + l.levels * 10

abbrev pub decreases-eval_link : goal.decreases-eval_link
decreases-eval_link g l = base l.depth + 6 + l.levels * 10

abbrev pub decreases-eval_links : goal.decreases-eval_links
decreases-eval_links g l = base l.depth + 7 + l.levels * 10

abbrev pub decreases-eval_power : goal.decreases-eval_power
decreases-eval_power g l = base l.depth + 5 + l.levels * 10

abbrev pub decreases-update_settled : goal.decreases-update_settled
decreases-update_settled g l = base l.depth + 5 + l.levels * 10

abbrev pub decreases-eval_assign : goal.decreases-eval_assign
decreases-eval_assign g l = base l.depth + 6 + l.levels * 10

-- whatever serves the links that are left serves them all
abbrev pub invariant-eval_links-loop-link : goal.invariant-eval_links-loop-link
invariant-eval_links-loop-link g l = record {
  left : Left (Performs g.V.FnMut) (l.fn.vars, (l.fn.rest, l.fn.state)) (l.vars, (l.rest, l.state)) (chain_from (reads_by (16 - l.depth)) l.depth (meaning_at l.depth l.levels) l.fn.links l.fn.first) (chain_from (reads_by (16 - l.depth)) l.depth (meaning_at l.depth l.levels) (drop l.link-index l.links) l.value);
  ready : Serves g.V.FnMut (l.vars, (l.rest, l.state));
}
