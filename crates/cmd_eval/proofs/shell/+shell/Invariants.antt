use Rattle.std.proofs.Common.{◌≡◌, ◌+◌, ◌-◌, ◌*◌, ◌≤◌, ℕ, drop}
use Rattle.ksh_meaning.specs.Mean.{list_of, work}
use Rattle.ksh_meaning.specs.Remains.{Remains}
use Rattle.shell_family.specs.Family.{left, below}
use Rattle.shell_family.specs.Fits.{IsShell, Stays, IsJoining, IsSame}
use Rattle.shell_family.proofs.Shells.{Turned}
use Rattle.cmd_eval.proofs.shell.+shell.Given as goal

abbrev pub decreases-settle : goal.decreases-settle
decreases-settle g l = below l.level

abbrev pub decreases-join_at : goal.decreases-join_at
decreases-join_at g l = below l.level + 1

abbrev pub decreases-join_all : goal.decreases-join_all
decreases-join_all g l = below l.level + 2

abbrev pub decreases-begin : goal.decreases-begin
decreases-begin g l = below l.level + 1

abbrev pub decreases-begin-work : goal.decreases-begin-work
decreases-begin-work g l = left l.job.start.state + 4

abbrev pub decreases-join_job : goal.decreases-join_job
decreases-join_job g l = left l.handle.job.value.start.state + 4

abbrev pub decreases-run_job : goal.decreases-run_job
decreases-run_job g l = left l.job.start.state + 3

abbrev pub decreases-wait_last : goal.decreases-wait_last
decreases-wait_last g l = left l.state.now + 2

abbrev pub decreases-run_child : goal.decreases-run_child
decreases-run_child g l = left l.state.now + 3

abbrev pub decreases-fork_shell : goal.decreases-fork_shell
decreases-fork_shell g l = left l.state.now + 4

abbrev pub decreases-eval_subshell : goal.decreases-eval_subshell
decreases-eval_subshell g l = left l.state.now + 5

abbrev pub decreases-eval_item : goal.decreases-eval_item
decreases-eval_item g l = left l.state.now

abbrev pub decreases-eval_list : goal.decreases-eval_list
decreases-eval_list g l = left l.state.now + 1

abbrev pub decreases-do_task : goal.decreases-do_task
decreases-do_task g l = left l.state.now + 2

abbrev pub decreases-eval_builtin-ctx : goal.decreases-eval_builtin-ctx
decreases-eval_builtin-ctx g l = below l.level + l.limit * 16 + 3

abbrev pub decreases-eval_builtin : goal.decreases-eval_builtin
decreases-eval_builtin g l = left l.state.now + 4

abbrev pub decreases-eval_print : goal.decreases-eval_print
decreases-eval_print g l = left l.state.now + 5

abbrev pub decreases-eval_form : goal.decreases-eval_form
decreases-eval_form g l = left l.state.now + 6

abbrev pub invariant-eval_list-loop-item : goal.invariant-eval_list-loop-item
invariant-eval_list-loop-item g l = record {
  shell : IsShell g.Po.Port.sees g.A.Album.list g.P.Spawner.faults g.A.Album.spare l.fn.state.level l.shell;
  stays : Stays g.Po.Port.sees g.P.Spawner.faults l.initial.shell l.shell;
  level : l.state.level ≡ l.fn.state.level;
  budget : l.state.budget ≤ l.fn.state.budget;
  remains : Remains l.fn.state.budget l.state.budget (g.Po.Port.sees l.initial.shell.port).done (g.Po.Port.sees l.shell.port).done (λ n. list_of (work n) l.fn.list l.fn.state) (λ n. list_of (work n) (drop l.item-index l.list) l.state);
}

abbrev pub invariant-join_all-loop-turn : goal.invariant-join_all-loop-turn
invariant-join_all-loop-turn g l =
    IsJoining g.Po.Port.sees g.A.Album.list g.P.Spawner.faults g.A.Album.spare l.level (g.Po.Port.sees l.initial.shell.port) l.shell.album l.shell.handles.items
    × IsSame l.initial.shell l.shell
    × Turned g.row.Po.Denot g.row.P.Denot g.row.A.Denot g.row.P-Rt.Denot g.Po.Port.sees g.A.Album.list g.P.Spawner.faults g.A.Album.spare l.level l.shell.handles.items (l.turn-end - l.turn)
