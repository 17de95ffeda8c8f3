use Rattle.std.proofs.Common.{◌≡◌, ◌<◌, ◌≤◌, ◌+◌, ◌-◌, ℕ, refl, arith, ap, ◌∙◌, rules, sym, subst, drop}
use Rattle.std.specs.Prelude.{nat_le, true, false}
use Rattle.std.proofs.Math.Nat.{le_refl}
use Rattle.kernel_ask.specs.Seen.{Seen, waited_for}
use Rattle.kernel_ask.specs.declared.ask.Ask.TheVariants.{Asked, Fork, Begin, WaitShell}
use Rattle.ksh_script.specs.declared.tree.Command.{out-Command, the_lemmas}
use Rattle.ksh_script.specs.declared.tree.Command.TheOpen.{Command-F}
use Rattle.ksh_script.specs.declared.tree.Item.{out-Item}
use Rattle.shell_state.specs.declared.start.Start.{Start}
use Rattle.shell_state.specs.declared.state.ShellState.{ShellState}
use Rattle.shell_state.specs.declared.task.Builtin.TheVariants.{Print}
use Rattle.shell_state.specs.declared.task.Told.TheVariants.{Answered, Ran}
use Rattle.ksh_meaning.specs.Expand.{words_of}
use Rattle.ksh_meaning.specs.Laws.{means_then, means_stop, means_done, means_no_memory, means_work, means_no_work, means_within, means_bound, means_put, means_asked, means_not_asked, means_units, means_no_units, means_lost}
use Rattle.ksh_meaning.specs.Finished.{Means, ended}
use Rattle.ksh_meaning.specs.Mean.{list_of, work, run_builtin, perform}
use Rattle.ksh_meaning.specs.Prog.{Done}
use Rattle.ksh_meaning.specs.Remains.{remains_on, remains_stop, list_step, list_left, list_end}
use Rattle.ksh_meaning.specs.Service.{reached_keeps, served_keeps, reached_has, served_has, served_rest, served_means}
use Rattle.ksh_meaning.specs.Faults.{goes_on}
use Rattle.ksh_meaning.specs.Subshell.{subshell, fork, begin, wait, forked, begun, waited, copy_of, standard}
use Rattle.ksh_meaning.specs.Units.{asked, put}
use Rattle.shell_family.specs.Fits.{IsShell, Stays}
use Rattle.shell_family.proofs.Shells.{last_at, stays_join, stays_quiet, runs_shell, taken, keep_room, pending_again, rose_some, turned_next, settled_joined, settled_running, can_join}
use Rattle.shell_family.proofs.Steps.{fits_ended}
use Rattle.cmd_eval.proofs.shell.+shell.Goals as goal

pub begin-note_handed-requires-clause-pending : goal.begin-note_handed-requires-clause-pending
begin-note_handed-requires-clause-pending g t c κs within =
    (c.args.job, pending_again _ _ _ _ _ _ _ _ _ c.args.shell.now _ _ _ refl refl refl refl c.requires.pending, rw c.of.ensures at c.in-Err.ensures.err)

pub begin-note_handed-requires-clause-fault : goal.begin-note_handed-requires-clause-fault
begin-note_handed-requires-clause-fault g t c κs within = (c.start.new.self, rose_some _ _ c.in-Err.ensures.cause.failed)

pub join_all-loop-turn-preserved : goal.join_all-loop-turn-preserved
join_all-loop-turn-preserved g t c =
    let i = c.loop-turn.invariant in
    let s = c.join_at.ensures.same in
    let n : c.len-turn-end.result - c.loop-turn.turn ≡ (c.len-turn-end.result - (c.loop-turn.turn + 1)) + 1 = (let h = c.loop-turn-test.true in omega arith) in (
      rw (← i.1.port) c.join_at.ensures.joining,
      record { port = s.port ∙ i.1.port; name = s.name ∙ i.1.name; spawner = s.spawner ∙ i.1.spawner },
      turned_next _ _ _ _ _ _ _ _ _ _ _ _ _ _ _ i.2 n c.join_at.ensures.last,
    )

pub join_at-settle-status-requires-clause-taken : goal.join_at-settle-status-requires-clause-taken
join_at-settle-status-requires-clause-taken g t c κs within =
    taken _ _ _ _ _ _ _ _ _ _ c.args.shell.now.handles.items c.args.at c.remove-child.result (search rules) c.remove-child.ensures.value c.remove-child.ensures.items c.requires.joining

pub settle-join_job-end-requires : goal.settle-join_job-end-requires
settle-join_job-end-requires g t c κs within =
    let j = rw c.in-Running.is at c.requires.taken.joining in
    let r = can_join _ _ _ _ g.Po.Port.sees g.A.Album.list g.P.Spawner.faults g.A.Album.spare c.args.level _ _ c.requires.taken.front c.requires.taken.back c.args.child c.in-Running.handle j in
    let can = r.0 in
    let a = can.budget in
    let b = can.level in
    let d = r.1 in search rules

pub settle-keep-requires : goal.settle-keep-requires
settle-keep-requires g t c =
    let j = rw c.in-Running.is at c.requires.taken.joining in
    keep_room _ _ _ _ g.Po.Port.sees g.A.Album.list g.P.Spawner.faults g.A.Album.spare c.args.level c.requires.taken.front c.requires.taken.back c.args.child c.in-Running.handle _ j.room

pub settle-returns-in-Joined-clause-joining : goal.settle-returns-in-Joined-clause-joining
settle-returns-in-Joined-clause-joining g t c =
    settled_joined _ _ _ _ _ _ _ _ _ _ _ _ c.requires.taken.front c.requires.taken.back c.args.child c.in-Joined.v c.requires.taken.rest (rw c.in-Joined.is at c.requires.taken.joining)

pub settle-returns-in-Running-clause-joining : goal.settle-returns-in-Running-clause-joining
settle-returns-in-Running-clause-joining g t c =
    settled_running _ _ _ _ _ _ _ _ _ _ c.args.shell.now.album _ _ c.requires.taken.front c.requires.taken.back c.args.child c.in-Running.handle c.join_job-end.result c.requires.taken.rest
    (rw c.in-Running.is at c.requires.taken.joining) c.join_job-end.ensures c.keep.ensures.list c.keep.ensures.spare

pub do_task-returns-in-Ok-clause-means : goal.do_task-returns-in-Ok-clause-means
do_task-returns-in-Ok-clause-means g t c = rw c.in-Ask.is (means_then (λ n. asked (Asked c.in-Ask.call) c.args.state.now) (λ n x. Done (x.0, Answered x.1)) c.ask.ensures.budget (rw c.in-Ok.is at c.ask.ensures.means) (means_done _ _ _))

pub do_task-returns-in-Ask-clause-means : goal.do_task-returns-in-Ask-clause-means
do_task-returns-in-Ask-clause-means g t c = rw c.in-Ask.is (means_stop (λ n. asked (Asked c.in-Ask.call) c.args.state.now) (λ n x. Done (x.0, Answered x.1)) (rw c.in-Err.is at c.ask.ensures.means))

pub do_task-returns-in-Ok-eval_list-clause-means : goal.do_task-returns-in-Ok-eval_list-clause-means
do_task-returns-in-Ok-eval_list-clause-means g t c = rw c.in-Run.is (means_then (λ n. list_of (work n) c.in-Run.list c.args.state.now) (λ n e. Done (e.0, Ran e.1)) c.eval_list.ensures.budget (rw (c.as_slice.ensures, c.get.ensures, c.in-Ok-eval_list.is) at c.eval_list.ensures.means) (means_done _ _ _))

pub do_task-returns-clause-means : goal.do_task-returns-clause-means
do_task-returns-clause-means g t c = rw c.in-Run.is (means_stop (λ n. list_of (work n) c.in-Run.list c.args.state.now) (λ n e. Done (e.0, Ran e.1)) (rw (c.as_slice.ensures, c.get.ensures, c.in-Err-eval_list.is) at c.eval_list.ensures.means))

pub eval_item-returns-then-not-spend-clause-means : goal.eval_item-returns-then-not-spend-clause-means
eval_item-returns-then-not-spend-clause-means g t c = means_no_work _ _ _ (rw c.if-not-spend.true at c.spend.ensures.units) _

pub eval_item-returns-clause-means : goal.eval_item-returns-clause-means
eval_item-returns-clause-means g t c = means_work _ _ _ _ (rw c.if-not-spend.false at c.spend.ensures.units) (c.spend.ensures.fewer (search rules)) c.eval_form.ensures.means

pub eval_list-returns-in_default : goal.eval_list-returns-in_default
eval_list-returns-in_default g t c =
    record {
      means = list_left (λ n. work n c.item-item.result c.loop-item.state) (λ n. list_of (work n) (drop (c.loop-item.item-index + 1) c.args.list.now)) _ _ c.in_default.not-Next (list_step c.args.list.now c.loop-item.item-index c.item-item.result c.loop-item.state c.item-item.is c.loop-item-test.true c.loop-item.invariant.remains) (rw c.in-Ok.is at c.eval_item.ensures.means);
      shell = rw c.loop-item.invariant.level at c.eval_item.ensures.shell;
      stays = stays_join _ _ _ _ g.Po.Port.sees g.A.Album.list g.P.Spawner.faults g.A.Album.spare c.args.state.now.level c.args.shell.now c.loop-item.shell c.eval_item.new.shell c.loop-item.invariant.stays c.eval_item.ensures.stays;
      level = c.eval_item.ensures.level ∙ c.loop-item.invariant.level;
      budget = omega arith;
    }

pub eval_list-returns-in-Err-clause-means : goal.eval_list-returns-in-Err-clause-means
eval_list-returns-in-Err-clause-means g t c = remains_stop (λ n. work n c.item-item.result c.loop-item.state) (λ n. goes_on (list_of (work n) (drop (c.loop-item.item-index + 1) c.args.list.now))) (list_step c.args.list.now c.loop-item.item-index c.item-item.result c.loop-item.state c.item-item.is c.loop-item-test.true c.loop-item.invariant.remains) (rw c.in-Err.is at c.eval_item.ensures.means)

pub eval_list-returns-in-Err-clause-stays : goal.eval_list-returns-in-Err-clause-stays
eval_list-returns-in-Err-clause-stays g t c = stays_join _ _ _ _ g.Po.Port.sees g.A.Album.list g.P.Spawner.faults g.A.Album.spare c.args.state.now.level c.args.shell.now c.loop-item.shell c.eval_item.new.shell c.loop-item.invariant.stays c.eval_item.ensures.stays

pub eval_list-loop-item-preserved : goal.eval_list-loop-item-preserved
eval_list-loop-item-preserved g t c = record {
  shell = rw c.loop-item.invariant.level at c.eval_item.ensures.shell;
  stays = stays_join _ _ _ _ g.Po.Port.sees g.A.Album.list g.P.Spawner.faults g.A.Album.spare c.args.state.now.level c.args.shell.now c.loop-item.shell c.eval_item.new.shell c.loop-item.invariant.stays c.eval_item.ensures.stays;
  level = c.eval_item.ensures.level ∙ c.loop-item.invariant.level;
  budget = omega arith;
  remains = remains_on (λ n. work n c.item-item.result c.loop-item.state) (λ n. goes_on (list_of (work n) (drop (c.loop-item.item-index + 1) c.args.list.now))) c.eval_item.ensures.budget (list_step c.args.list.now c.loop-item.item-index c.item-item.result c.loop-item.state c.item-item.is c.loop-item-test.true c.loop-item.invariant.remains) (rw (c.in-Ok.is, c.in-Next.is) at c.eval_item.ensures.means);
}

pub eval_list-returns-clause-means : goal.eval_list-returns-clause-means
eval_list-returns-clause-means g t c = list_end c.args.list.now c.loop-item.item-index c.loop-item.state (search rules) c.loop-item.invariant.remains

pub eval_builtin-returns-clause-means : goal.eval_builtin-returns-clause-means
unfolding run_builtin
eval_builtin-returns-clause-means g t c =
    means_bound c.left-limit.ensures (served_means _ work (λ m. (g.Po.Port.sees m.1.port).done) (λ m. m.0.0.now)
    (λ m m' s s' task r p. rw (← p.leaves, ← p.holds, ← p.hands) (subst (λ (z : ShellState). Means m.0.0.now (g.Po.Port.sees p.rest.now.port).done (g.Po.Port.sees p.rest_left.now.port).done (λ n. perform (work n) (z, task)) (ended p.left.now r)) p.shows p.called.met.1.0))
    (λ m m' s s' task r p. let k : m'.0 ≡ m.0 = search (rules, p.called.met) in ap (λ b. b.0.now) k) c.run_io.ensures.served)

pub eval_builtin-ctx-returns : goal.eval_builtin-ctx-returns
eval_builtin-ctx-returns g t c = record {
  means = means_within c.requires.budget c.do_task.ensures.means;
  shell = rw c.requires.level at c.do_task.ensures.shell;
  stays = c.do_task.ensures.stays;
  level = c.do_task.ensures.level;
  budget = c.do_task.ensures.budget;
  answers = c.do_task.ensures.answers;
}

pub eval_builtin-run_io-requires : goal.eval_builtin-run_io-requires
eval_builtin-run_io-requires g t c = record {
  callable = λ m reached q p task holds below same.
      let e : m.0.0.now ≡ c.args.state.now.budget = ap (λ b. b.now) (reached_keeps _ (λ m. m.0.0) (λ m m' s s' task r p. let k : m'.0 ≡ m.0 = search (rules, p.called.met) in ap (λ b. b.0) k) reached) ∙ c.left-limit.ensures in
      let d : m.0.1.now ≡ c.args.state.now.level = ap (λ b. b.now) (reached_keeps _ (λ m. m.0.1) (λ m m' s s' task r p. let k : m'.0 ≡ m.0 = search (rules, p.called.met) in ap (λ b. b.1) k) reached) in
      let h : IsShell g.Po.Port.sees g.A.Album.list g.P.Spawner.faults g.A.Album.spare m.0.1.now m.1 = reached_has _ (λ m. IsShell g.Po.Port.sees g.A.Album.list g.P.Spawner.faults g.A.Album.spare m.0.1.now m.1) (λ m m' s s' task r p. let k : m'.0 ≡ m.0 = search (rules, p.called.met) in rw (← p.hands, k) p.called.met.1.1.0) c.requires.shell reached in
      let k : IsShell g.Po.Port.sees g.A.Album.list g.P.Spawner.faults g.A.Album.spare m.0.1.now q.now = rw holds h in
      let l : p.now.level ≡ m.0.1.now = same ∙ sym d in
      let b : p.now.budget ≤ m.0.0.now = rw e below in
      (omega (arith, c.decreases, e, d, same), search (rules, k, l, b));
  levels = λ m m' s s' task r reached p. rw (← p.shows, ← p.leaves) p.called.met.1.1.1.1.0;
  keeps = λ m m' s s' task r reached p. rw (← p.shows, ← p.leaves) p.called.met.1.1.1.1.1.0;
  answers = λ m m' s s' task r reached p. search (rules, p.called.met);
}

pub eval_builtin-returns-clause-shell : goal.eval_builtin-returns-clause-shell
eval_builtin-returns-clause-shell g t c =
    let d : c.run_io.new.ctx.1.now ≡ c.args.state.now.level = ap (λ b. b.now) (served_keeps _ (λ m. m.0.1) (λ m m' s s' task r p. let k : m'.0 ≡ m.0 = search (rules, p.called.met) in ap (λ b. b.1) k) c.run_io.ensures.served) in
    let h : IsShell g.Po.Port.sees g.A.Album.list g.P.Spawner.faults g.A.Album.spare c.run_io.new.ctx.1.now c.run_io.new.rest = served_has _ (λ m. IsShell g.Po.Port.sees g.A.Album.list g.P.Spawner.faults g.A.Album.spare m.0.1.now m.1) (λ m m' s s' task r p. let k : m'.0 ≡ m.0 = search (rules, p.called.met) in rw (← p.hands, k) p.called.met.1.1.0) c.requires.shell c.run_io.ensures.served in
    rw d at h

pub eval_builtin-returns-clause-stays : goal.eval_builtin-returns-clause-stays
eval_builtin-returns-clause-stays g t c =
    served_rest c.run_io.ensures.served (λ a b. Stays g.Po.Port.sees g.P.Spawner.faults a b)
    (λ m. stays_quiet _ _ _ _ g.Po.Port.sees g.A.Album.list g.P.Spawner.faults g.A.Album.spare c.args.state.now.level m m (g.Po.Port.sees m.port) refl refl refl refl refl refl)
    (stays_join _ _ _ _ g.Po.Port.sees g.A.Album.list g.P.Spawner.faults g.A.Album.spare c.args.state.now.level)
    (λ m m' w w' p p' task r h. h.met.1.1.1.0)

pub run_job-join_all-requires-clause-joining : goal.run_job-join_all-requires-clause-joining
run_job-join_all-requires-clause-joining g t c κs within =
    rw c.eval_list-flow.ensures.level
    (record { room = c.eval_list-flow.ensures.shell.room; fits = rw c.end.ensures.ends (fits_ended _ _ _ _ _ _ _ _ _ _ _ c.eval_list-flow.ensures.shell.fits) })

pub run_job-returns : goal.run_job-returns
run_job-returns g t c =
    let m = c.close.ensures.same in
    let o = c.open-shell.ensures.same in
    let l : c.eval_list-flow.new.state.level ≡ c.args.job.start.state.level = c.eval_list-flow.ensures.level ∙ ap (λ (s : ShellState). s.level) o.2 in
    runs_shell _ _ _ _ _ _ g.P.Spawner.faults g.A.Album.spare c.args.job.start.state.level c.args.job c.open-shell.result.0 c.eval_list-flow.new.shell c.end.new.self c.join_all.new.shell.handles.items _
    c.eval_list-flow.new.state c.eval_list-flow.result c.requires
    o.0 o.1 c.eval_list-flow.ensures.stays c.end.ensures.ends (rw m.2 (rw l at c.join_all.ensures.joining.fits)) c.join_all.ensures.idle
    (m.0 ∙ c.join_all.ensures.same.port) (m.1 ∙ c.join_all.ensures.same.name)
    (rw (c.as_slice.ensures, c.get.ensures, o.2, o.3) at c.eval_list-flow.ensures.means)
    c.close.ensures.stop c.close.ensures.status

pub fork_shell-returns-in-Ok-made-clause-means : goal.fork_shell-returns-in-Ok-made-clause-means
unfolding fork
fork_shell-returns-in-Ok-made-clause-means g t c =
    means_then (λ n. put (Fork (copy_of c.args.list.now c.args.state.now) standard) c.args.state.now) (λ n. forked c.args.line) (le_refl c.args.state.now.budget) (means_put _ _ _ _ _ _ (rw (c.in-Ok.is, c.in-Ok-made.is) at c.make.ensures.done)) c.run_child.ensures.means

pub fork_shell-returns-in-Ok-made-clause-stays : goal.fork_shell-returns-in-Ok-made-clause-stays
fork_shell-returns-in-Ok-made-clause-stays g t c = stays_join _ _ _ _ g.Po.Port.sees g.A.Album.list g.P.Spawner.faults g.A.Album.spare c.args.state.now.level c.args.shell.now c.make.new.shell c.run_child.new.shell c.make.ensures.stays c.run_child.ensures.stays

pub fork_shell-returns-in-Err-made-clause-means : goal.fork_shell-returns-in-Err-made-clause-means
unfolding fork
fork_shell-returns-in-Err-made-clause-means g t c =
    means_then (λ n. put (Fork (copy_of c.args.list.now c.args.state.now) standard) c.args.state.now) (λ n. forked c.args.line) (le_refl c.args.state.now.budget) (means_put _ _ _ _ _ _ (rw (c.in-Ok.is, c.in-Err-made.is) at c.make.ensures.done)) c.not_forked.ensures.means

pub fork_shell-returns-in-Err-made-clause-stays : goal.fork_shell-returns-in-Err-made-clause-stays
fork_shell-returns-in-Err-made-clause-stays g t c = stays_join _ _ _ _ g.Po.Port.sees g.A.Album.list g.P.Spawner.faults g.A.Album.spare c.args.state.now.level c.args.shell.now c.make.new.shell c.not_forked.new.shell c.make.ensures.stays c.not_forked.ensures.stays

pub fork_shell-returns-in-Err-clause-means : goal.fork_shell-returns-in-Err-clause-means
fork_shell-returns-in-Err-clause-means g t c = means_lost _ _ _ _ (rw c.in-Err.is at c.make.ensures.done)

pub run_child-returns-then-begin-clause-means : goal.run_child-returns-then-begin-clause-means
unfolding begin
run_child-returns-then-begin-clause-means g t c =
    means_then (λ n. put (Begin c.args.child) c.args.state.now) (λ n. begun c.args.child) (le_refl c.args.state.now.budget)
    (means_put _ _ _ _ _ _ (ap (λ (z : Seen Start). z.done) (rw c.if-begin.true at c.begin.ensures.seen))) c.wait_last.ensures.means

pub run_child-returns-then-begin-clause-stays : goal.run_child-returns-then-begin-clause-stays
run_child-returns-then-begin-clause-stays g t c = stays_join _ _ _ _ g.Po.Port.sees g.A.Album.list g.P.Spawner.faults g.A.Album.spare c.args.state.now.level c.args.shell.now c.begin.new.shell c.wait_last.new.shell c.begin.ensures.stays c.wait_last.ensures.stays

pub run_child-returns-else-begin-clause-means : goal.run_child-returns-else-begin-clause-means
unfolding begin
run_child-returns-else-begin-clause-means g t c =
    means_then (λ n. put (Begin c.args.child) c.args.state.now) (λ n. begun c.args.child) (le_refl c.args.state.now.budget)
    (means_put _ _ _ _ _ _ (ap (λ (z : Seen Start). z.done) (rw c.if-begin.false at c.begin.ensures.seen))) (means_done _ _ _)

pub wait_last-returns-then-not-spend-clause-means : goal.wait_last-returns-then-not-spend-clause-means
unfolding wait
wait_last-returns-then-not-spend-clause-means g t c = means_stop (λ n. asked (WaitShell c.args.child) c.args.state.now) (λ n. waited) (means_not_asked _ _ _ (rw c.if-not-spend.true at c.spend.ensures.units) _)

pub wait_last-returns-clause-means : goal.wait_last-returns-clause-means
unfolding wait
wait_last-returns-clause-means g t c =
    let f : c.join_at-found.result.0 ≡ c.args.child = last_at _ _ _ _ g.Po.Port.sees g.A.Album.list g.P.Spawner.faults g.A.Album.spare c.args.state.now.level c.args.shell.now.handles.items c.args.child _ _ c.requires.last (search rules) c.join_at-found.ensures.child in
    let w : g.Po.Port.sees c.note_waited.new.shell.port ≡ waited_for (g.Po.Port.sees c.args.shell.now.port) c.args.child c.join_at-found.result.1 = rw (c.join_at-found.ensures.same.port, f) at c.note_waited.ensures.seen in
    means_then (λ n. asked (WaitShell c.args.child) c.args.state.now) (λ n. waited) c.spend.ensures.most
    (means_asked _ _ _ _ _ _ (rw c.if-not-spend.false at c.spend.ensures.units) _ (ap (λ (z : Seen Start). z.done) w)) (means_done _ _ _)

pub eval_form-returns-in-Print-clause-means : goal.eval_form-returns-in-Print-clause-means
eval_form-returns-in-Print-clause-means g t c = let o : out-Command c.args.command.now ≡ Command-F.Print c.in-Print.words = search (rules, the_lemmas) in rw o (rw c.as_slice.ensures at c.eval_print.ensures.means)

pub eval_form-returns-in-Assign-clause-means : goal.eval_form-returns-in-Assign-clause-means
eval_form-returns-in-Assign-clause-means g t c = let o : out-Command c.args.command.now ≡ Command-F.Assign c.in-Assign.assigns = search (rules, the_lemmas) in rw (o, ← c.as_slice-in-Assign.ensures) c.eval_assign.ensures.means

pub eval_form-returns-in-Subshell-clause-means : goal.eval_form-returns-in-Subshell-clause-means
eval_form-returns-in-Subshell-clause-means g t c = let o : out-Command c.args.command.now ≡ Command-F.Subshell c.in-Subshell.body = search (rules, the_lemmas) in rw o c.eval_subshell.ensures.means

pub eval_form-returns-in-NotBuilt-clause-means : goal.eval_form-returns-in-NotBuilt-clause-means
eval_form-returns-in-NotBuilt-clause-means g t c = let o : out-Command c.args.command.now ≡ Command-F.NotBuilt = search (rules, the_lemmas) in rw o c.fail.ensures.means

pub eval_subshell-returns-then-state-ge64-clause-means : goal.eval_subshell-returns-then-state-ge64-clause-means
unfolding subshell
eval_subshell-returns-then-state-ge64-clause-means g t c = let e : nat_le 64 c.args.state.now.level ≡ true = search rules in rw e c.fail.ensures.means

pub eval_subshell-returns-then-not-spend-clause-means : goal.eval_subshell-returns-then-not-spend-clause-means
unfolding subshell
eval_subshell-returns-then-not-spend-clause-means g t c =
    let e : nat_le 64 c.args.state.now.level ≡ false = search rules in
    rw e (means_no_units 2 _ _ c.args.state.now (λ n. fork c.args.line c.args.list.now) (rw c.if-not-spend.true at c.spend.ensures.units))

pub eval_subshell-returns-clause-means : goal.eval_subshell-returns-clause-means
unfolding subshell
eval_subshell-returns-clause-means g t c =
    let e : nat_le 64 c.args.state.now.level ≡ false = search rules in
    rw e (means_units 2 _ _ _ _ c.args.state.now _ (λ n. fork c.args.line c.args.list.now) _ c.spend.ensures.most (rw c.if-not-spend.false at c.spend.ensures.units) c.fork_shell.ensures.means)

pub eval_print-returns-in_default-clause-means : goal.eval_print-returns-in_default-clause-means
eval_print-returns-in_default-clause-means g t c = means_no_memory _ _ _

pub eval_print-returns-clause-means : goal.eval_print-returns-clause-means
eval_print-returns-clause-means g t c = rw (c.as_slice.ensures, c.in-Ok.ensures) at c.eval_builtin.ensures.means
