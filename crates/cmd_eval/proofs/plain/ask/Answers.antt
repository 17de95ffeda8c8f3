use Rattle.std.proofs.Common.{◌≡◌, refl, ap}
use Rattle.kernel_ask.specs.Seen.{Seen}
use Rattle.ksh_meaning.specs.Laws.{means_asked, means_unasked, means_not_asked}
use Rattle.shell_state.specs.declared.start.Start.{Start}
use Rattle.shell_family.proofs.Shells.{acted_shell, stays_quiet}
use Rattle.shell_family.proofs.Told.{no_threads_same, from_more}
use Rattle.cmd_eval.proofs.plain.ask.Goals as goal

pub returns-then-not-spend-clause-means : goal.returns-then-not-spend-clause-means
returns-then-not-spend-clause-means g c = means_not_asked _ _ _ (rw c.if-not-spend.true at c.spend.ensures.units) _

pub returns-in-Ok-clause-means : goal.returns-in-Ok-clause-means
returns-in-Ok-clause-means g c = means_asked _ _ _ _ _ _ (rw c.if-not-spend.false at c.spend.ensures.units) _ (ap (λ (z : Seen Start). z.done) c.in-Ok.ensures.ok)

pub returns-in-Ok-clause-shell : goal.returns-in-Ok-clause-shell
returns-in-Ok-clause-shell g c = acted_shell _ _ _ _ _ _ _ _ _ _ _ _ _ c.requires c.in-Ok.ensures.ok refl refl refl

pub returns-in-Ok-clause-stays : goal.returns-in-Ok-clause-stays
returns-in-Ok-clause-stays g c =
    stays_quiet _ _ _ _ _ g.A.Album.list g.P.Spawner.faults g.A.Album.spare c.args.state.now.level _ _ _ refl c.in-Ok.ensures.ok refl (from_more (g.Po.Port.sees c.args.shell.now.port).origin (g.Po.Port.sees c.args.shell.now.port).done _ _)
    (no_threads_same (g.Po.Port.sees c.args.shell.now.port).done _ _ refl) refl

pub returns-in-Err-clause-means : goal.returns-in-Err-clause-means
returns-in-Err-clause-means g c = means_unasked _ _ _ _ _ _ (rw c.if-not-spend.false at c.spend.ensures.units) (ap (λ (z : Seen Start). z.done) c.in-Err.ensures.err)
