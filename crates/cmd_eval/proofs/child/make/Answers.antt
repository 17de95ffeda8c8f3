use Rattle.std.proofs.Common.{◌≡◌, ◌<◌, ◌≤◌, ◌+◌, ◌-◌, ℕ, refl, arith, ap, ◌∙◌, rules, sym, length, length-append}
use Rattle.kernel_ask.specs.Seen.{forked}
use Rattle.ksh_meaning.specs.Subshell.{standard}
use Rattle.shell_state.specs.declared.start.Start.{Start}
use Rattle.shell_family.proofs.Shells.{pending_shell, stays_join, stays_quiet, name_set, given_back}
use Rattle.shell_family.proofs.Told.{no_threads_same, from_more}
use Rattle.cmd_eval.proofs.child.make.Goals as goal

pub returns-in-Ok-clause-stays : goal.returns-in-Ok-clause-stays
returns-in-Ok-clause-stays g c =
    stays_join _ _ _ _ _ g.A.Album.list g.P.Spawner.faults g.A.Album.spare c.args.state.now.level _ _ _ c.ready.ensures.stays
    (stays_quiet _ _ _ _ _ g.A.Album.list g.P.Spawner.faults g.A.Album.spare c.args.state.now.level _ _ _ refl c.in-Ok.ensures.parent refl (from_more (g.Po.Port.sees c.ready.new.shell.port).origin (g.Po.Port.sees c.ready.new.shell.port).done _ _)
    (no_threads_same (g.Po.Port.sees c.ready.new.shell.port).done _ _ refl) refl)

pub returns-in-Ok-clause-shell : goal.returns-in-Ok-clause-shell
returns-in-Ok-clause-shell g c =
    let o = c.ready.new.shell in
    let d : c.in_ok-start.field-0.start.state.level ≡ c.args.state.now.level + 1 = ap (λ (z : Start). z.state.level) c.in_ok-start.ensures.start in
    pending_shell _ _ _ _ _ _ _ _ _ o _ _ _ c.ready.ensures.shell c.requires.level c.in_ok-ready.ensures.handle c.in_ok-ready.ensures.album (search rules)
    (c.in-Ok.ensures.parent ∙ ap (λ z. forked (g.Po.Port.sees o.port) z standard) c.in_ok-start.ensures.given) c.in-Ok.ensures.number c.in-Ok.ensures.child
    (name_set c.in_ok-start.field-0.name o.name c.set_last.new.self (length c.in_ok-start.field-0.name - 1) c.in-Ok.child c.in_ok-start.ensures.name (rw (c.in_ok-start.ensures.name, length-append) (omega arith)) c.set_last.ensures)
    c.fresh.ensures d c.in_ok-start.ensures.budget refl refl refl

pub returns-clause-stays : goal.returns-clause-stays
returns-clause-stays g c =
    let b = given_back _ _ _ _ _ _ g.P.Spawner.faults g.A.Album.spare c.args.state.now.level c.ready.new.shell _ _ _ c.ready.ensures.shell c.in-Err-Refused.ensures.err refl refl refl refl in
    stays_join _ _ _ _ _ g.A.Album.list g.P.Spawner.faults g.A.Album.spare c.args.state.now.level _ _ _ c.ready.ensures.stays b.1

pub returns-clause-shell : goal.returns-clause-shell
returns-clause-shell g c =
    (given_back _ _ _ _ _ _ g.P.Spawner.faults g.A.Album.spare c.args.state.now.level c.ready.new.shell _ _ _ c.ready.ensures.shell c.in-Err-Refused.ensures.err refl refl refl refl).0
