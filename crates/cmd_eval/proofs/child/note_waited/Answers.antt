use Rattle.std.proofs.Common.{◌≡◌, ◌≤◌, ◌+◌, ◌-◌, ◌++◌, ◌∷◌, [], ℕ, length, length-append, take, ap, refl, arith, rules, ◌∙◌, sym}
use Rattle.std.proofs.Math.Seq.{take-append_seam}
use Rattle.shell_family.proofs.Shells.{waited_shell, last_begun, stays_quiet}
use Rattle.shell_family.proofs.Told.{no_threads_same, from_more}
use Rattle.shell_family.specs.declared.forked.Awaited.TheVariants.{Joined}
use Rattle.cmd_eval.proofs.child.note_waited.Goals as goal

pub waited-requires-clause-begun : goal.waited-requires-clause-begun
waited-requires-clause-begun g c = last_begun _ _ _ _ _ _ _ _ _ c.args.shell.now c.requires.last.0 c.args.child c.args.status c.requires.shell c.requires.last.1

pub returns-clause-shell : goal.returns-clause-shell
returns-clause-shell g c =
    let hs = c.requires.last.0 in
    let l : length c.args.shell.now.handles.items ≡ length hs + 1 = rw c.requires.last.1 (length-append hs ((c.args.child, Joined c.args.status) ∷ [])) in
    let m : c.len-left.result - 1 ≡ length hs = search (rules, l) in
    waited_shell _ _ _ _ _ _ _ _ _ c.args.shell.now _ hs c.args.child c.args.status c.requires.shell c.requires.last.1 c.waited.ensures.waits refl refl
    (c.truncate.ensures.items ∙ (rw (m, c.requires.last.1) (take-append_seam hs ((c.args.child, Joined c.args.status) ∷ []))))

pub returns-clause-stays : goal.returns-clause-stays
returns-clause-stays g c =
    stays_quiet _ _ _ _ _ g.A.Album.list g.P.Spawner.faults g.A.Album.spare c.args.level _ _ _ refl c.waited.ensures.waits refl (from_more (g.Po.Port.sees c.args.shell.now.port).origin (g.Po.Port.sees c.args.shell.now.port).done _ _)
    (no_threads_same (g.Po.Port.sees c.args.shell.now.port).done _ _ refl) refl
