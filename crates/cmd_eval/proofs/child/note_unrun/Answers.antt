use Rattle.std.proofs.Common.{refl, arith, false}
use Rattle.shell_thread.specs.declared.album.ShellStop.TheVariants.{Unrun}
use Rattle.shell_family.proofs.Shells.{unrun_shell, noted_shell}
use Rattle.cmd_eval.proofs.child.note_unrun.Goals as goal

pub returns-clause-shell : goal.returns-clause-shell
returns-clause-shell g c =
    unrun_shell _ _ _ _ _ _ _ _ _ c.args.shell.now _ c.args.child c.args.job
    record { name = c.args.job.name; status = 254; stop = Unrun; port = c.end.new.self; album = c.args.job.album } c.requires.pending c.mark.ensures.marks refl refl
    c.keep.ensures.list c.keep.ensures.spare refl refl refl refl c.end.ensures.ends c.requires.fault

pub returns-clause-noted : goal.returns-clause-noted
returns-clause-noted g c =
    noted_shell _ _ _ _ _ g.A.Album.list g.P.Spawner.faults g.A.Album.spare c.args.level c.args.shell.now _ c.args.child false 1 (omega arith) c.mark.ensures.marks refl refl
