use Rattle.std.proofs.Common.{refl, arith, true}
use Rattle.shell_family.proofs.Shells.{ran_shell, noted_shell}
use Rattle.cmd_eval.proofs.child.note_ran.Goals as goal

pub returns-clause-shell : goal.returns-clause-shell
returns-clause-shell g c =
    ran_shell _ _ _ _ _ _ _ _ _ c.args.shell.now _ c.args.child c.requires.0 c.args.end c.requires.1 c.requires.2 c.mark.ensures.marks refl
    c.push_reserved.ensures.items c.keep.ensures.list c.keep.ensures.spare

pub returns-clause-noted : goal.returns-clause-noted
returns-clause-noted g c =
    noted_shell _ _ _ _ _ g.A.Album.list g.P.Spawner.faults g.A.Album.spare c.args.level c.args.shell.now _ c.args.child true 0 (omega arith) c.mark.ensures.marks refl refl
