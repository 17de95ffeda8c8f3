use Rattle.ksh_run.proofs.Ends.{lost_root}
use Rattle.ksh_run.proofs.refuse.lose.Goals as goal

pub returns-clause-root : goal.returns-clause-root
returns-clause-root g c =
    let p = c.before-2.ensures.parts in
    lost_root g.Po.Port.sees g.A.Album.list g.P.Spawner.faults (g.Po.Port.sees c.args.port) c.before-2.result c.requires.fresh p.0 (rw p.3 c.requires.album) c.before-2.ensures.port
