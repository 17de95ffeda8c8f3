use Rattle.std.proofs.Common.{◌∙◌, ap}
use Rattle.kernel_ask.specs.Seen.{ended}
use Rattle.ksh_meaning.specs.Output.{write}
use Rattle.ksh_run.proofs.Ends.{refused_root}
use Rattle.ksh_run.proofs.refuse.refuse.Goals as goal

pub returns-then-write_line-clause-root : goal.returns-then-write_line-clause-root
returns-then-write_line-clause-root g c =
    let w = c.write_line.ensures.asked c.if-write_line.true in
    let p = c.before-then-write_line.ensures.parts in
    refused_root g.Po.Port.sees g.A.Album.list g.P.Spawner.faults (g.Po.Port.sees c.args.port) c.before-then-write_line.result (write 2 c.args.line) w.0 c.requires.fresh p.0 (rw p.3 c.requires.album)
    (c.before-then-write_line.ensures.port ∙ ap ended w.1)
