use Rattle.std.proofs.Common.{refl}
use Rattle.ksh_arith.specs.Asks.{start, Query}
use Rattle.ksh_arith.proofs.Serving.{serves_on}
use Rattle.ksh_arith.proofs.eval.call.Goals as goal

pub vars-requires : goal.vars-requires
vars-requires g c = c.requires.ready.callable _ start _ _ _ _ _ refl refl c.requires.small

pub returns-clause-did : goal.returns-clause-did
returns-clause-did g c = record { rest = _; holds = refl; shown = _; shows = refl; path = _; names = refl; rest_left = _; left = _; called = c.vars.ensures; hands = refl; leaves = refl }

pub returns-clause-serves : goal.returns-clause-serves
returns-clause-serves g c =
    let q : Query = record { path = c.args.path.now; ask = c.args.what; depth = c.args.depth } in
    serves_on g.V.FnMut {q = q} (record { rest = _; holds = refl; shown = _; shows = refl; path = _; names = refl; rest_left = _; left = _; called = c.vars.ensures; hands = refl; leaves = refl }) c.requires.ready
