use Rattle.std.proofs.Common.{arith, refl}
use Rattle.ksh_meaning.specs.Tasks.{start}
use Rattle.ksh_meaning.specs.Serving.{serves_on, answers_each}
use Rattle.ksh_meaning.proofs.serve.perform.Goals as goal

pub ctx-requires : goal.ctx-requires
ctx-requires g c = c.requires.callable _ start _ _ _ refl (omega arith) refl

pub returns-clause-did : goal.returns-clause-did
returns-clause-did g c = record { rest = _; holds = refl; shown = _; shows = refl; rest_left = _; left = _; called = c.ctx.ensures; hands = refl; leaves = refl }

pub returns-clause-serves : goal.returns-clause-serves
returns-clause-serves g c = serves_on _ (record { rest = _; holds = refl; shown = _; shows = refl; rest_left = _; left = _; called = c.ctx.ensures; hands = refl; leaves = refl }) (c.requires.keeps _ _ _ _ _ _ start (record { rest = _; holds = refl; shown = _; shows = refl; rest_left = _; left = _; called = c.ctx.ensures; hands = refl; leaves = refl })) (c.requires.levels _ _ _ _ _ _ start (record { rest = _; holds = refl; shown = _; shows = refl; rest_left = _; left = _; called = c.ctx.ensures; hands = refl; leaves = refl })) c.requires

pub returns-clause-budget : goal.returns-clause-budget
returns-clause-budget g c = c.requires.keeps _ _ _ _ _ _ start (record { rest = _; holds = refl; shown = _; shows = refl; rest_left = _; left = _; called = c.ctx.ensures; hands = refl; leaves = refl })

pub returns-clause-level : goal.returns-clause-level
returns-clause-level g c = c.requires.levels _ _ _ _ _ _ start (record { rest = _; holds = refl; shown = _; shows = refl; rest_left = _; left = _; called = c.ctx.ensures; hands = refl; leaves = refl })

pub returns-clause-answers : goal.returns-clause-answers
returns-clause-answers g c = answers_each g.C.FnMut c.requires (record { rest = _; holds = refl; shown = _; shows = refl; rest_left = _; left = _; called = c.ctx.ensures; hands = refl; leaves = refl })
