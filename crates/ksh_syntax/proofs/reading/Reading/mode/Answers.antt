use Rattle.std.proofs.Common.{rules, arith, ◌-◌}
use Rattle.ksh_grammar.specs.declared.symbol.Symbol.TheVariants.{Token, Part}
use Rattle.ksh_syntax.proofs.Laws.{token_mode, front_mode, no_mode, last_taken}
use Rattle.ksh_syntax.proofs.reading.Reading.mode.Goals as goal

pub returns-in-Token : goal.returns-in-Token
returns-in-Token c =
    token_mode c.args.self.now.left.items c.loop-at.at (c.loop-at.at - 1) c.in-Token.terminal c.mode.result c.loop-at.invariant.behind
    (last_taken c.args.self.now.left.items c.loop-at.at c.index.result.now (Token c.in-Token.terminal) c.loop-at-test.true c.loop-at.invariant.within (search rules) c.in-Token.is)
    (search rules)

pub returns-in-Part : goal.returns-in-Part
returns-in-Part c =
    front_mode c.args.self.now.left.items c.loop-at.at (c.loop-at.at - 1) c.in-Part.part c.in-Part.field-1 c.mode-in-Part.result c.loop-at.invariant.behind
    (last_taken c.args.self.now.left.items c.loop-at.at c.index.result.now (Part c.in-Part.part c.in-Part.field-1) c.loop-at-test.true c.loop-at.invariant.within (search rules) c.in-Part.is)
    (search rules)

pub returns : goal.returns
returns c = no_mode c.args.self.now.left.items c.loop-at.at _ c.loop-at.invariant.behind (omega arith)
