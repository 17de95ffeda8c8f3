use Rattle.std.proofs.Common.{rules, subst, Ok}
use Rattle.ksh_syntax.specs.Steps.{IsRead}
use Rattle.ksh_syntax.proofs.Taking.{turn_mark, turn_part, turn_lighter, end_none, end_taken, end_not_this, end_no_rule, end_too_deep}
use Rattle.ksh_syntax.proofs.reading.Reading.take.Goals as goal

pub returns-in-None : goal.returns-in-None
returns-in-None c = end_none (c.args.mode, c.args.kind) c.args.self.now.left.items c.loop-mark.self.left.items c.pop.new.self.items c.args.marks.now.items c.loop-mark.marks.items c.loop-mark.invariant (search rules)

pub loop-mark-preserved-in_ok-push-in-Some-Make : goal.loop-mark-preserved-in_ok-push-in-Some-Make
loop-mark-preserved-in_ok-push-in-Some-Make c =
    turn_mark (c.args.mode, c.args.kind) c.args.self.now.left.items c.loop-mark.self.left.items c.pop.new.self.items c.args.marks.now.items c.loop-mark.marks.items c.push.new.self.items c.in-Some-Make.mark c.loop-mark.invariant (search rules) (search rules)

pub returns-then-takes : goal.returns-then-takes
returns-then-takes c =
    end_taken (c.args.mode, c.args.kind) c.args.self.now.left.items c.loop-mark.self.left.items c.pop.new.self.items c.args.marks.now.items c.loop-mark.marks.items c.in-Some-Token.terminal c.loop-mark.invariant (search rules) (search rules)

pub returns-else-takes : goal.returns-else-takes
returns-else-takes c =
    end_not_this (c.args.mode, c.args.kind) c.args.self.now.left.items c.loop-mark.self.left.items c.pop.new.self.items c.args.marks.now.items c.loop-mark.marks.items c.in-Some-Token.terminal c.loop-mark.invariant (search rules) (search rules)

pub loop-mark-smaller : goal.loop-mark-smaller
loop-mark-smaller c = turn_lighter c.args.kind c.loop-mark.self.left.items c.pop.new.self.items c.read.new.self.left.items c.in-Some-Part.part c.in-Some-Part.depth (search rules)
    (subst (λ s. IsRead c.in-Some-Part.part c.in-Some-Part.depth c.args.kind (Ok s) c.pop.new.self.items c.read.new.self.left.items) c.in-Read.is c.in_ok-read-in-Some-Part.ensures)

pub loop-mark-preserved : goal.loop-mark-preserved
loop-mark-preserved c =
    turn_part (c.args.mode, c.args.kind) c.args.self.now.left.items c.loop-mark.self.left.items c.pop.new.self.items c.read.new.self.left.items c.args.marks.now.items c.loop-mark.marks.items c.in-Some-Part.part c.in-Some-Part.depth c.loop-mark.invariant (search rules)
    (subst (λ s. IsRead c.in-Some-Part.part c.in-Some-Part.depth c.args.kind (Ok s) c.pop.new.self.items c.read.new.self.left.items) c.in-Read.is c.in_ok-read-in-Some-Part.ensures)

pub returns-in-Refused : goal.returns-in-Refused
returns-in-Refused c =
    end_no_rule (c.args.mode, c.args.kind) c.args.self.now.left.items c.loop-mark.self.left.items c.pop.new.self.items c.read.new.self.left.items c.args.marks.now.items c.loop-mark.marks.items c.in-Some-Part.part c.in-Some-Part.depth c.loop-mark.invariant (search rules)
    (subst (λ s. IsRead c.in-Some-Part.part c.in-Some-Part.depth c.args.kind (Ok s) c.pop.new.self.items c.read.new.self.left.items) c.in-Refused.is c.in_ok-read-in-Some-Part.ensures)

pub returns-in-TooDeep : goal.returns-in-TooDeep
returns-in-TooDeep c =
    end_too_deep (c.args.mode, c.args.kind) c.args.self.now.left.items c.loop-mark.self.left.items c.pop.new.self.items c.read.new.self.left.items c.args.marks.now.items c.loop-mark.marks.items c.in-Some-Part.part c.in-Some-Part.depth c.loop-mark.invariant (search rules)
    (subst (λ s. IsRead c.in-Some-Part.part c.in-Some-Part.depth c.args.kind (Ok s) c.pop.new.self.items c.read.new.self.left.items) c.in-TooDeep.is c.in_ok-read-in-Some-Part.ensures)
