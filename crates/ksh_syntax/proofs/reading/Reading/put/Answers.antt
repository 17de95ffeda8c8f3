use Rattle.std.proofs.Common.{rules, arith, ◌≡◌, ◌++◌, drop, map, reverse, subst}
use Rattle.ksh_syntax.specs.Steps.{placed}
use Rattle.ksh_syntax.proofs.Puts.{put_outside, put_within, elsewhere}
use Rattle.ksh_syntax.proofs.reading.Reading.put.Goals as goal
use Rattle.ksh_syntax.proofs.reading.Reading.put.Goals.{then-depth-lt-DEEPEST, else-depth-lt-DEEPEST}

pub returns : goal.returns
returns c =
    let first : c.loop-at.at ≡ 0 = omega arith in
    let all = subst (λ n. reverse c.loop-at.self.left.items ≡ map (placed c.args.depth c.if-depth-lt-DEEPEST.inner) (drop n c.args.rule.now) ++ reverse c.args.self.now.left.items) first c.loop-at.invariant.put in
    elim c.if-depth-lt-DEEPEST.branch [
      | then-depth-lt-DEEPEST w ↦ ((λ o. w.if-depth-lt-DEEPEST.true), put_within c.args.rule.now c.args.depth c.if-depth-lt-DEEPEST.inner c.args.self.now.left.items c.loop-at.self.left.items (search rules) all)
      | else-depth-lt-DEEPEST w ↦ ((λ o. elsewhere (search rules) o), put_outside c.args.rule.now c.args.depth c.if-depth-lt-DEEPEST.inner c.args.self.now.left.items c.loop-at.self.left.items (search rules) all)
    ]
