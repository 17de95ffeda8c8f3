use Rattle.std.proofs.Common.{◌≡◌, ◌≤◌, ◌<◌, ◌+◌, ◌-◌, arith, rules, sym, ◌∙◌, length}
use Rattle.std.proofs.lemmas.Bool.Decides.{nat_tests}
use Rattle.ksh_pattern.specs.Reading.{unopened}
use Rattle.ksh_pattern.specs.Building.{depth}
use Rattle.ksh_pattern.proofs.Buildings.{unopened_few}
use Rattle.ksh_pattern.proofs.build.Builder.add_opening.Goals as goal

pub overflow_add-self : goal.overflow_add-self
overflow_add-self c =
    let some : 0 < unopened c.args.rest.now = grind (arith, nat_tests, c.has_end.ensures.end, c.if-not-has_end.false) in
    let few : unopened c.args.rest.now ≤ length c.args.rest.now = unopened_few c.args.rest.now in
    let room : depth c.args.self.now + c.args.self.now.deep ≤ unopened c.args.rest.now - 1 = c.requires in
    let deep : c.push_opening-2.new.self.deep ≡ c.args.self.now.deep = c.in_ok-push_opening.ensures.deep in
    let small : c.push_opening-2.new.self.deep + 1 ≤ length c.args.rest.now = omega (arith, some, few, room, deep) in
    omega (arith, small, c.has_end.ensures.countable)
