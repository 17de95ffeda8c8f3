use Rattle.std.proofs.Common.{◌≡◌, ◌++◌, ◌∙◌, ap}
use Rattle.ksh_pattern.specs.Reading.{spelling}
use Rattle.ksh_pattern.specs.Building.{opened_spelling}
use Rattle.ksh_pattern.proofs.Buildings.{push_spells}
use Rattle.ksh_pattern.proofs.build.Builder.push.Goals as goal

pub returns-clause-spelled : goal.returns-clause-spelled
returns-clause-spelled c =
    ap (λ ps. opened_spelling c.args.self.now.opened ++ spelling ps) c.in_ok-push.ensures.ok ∙ push_spells c.args.self.now.opened c.args.self.now.parts c.args.part
