use Rattle.std.proofs.Common.{ap, refl, rules}
use Rattle.tree_build.specs.Silent.{is_silent}
use Rattle.tree_build.specs.declared.place.Place.TheVariants as place
use Rattle.tree_moves.specs.Tags as tag
use Rattle.script_tree.proofs.Fitted.{opens_passes}
use Rattle.script_tree.proofs.between.open_pattern.Goals as goal

pub returns-clause-moves : goal.returns-clause-moves
returns-clause-moves c k = (
  opens_passes {A = Unit {0}} tag.Patterns place.Patterns c.args.sign.kind c.args.frames.now c.open_patterns.new.frames c.pass_token.new.frames tt _ refl (ap (λ l. is_silent l place.Patterns) k)
      c.in_ok-open_patterns.ensures.moves c.pass_token.ensures.moves,
  tt,
)
