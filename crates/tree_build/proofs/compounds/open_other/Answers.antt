use Rattle.std.specs.Prelude.{List, ◌∷◌}
use Rattle.std.proofs.Common.{rules, ◌∙◌, ◌≡◌, ap}
use Rattle.tree_build.specs.Frame.{Opened}
use Rattle.tree_build.specs.Loads.{Loads, frames_of}
use Rattle.tree_build.specs.declared.opening.Open.{Open}
use Rattle.tree_build.specs.declared.opening.Open.TheVariants as opens
use Rattle.tree_build.specs.declared.opening.Opening.{Opening}
use Rattle.tree_build.proofs.MovingP.{opens_other}
use Rattle.tree_build.proofs.compounds.open_other.Goals as goal

opened_on : (os os1 : List Open) (b : Loads) (o : Opening) → os ≡ opens.Opened o ∷ os1 → frames_of os b ≡ Opened o ∷ frames_of os1 b
opened_on os os1 b o h = ap (λ x. frames_of x b) h

pub returns-clause-moves : goal.returns-clause-moves
returns-clause-moves c = λ t n e.
    let o = c.in-Some.opening in
    opens_other c.args.sign.kind c.args.sign.from c.args.sign.line o t _ _ (search rules) e
    (opened_on c.push_after.new.self c.frames.inside.opened _ o (search rules) ∙ ap (λ fs. Opened o ∷ fs) c.frames.view_is)
