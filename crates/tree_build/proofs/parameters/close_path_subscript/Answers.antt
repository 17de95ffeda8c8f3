use Rattle.std.specs.Prelude.{◌≡◌, Bool, List, [], ◌∷◌}
use Rattle.std.proofs.Common.{rules, sym, ap, ◌∙◌}
use Rattle.ksh_ast.specs.declared.tree.ParamOf.{ParamOf}
use Rattle.ksh_ast.specs.declared.tree.ParamOf.TheVariants as of
use Rattle.ksh_ast.specs.declared.tree.Piece.{Piece}
use Rattle.ksh_ast.specs.declared.tree.TreePart.TheVariants as part
use Rattle.tree_parts.specs.declared.asked.Asked.{Asked}
use Rattle.tree_parts.specs.Parts.{with_part}
use Rattle.tree_build.specs.Frame.{Parameter, Subscript}
use Rattle.tree_build.specs.Loads.{Loads, below, frames_of, top}
use Rattle.tree_build.specs.declared.opening.Open.{Open}
use Rattle.tree_build.specs.declared.opening.Open.TheVariants as opens
use Rattle.tree_build.proofs.Onto.{parameter_on, subscript_on}
use Rattle.tree_build.proofs.Bracing.{reads_subscript}
use Rattle.tree_build.proofs.MovingS.{asked_subscript, target_subscript, value_subscript}
use Rattle.tree_build.proofs.parameters.close_path_subscript.Goals as goal

-- the subscript on top, where the pieces on top are known
subscript_with : (os os1 : List Open) (b : Loads) (ps : List Piece) (rest : List (List Piece)) → os ≡ opens.Subscript ∷ os1 → b.texts.words ≡ ps ∷ rest → frames_of os b ≡ Subscript ps ∷ frames_of os1 (record b { texts = record b.texts { words = rest } })
subscript_with os os1 b ps rest o e = subscript_on os os1 b o ∙ ap (λ (ws : List (List Piece)). Subscript (top [] ws) ∷ frames_of os1 (record b { texts = record b.texts { words = below ws } })) e

-- the parameter on top, where that on its stack is known
parameter_with : (os os1 : List Open) (b : Loads) (quoted : Bool) (asked : Asked) (p : ParamOf) (rest : List ParamOf) → os ≡ opens.Parameter quoted asked ∷ os1 → b.texts.params ≡ p ∷ rest → frames_of os b ≡ Parameter quoted asked p ∷ frames_of os1 (record b { texts = record b.texts { params = rest } })
parameter_with os os1 b quoted asked p rest o e = parameter_on os os1 b quoted asked o ∙ ap (λ (ps : List ParamOf). Parameter quoted asked (top (of.Special []) ps) ∷ frames_of os1 (record b { texts = record b.texts { params = below ps } })) e

pub returns-clause-grows : goal.returns-clause-grows
returns-clause-grows c =
    let parameter = c.in-Some-Parameter in
    let word = c.in-Some.word in
    let path = c.in-Some-Var.path in
    let taken : c.frames.inside.texts.words ≡ word ∷ c.pop-3.new.self = search rules in
    let taken-path : c.frames.inside.texts.params ≡ of.Var path ∷ c.pop-4.new.self = search rules in
    let pushed : c.push-ready.new.self ≡ of.Var (with_part path (part.Sub word)) ∷ c.pop-4.new.self = search rules in
    reads_subscript c.args.sign c.args.bytes.now word parameter.quoted parameter.asked path _ _ _ _ (search rules)
    (sym c.frames.view_is ∙ subscript_with c.frames.inside.opened c.pop.new.self _ word c.pop-3.new.self (search rules) taken)
    (parameter_with c.pop.new.self c.pop-2.new.self _ parameter.quoted parameter.asked (of.Var path) c.pop-4.new.self (search rules) taken-path)
    (parameter_with c.push_after.new.self c.pop-2.new.self _ parameter.quoted parameter.asked (of.Var (with_part path (part.Sub word))) c.pop-4.new.self (search rules) pushed)

pub returns-clause-moves_value : goal.returns-clause-moves_value
returns-clause-moves_value c =
    let parameter = c.in-Some-Parameter in
    let word = c.in-Some.word in
    let path = c.in-Some-Var.path in
    let taken : c.frames.inside.texts.words ≡ word ∷ c.pop-3.new.self = search rules in
    let taken-path : c.frames.inside.texts.params ≡ of.Var path ∷ c.pop-4.new.self = search rules in
    let pushed : c.push-ready.new.self ≡ of.Var (with_part path (part.Sub word)) ∷ c.pop-4.new.self = search rules in
    λ k. value_subscript word parameter.quoted parameter.asked (of.Var path) (with_part path (part.Sub word)) _ _ _ _
    (sym c.frames.view_is ∙ subscript_with c.frames.inside.opened c.pop.new.self _ word c.pop-3.new.self (search rules) taken)
    (parameter_with c.pop.new.self c.pop-2.new.self _ parameter.quoted parameter.asked (of.Var path) c.pop-4.new.self (search rules) taken-path)
    (parameter_with c.push_after.new.self c.pop-2.new.self _ parameter.quoted parameter.asked (of.Var (with_part path (part.Sub word))) c.pop-4.new.self (search rules) pushed)

pub returns-clause-moves_asked : goal.returns-clause-moves_asked
returns-clause-moves_asked c =
    let parameter = c.in-Some-Parameter in
    let word = c.in-Some.word in
    let path = c.in-Some-Var.path in
    let taken : c.frames.inside.texts.words ≡ word ∷ c.pop-3.new.self = search rules in
    let taken-path : c.frames.inside.texts.params ≡ of.Var path ∷ c.pop-4.new.self = search rules in
    let pushed : c.push-ready.new.self ≡ of.Var (with_part path (part.Sub word)) ∷ c.pop-4.new.self = search rules in
    λ k. asked_subscript word parameter.quoted parameter.asked (of.Var path) (with_part path (part.Sub word)) _ _ _ _
    (sym c.frames.view_is ∙ subscript_with c.frames.inside.opened c.pop.new.self _ word c.pop-3.new.self (search rules) taken)
    (parameter_with c.pop.new.self c.pop-2.new.self _ parameter.quoted parameter.asked (of.Var path) c.pop-4.new.self (search rules) taken-path)
    (parameter_with c.push_after.new.self c.pop-2.new.self _ parameter.quoted parameter.asked (of.Var (with_part path (part.Sub word))) c.pop-4.new.self (search rules) pushed)

pub returns-clause-moves_target : goal.returns-clause-moves_target
returns-clause-moves_target c =
    let parameter = c.in-Some-Parameter in
    let word = c.in-Some.word in
    let path = c.in-Some-Var.path in
    let taken : c.frames.inside.texts.words ≡ word ∷ c.pop-3.new.self = search rules in
    let taken-path : c.frames.inside.texts.params ≡ of.Var path ∷ c.pop-4.new.self = search rules in
    let pushed : c.push-ready.new.self ≡ of.Var (with_part path (part.Sub word)) ∷ c.pop-4.new.self = search rules in
    λ k. target_subscript word parameter.quoted parameter.asked (of.Var path) (with_part path (part.Sub word)) _ _ _ _
    (sym c.frames.view_is ∙ subscript_with c.frames.inside.opened c.pop.new.self _ word c.pop-3.new.self (search rules) taken)
    (parameter_with c.pop.new.self c.pop-2.new.self _ parameter.quoted parameter.asked (of.Var path) c.pop-4.new.self (search rules) taken-path)
    (parameter_with c.push_after.new.self c.pop-2.new.self _ parameter.quoted parameter.asked (of.Var (with_part path (part.Sub word))) c.pop-4.new.self (search rules) pushed)
