use Rattle.std.specs.Prelude.{◌≡◌, Bool, List, [], ◌∷◌, ◌++◌}
use Rattle.std.proofs.Common.{rules, sym, ap, ◌∙◌}
use Rattle.ksh_ast.specs.declared.tree.ParamOf.{ParamOf}
use Rattle.ksh_ast.specs.declared.tree.ParamOf.TheVariants as of
use Rattle.ksh_ast.specs.declared.tree.Piece.{Piece}
use Rattle.tree_parts.specs.declared.asked.Asked.{Asked}
use Rattle.tree_parts.specs.Parts.{plain_form}
use Rattle.tree_build.specs.Frame.{Parameter, Text}
use Rattle.tree_build.specs.Loads.{Loads, below, frames_of, top}
use Rattle.tree_build.specs.declared.opening.Open.{Open}
use Rattle.tree_build.specs.declared.opening.Open.TheVariants as opens
use Rattle.tree_build.specs.Reads.{expansion}
use Rattle.tree_build.proofs.Onto.{parameter_on, text_on}
use Rattle.tree_build.proofs.Texting.{reads_plain_expansion}
use Rattle.tree_build.proofs.texts.close_plain.Goals as goal

-- the parameter on top, where that on its stack is known
parameter_with : (os os1 : List Open) (b : Loads) (quoted : Bool) (asked : Asked) (p : ParamOf) (rest : List ParamOf) → os ≡ opens.Parameter quoted asked ∷ os1 → b.texts.params ≡ p ∷ rest → frames_of os b ≡ Parameter quoted asked p ∷ frames_of os1 (record b { texts = record b.texts { params = rest } })
parameter_with os os1 b quoted asked p rest o e = parameter_on os os1 b quoted asked o ∙ ap (λ (ps : List ParamOf). Parameter quoted asked (top (of.Special []) ps) ∷ frames_of os1 (record b { texts = record b.texts { params = below ps } })) e

-- the text on top, where the pieces on top are known
text_with : (os os1 : List Open) (b : Loads) (ps : List Piece) (rest : List (List Piece)) → os ≡ opens.Text ∷ os1 → b.texts.words ≡ ps ∷ rest → frames_of os b ≡ Text ps ∷ frames_of os1 (record b { texts = record b.texts { words = rest } })
text_with os os1 b ps rest o e = text_on os os1 b o ∙ ap (λ (ws : List (List Piece)). Text (top [] ws) ∷ frames_of os1 (record b { texts = record b.texts { words = below ws } })) e

pub returns-clause-grows : goal.returns-clause-grows
returns-clause-grows c =
    let parameter = c.in-Some-Parameter in
    let words = c.frames.inside.texts.words in
    let taken : c.frames.inside.texts.params ≡ c.in-Some.of ∷ c.pop-3.new.self = search rules in
    let form : c.plain_form-form.result ≡ plain_form parameter.asked = search rules in
    let added : c.add-ready.new.self ≡ (top [] words ++ expansion c.in-Some.of c.plain_form-form.result parameter.quoted ∷ []) ∷ below words = search rules in
    reads_plain_expansion c.args.sign c.args.bytes.now (top [] words) parameter.quoted parameter.asked c.in-Some.of _ _ _ _ (search rules)
    (sym c.frames.view_is ∙ parameter_with c.frames.inside.opened c.pop.new.self _ parameter.quoted parameter.asked c.in-Some.of c.pop-3.new.self (search rules) taken)
    (text_on c.pop.new.self c.pop-2.new.self _ (search rules))
    (text_with c.push_after.new.self c.pop-2.new.self _ _ _ (search rules) (rw form at added))
