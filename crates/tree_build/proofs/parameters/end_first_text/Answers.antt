use Rattle.std.specs.Prelude.{◌≡◌, Bool, List, [], ◌∷◌, Option, Some, None}
use Rattle.std.proofs.Common.{rules, sym, ap, ◌∙◌}
use Rattle.ksh_ast.specs.declared.tree.ParamOf.TheVariants as of
use Rattle.ksh_ast.specs.declared.tree.Piece.{Piece}
use Rattle.ksh_lexer.specs.declared.kind.Form.{Form}
use Rattle.tree_build.specs.Frame.{Formed, Text}
use Rattle.tree_build.specs.Loads.{Loads, below, frames_of, top}
use Rattle.tree_build.specs.declared.opening.Open.{Open}
use Rattle.tree_build.specs.declared.opening.Open.TheVariants as opens
use Rattle.tree_build.proofs.Onto.{formed_on, text_on}
use Rattle.tree_build.proofs.Bracing.{reads_with_first_text}
use Rattle.tree_build.proofs.MovingS.{formed_last}
use Rattle.tree_build.proofs.parameters.end_first_text.Goals as goal

-- the text on top, where the pieces on top are known
text_with : (os os1 : List Open) (b : Loads) (ps : List Piece) (rest : List (List Piece)) → os ≡ opens.Text ∷ os1 → b.texts.words ≡ ps ∷ rest → frames_of os b ≡ Text ps ∷ frames_of os1 (record b { texts = record b.texts { words = rest } })
text_with os os1 b ps rest o e = text_on os os1 b o ∙ ap (λ (ws : List (List Piece)). Text (top [] ws) ∷ frames_of os1 (record b { texts = record b.texts { words = below ws } })) e

-- the form on top, where its first text is known
formed_first : (os os1 : List Open) (b : Loads) (quoted : Bool) (form : Form) (first : Option (List Piece)) (rest : List (Option (List Piece))) → os ≡ opens.Formed quoted form ∷ os1 → b.texts.firsts ≡ first ∷ rest → frames_of os b ≡ Formed quoted (top (of.Special []) b.texts.params) form first ∷ frames_of os1 (record b { texts = record b.texts { params = below b.texts.params; firsts = rest } })
formed_first os os1 b quoted form first rest o e = formed_on os os1 b quoted form o ∙ ap (λ (fs : List (Option (List Piece))). Formed quoted (top (of.Special []) b.texts.params) form (top None fs) ∷ frames_of os1 (record b { texts = record b.texts { params = below b.texts.params; firsts = below fs } })) e

pub returns-clause-grows : goal.returns-clause-grows
returns-clause-grows c =
    let form = c.in-Some-Formed in
    let pieces = c.in-Some.pieces in
    let taken : c.frames.inside.texts.words ≡ pieces ∷ c.pop-4.new.self = search rules in
    let none : c.frames.inside.texts.firsts ≡ None ∷ c.pop-3.new.self = search rules in
    let pushed : c.push-ready.new.self ≡ Some pieces ∷ c.pop-3.new.self = search rules in
    reads_with_first_text c.args.sign c.args.bytes.now pieces form.quoted _ form.form _ _ _ _ (search rules)
    (sym c.frames.view_is ∙ text_with c.frames.inside.opened c.pop.new.self _ pieces c.pop-4.new.self (search rules) taken)
    (formed_first c.pop.new.self c.pop-2.new.self _ form.quoted form.form None c.pop-3.new.self (search rules) none)
    (formed_first c.push_after.new.self c.pop-2.new.self _ form.quoted form.form (Some pieces) c.pop-3.new.self (search rules) pushed)

pub returns-clause-moves : goal.returns-clause-moves
returns-clause-moves c =
    let form = c.in-Some-Formed in
    let pieces = c.in-Some.pieces in
    let taken : c.frames.inside.texts.words ≡ pieces ∷ c.pop-4.new.self = search rules in
    let none : c.frames.inside.texts.firsts ≡ None ∷ c.pop-3.new.self = search rules in
    let pushed : c.push-ready.new.self ≡ Some pieces ∷ c.pop-3.new.self = search rules in
    λ k. formed_last pieces form.quoted _ _ form.form None _ _ _ _
    (sym c.frames.view_is ∙ text_with c.frames.inside.opened c.pop.new.self _ pieces c.pop-4.new.self (search rules) taken)
    (formed_first c.pop.new.self c.pop-2.new.self _ form.quoted form.form None c.pop-3.new.self (search rules) none)
    (formed_first c.push_after.new.self c.pop-2.new.self _ form.quoted form.form (Some pieces) c.pop-3.new.self (search rules) pushed)
