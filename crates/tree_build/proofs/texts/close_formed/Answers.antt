use Rattle.std.specs.Prelude.{◌≡◌, Bool, List, [], ◌∷◌, ◌++◌, Option, None}
use Rattle.std.proofs.Common.{rules, sym, ap, ◌∙◌}
use Rattle.ksh_ast.specs.declared.tree.ParamOf.{ParamOf}
use Rattle.ksh_ast.specs.declared.tree.ParamOf.TheVariants as of
use Rattle.ksh_ast.specs.declared.tree.Piece.{Piece}
use Rattle.ksh_lexer.specs.declared.kind.Form.{Form}
use Rattle.tree_build.specs.Frame.{Formed, Text}
use Rattle.tree_build.specs.Loads.{Loads, below, frames_of, top}
use Rattle.tree_build.specs.declared.opening.Open.{Open}
use Rattle.tree_build.specs.declared.opening.Open.TheVariants as opens
use Rattle.tree_build.specs.Reads.{expansion}
use Rattle.tree_build.proofs.Onto.{formed_on, text_on}
use Rattle.tree_build.proofs.Texting.{reads_formed_expansion}
use Rattle.tree_build.proofs.texts.close_formed.Goals as goal

-- the text on top, where the pieces on top are known
text_with : (os os1 : List Open) (b : Loads) (ps : List Piece) (rest : List (List Piece)) → os ≡ opens.Text ∷ os1 → b.texts.words ≡ ps ∷ rest → frames_of os b ≡ Text ps ∷ frames_of os1 (record b { texts = record b.texts { words = rest } })
text_with os os1 b ps rest o e = text_on os os1 b o ∙ ap (λ (ws : List (List Piece)). Text (top [] ws) ∷ frames_of os1 (record b { texts = record b.texts { words = below ws } })) e

-- the form on top, where its first text is known
formed_first : (os os1 : List Open) (b : Loads) (quoted : Bool) (form : Form) (first : Option (List Piece)) (rest : List (Option (List Piece))) → os ≡ opens.Formed quoted form ∷ os1 → b.texts.firsts ≡ first ∷ rest → frames_of os b ≡ Formed quoted (top (of.Special []) b.texts.params) form first ∷ frames_of os1 (record b { texts = record b.texts { params = below b.texts.params; firsts = rest } })
formed_first os os1 b quoted form first rest o e = formed_on os os1 b quoted form o ∙ ap (λ (fs : List (Option (List Piece))). Formed quoted (top (of.Special []) b.texts.params) form (top None fs) ∷ frames_of os1 (record b { texts = record b.texts { params = below b.texts.params; firsts = below fs } })) e

-- the same, where the parameter is known too
formed_with : (os os1 : List Open) (b : Loads) (quoted : Bool) (form : Form) (p : ParamOf) (rest : List ParamOf) (first : Option (List Piece)) (firsts : List (Option (List Piece))) → os ≡ opens.Formed quoted form ∷ os1 → b.texts.params ≡ p ∷ rest → b.texts.firsts ≡ first ∷ firsts → frames_of os b ≡ Formed quoted p form first ∷ frames_of os1 (record b { texts = record b.texts { params = rest; firsts = firsts } })
formed_with os os1 b quoted form p rest first firsts o e f = formed_first os os1 b quoted form first firsts o f ∙ ap (λ (ps : List ParamOf). Formed quoted (top (of.Special []) ps) form first ∷ frames_of os1 (record b { texts = record b.texts { params = below ps; firsts = firsts } })) e

pub returns-clause-grows : goal.returns-clause-grows
returns-clause-grows c =
    let form = c.in-Some-Formed in
    let last = c.in-Some.last in
    let param = c.in-Some-pop.of in
    let first = c.in-Some-pop-2.first in
    let made = c.in-Some-formed.form in
    let words = c.pop-4.new.self in
    let taken : c.frames.inside.texts.words ≡ last ∷ words = search rules in
    let taken-of : c.frames.inside.texts.params ≡ param ∷ c.pop-5.new.self = search rules in
    let taken-first : c.frames.inside.texts.firsts ≡ first ∷ c.pop-6.new.self = search rules in
    let added : c.add-ready.new.self ≡ (top [] words ++ expansion param made form.quoted ∷ []) ∷ below words = search rules in
    reads_formed_expansion c.args.sign c.args.bytes.now (top [] words) last form.quoted param form.form first made _ _ _ _ _ (search rules) (search rules)
    (sym c.frames.view_is ∙ text_with c.frames.inside.opened c.pop.new.self _ last words (search rules) taken)
    (formed_with c.pop.new.self c.pop-2.new.self _ form.quoted form.form param c.pop-5.new.self first c.pop-6.new.self (search rules) taken-of taken-first)
    (text_on c.pop-2.new.self c.pop-3.new.self _ (search rules))
    (text_with c.push_after.new.self c.pop-3.new.self _ _ _ (search rules) added)
