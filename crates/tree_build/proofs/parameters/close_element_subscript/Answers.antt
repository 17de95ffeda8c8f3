use Rattle.std.specs.Prelude.{◌≡◌, ℕ, List, [], ◌∷◌}
use Rattle.std.proofs.Common.{rules, sym, ap, ◌∙◌}
use Rattle.ksh_ast.specs.declared.tree.Piece.{Piece}
use Rattle.ksh_ast.specs.declared.tree.TreePart.TheVariants as part
use Rattle.ksh_ast.specs.declared.tree.TreePath.{TreePath}
use Rattle.tree_parts.specs.Parts.{path_of, with_part}
use Rattle.tree_build.specs.Frame.{Subscript, Target}
use Rattle.tree_build.specs.Loads.{Loads, below, frames_of, top}
use Rattle.tree_build.specs.declared.opening.Open.{Open}
use Rattle.tree_build.specs.declared.opening.Open.TheVariants as opens
use Rattle.tree_build.proofs.Onto.{subscript_on, target_on}
use Rattle.tree_build.proofs.Wording.{reads_element_subscript}
use Rattle.tree_build.proofs.parameters.close_element_subscript.Goals as goal

-- the subscript on top, where the pieces on top are known
subscript_with : (os os1 : List Open) (b : Loads) (ps : List Piece) (rest : List (List Piece)) → os ≡ opens.Subscript ∷ os1 → b.texts.words ≡ ps ∷ rest → frames_of os b ≡ Subscript ps ∷ frames_of os1 (record b { texts = record b.texts { words = rest } })
subscript_with os os1 b ps rest o e = subscript_on os os1 b o ∙ ap (λ (ws : List (List Piece)). Subscript (top [] ws) ∷ frames_of os1 (record b { texts = record b.texts { words = below ws } })) e

-- the path of an assignment on top, where that on its stack is known
target_with : (os os1 : List Open) (b : Loads) (from : ℕ) (path : TreePath) (rest : List TreePath) → os ≡ opens.Target from ∷ os1 → b.texts.paths ≡ path ∷ rest → frames_of os b ≡ Target from path ∷ frames_of os1 (record b { texts = record b.texts { paths = rest } })
target_with os os1 b from path rest o e = target_on os os1 b from o ∙ ap (λ (ps : List TreePath). Target from (top (path_of []) ps) ∷ frames_of os1 (record b { texts = record b.texts { paths = below ps } })) e

pub returns-clause-grows : goal.returns-clause-grows
returns-clause-grows c =
    let from = c.in-Some-Target.from in
    let word = c.in-Some.word in
    let path = c.in-Some-pop.path in
    let taken : c.frames.inside.texts.words ≡ word ∷ c.pop-3.new.self = search rules in
    let taken-path : c.frames.inside.texts.paths ≡ path ∷ c.pop-4.new.self = search rules in
    let pushed : c.push-ready.new.self ≡ with_part path (part.Sub word) ∷ c.pop-4.new.self = search rules in
    reads_element_subscript c.args.sign c.args.bytes.now from word path _ _ _ _ (search rules)
    (sym c.frames.view_is ∙ subscript_with c.frames.inside.opened c.pop.new.self _ word c.pop-3.new.self (search rules) taken)
    (target_with c.pop.new.self c.pop-2.new.self _ from path c.pop-4.new.self (search rules) taken-path)
    (target_with c.push_after.new.self c.pop-2.new.self _ from (with_part path (part.Sub word)) c.pop-4.new.self (search rules) pushed)
