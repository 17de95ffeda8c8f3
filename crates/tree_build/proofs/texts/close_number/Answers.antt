use Rattle.std.specs.Prelude.{◌≡◌, List, [], ◌∷◌, ◌++◌}
use Rattle.std.proofs.Common.{rules, sym, ap, ◌∙◌}
use Rattle.ksh_ast.specs.declared.tree.Piece.{Piece}
use Rattle.ksh_ast.specs.declared.tree.Piece.TheVariants as piece
use Rattle.tree_build.specs.Frame.{Text}
use Rattle.tree_build.specs.Loads.{Loads, below, frames_of, top}
use Rattle.tree_build.specs.declared.opening.Open.{Open}
use Rattle.tree_build.specs.declared.opening.Open.TheVariants as opens
use Rattle.tree_build.proofs.Onto.{arithmetic_on, text_on}
use Rattle.tree_build.proofs.Texting.{reads_number}
use Rattle.tree_build.proofs.texts.close_number.Goals as goal

-- the text on top, where the pieces on top are known
text_with : (os os1 : List Open) (b : Loads) (ps : List Piece) (rest : List (List Piece)) → os ≡ opens.Text ∷ os1 → b.texts.words ≡ ps ∷ rest → frames_of os b ≡ Text ps ∷ frames_of os1 (record b { texts = record b.texts { words = rest } })
text_with os os1 b ps rest o e = text_on os os1 b o ∙ ap (λ (ws : List (List Piece)). Text (top [] ws) ∷ frames_of os1 (record b { texts = record b.texts { words = below ws } })) e

pub returns-clause-grows : goal.returns-clause-grows
returns-clause-grows c =
    let start = c.in-Some-Opened-Arithmetic in
    let inside = c.in-Some.inside in
    let text = c.in-Ok.text in
    let words = c.pop-4.new.self in
    let taken : c.frames.inside.texts.words ≡ inside ∷ words = search rules in
    let added : c.add-ready.new.self ≡ (top [] words ++ piece.Number text start.quoted ∷ []) ∷ below words = search rules in
    reads_number c.args.sign c.args.bytes.now (top [] words) inside start.quoted text _ _ _ _ _ (search rules) (search rules)
    (sym c.frames.view_is ∙ text_with c.frames.inside.opened c.pop.new.self _ inside words (search rules) taken)
    (arithmetic_on c.pop.new.self c.pop-2.new.self _ start.quoted (search rules))
    (text_on c.pop-2.new.self c.pop-3.new.self _ (search rules))
    (text_with c.push_after.new.self c.pop-3.new.self _ _ _ (search rules) added)
