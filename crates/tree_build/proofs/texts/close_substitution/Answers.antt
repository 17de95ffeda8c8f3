use Rattle.std.specs.Prelude.{◌≡◌, List, [], ◌∷◌, ◌++◌}
use Rattle.std.proofs.Common.{rules, sym, ap, ◌∙◌}
use Rattle.ksh_ast.specs.declared.tree.Item.{Item}
use Rattle.ksh_ast.specs.declared.tree.Piece.{Piece}
use Rattle.ksh_ast.specs.declared.tree.Piece.TheVariants as piece
use Rattle.tree_parts.specs.Parts.{subst_kind}
use Rattle.tree_build.specs.Frame.{Listed, Text}
use Rattle.tree_build.specs.Loads.{Loads, below, frames_of, top}
use Rattle.tree_build.specs.declared.opening.Open.{Open}
use Rattle.tree_build.specs.declared.opening.Open.TheVariants as opens
use Rattle.tree_build.proofs.Onto.{listed_on, substitution_on, text_on}
use Rattle.tree_build.proofs.Texting.{reads_substitution}
use Rattle.tree_build.proofs.texts.close_substitution.Goals as goal

-- the list on top, where that on its stack is known
listed_with : (os os1 : List Open) (b : Loads) (is : List Item) (rest : List (List Item)) → os ≡ opens.Listed ∷ os1 → b.lists.lists ≡ is ∷ rest → frames_of os b ≡ Listed is ∷ frames_of os1 (record b { lists = record b.lists { lists = rest } })
listed_with os os1 b is rest o e = listed_on os os1 b o ∙ ap (λ (ls : List (List Item)). Listed (top [] ls) ∷ frames_of os1 (record b { lists = record b.lists { lists = below ls } })) e

-- the text on top, where the pieces on top are known
text_with : (os os1 : List Open) (b : Loads) (ps : List Piece) (rest : List (List Piece)) → os ≡ opens.Text ∷ os1 → b.texts.words ≡ ps ∷ rest → frames_of os b ≡ Text ps ∷ frames_of os1 (record b { texts = record b.texts { words = rest } })
text_with os os1 b ps rest o e = text_on os os1 b o ∙ ap (λ (ws : List (List Piece)). Text (top [] ws) ∷ frames_of os1 (record b { texts = record b.texts { words = below ws } })) e

pub returns-clause-grows : goal.returns-clause-grows
returns-clause-grows c =
    let start = c.in-Some-Opened-Substitution in
    let body = c.in-Some.body in
    let words = c.frames.inside.texts.words in
    let taken : c.frames.inside.lists.lists ≡ body ∷ c.pop-4.new.self = search rules in
    let kind : c.subst_kind-kind.result ≡ subst_kind start.opened body = search rules in
    let added : c.add-ready.new.self ≡ (top [] words ++ piece.Subst body c.subst_kind-kind.result start.quoted ∷ []) ∷ below words = search rules in
    reads_substitution c.args.sign c.args.bytes.now (top [] words) start.quoted start.opened body _ _ _ _ _ (search rules)
    (sym c.frames.view_is ∙ listed_with c.frames.inside.opened c.pop.new.self _ body c.pop-4.new.self (search rules) taken)
    (substitution_on c.pop.new.self c.pop-2.new.self _ start.quoted start.opened (search rules))
    (text_on c.pop-2.new.self c.pop-3.new.self _ (search rules))
    (text_with c.push_after.new.self c.pop-3.new.self _ _ _ (search rules) (rw kind at added))
