use Rattle.std.proofs.Common.{rules, sym, ◌∙◌, ◌≡◌, [], ◌∷◌}
use Rattle.ksh_ast.specs.declared.tree.Command.TheVariants as commands
use Rattle.tree_build.specs.Loads.{top}
use Rattle.tree_build.proofs.Onto.{text_on, arithmetic_command_on, compound_on}
use Rattle.tree_build.proofs.Compounding.{reads_arithmetic_command}
use Rattle.tree_build.specs.Frame.{Compound}
use Rattle.tree_build.proofs.Moving.{two_for_one}
use Rattle.tree_moves.specs.Tags as tag
use Rattle.tree_build.proofs.Redirecting.{arith_redirects}
use Rattle.tree_build.proofs.compounds.close_arithmetic_command.Goals as goal

pub returns-clause-grows : goal.returns-clause-grows
returns-clause-grows c =
    let line = c.in-Some-Opened-ArithmeticCommand.line in
    let pieces = c.in-Some.pieces in
    let text = c.in-Ok.text in
    let taken : c.frames.inside.texts.words ≡ pieces ∷ c.pop-3.new.self = search rules in
    let pushed : c.push_compound-ready.new.commands ≡ commands.Arith text [] ∷ c.frames.inside.lists.commands = search rules in
    let bare : c.push_compound-ready.new.redirects ≡ [] ∷ c.frames.inside.redirections.redirects = search rules in
    reads_arithmetic_command c.args.sign c.args.bytes.now line (top [] c.frames.inside.texts.words) text _ _ _ _ (search rules) (rw taken (search rules))
    (sym c.frames.view_is ∙ text_on c.frames.inside.opened c.pop.new.self _ (search rules))
    (arithmetic_command_on c.pop.new.self c.pop-2.new.self _ line (search rules))
    (rw (pushed, bare, taken) (compound_on c.push_after.new.self c.pop-2.new.self _ line (search rules)))

pub returns-clause-moves : goal.returns-clause-moves
returns-clause-moves c =
    let line = c.in-Some-Opened-ArithmeticCommand.line in
    let pieces = c.in-Some.pieces in
    let text = c.in-Ok.text in
    let taken : c.frames.inside.texts.words ≡ pieces ∷ c.pop-3.new.self = search rules in
    let pushed : c.push_compound-ready.new.commands ≡ commands.Arith text [] ∷ c.frames.inside.lists.commands = search rules in
    let bare : c.push_compound-ready.new.redirects ≡ [] ∷ c.frames.inside.redirections.redirects = search rules in
    λ k. two_for_one tag.Text tag.ArithmeticCommand tag.Compound _ _ (Compound line (commands.Arith text []) []) _ _ _ _ (λ p q more e. arith_redirects text more e)
    (sym c.frames.view_is ∙ text_on c.frames.inside.opened c.pop.new.self _ (search rules))
    (arithmetic_command_on c.pop.new.self c.pop-2.new.self _ line (search rules))
    (rw (pushed, bare, taken) (compound_on c.push_after.new.self c.pop-2.new.self _ line (search rules)))
