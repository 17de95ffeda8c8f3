-- Commands of a text.
use Rattle.std.specs.Prelude.{◌≡◌, ℕ, List, Result, Err}
use Rattle.std.proofs.Common.{◌∙◌, ap}
use Rattle.ksh_ast.specs.declared.tree.Item as tree
use Rattle.ksh_lower.specs.Lowers.{Lowers}
use Rattle.ksh_lexer.specs.declared.fault.SyntaxFault.{SyntaxFault}
use Rattle.ksh_scan.specs.Scan.{HasFault}
use Rattle.ksh_parser.specs.declared.refused.Unparsed.{Unparsed}
use Rattle.ksh_parser.specs.declared.refused.Unparsed.TheVariants.{Fault}
use Rattle.ksh_parser.specs.Tree.{IsTree}
use Rattle.ksh_script.specs.declared.tree.Item.{Item}
use Rattle.ksh_program.specs.Program.{IsProgram}

pub is_program : (text : List ℕ) (parsed : List tree.Item) (items : List Item) → IsTree text parsed → Lowers parsed items → IsProgram text items
is_program text parsed items is_tree lowers = record { parsed = parsed; is_tree = is_tree; lowers = lowers }

abbrev refuse : {A : Type 0} → Unparsed → Result A Unparsed
refuse why = Err why

-- a fault that is passed on is the text's
pub passes : {A B : Type 0} (text : List ℕ) (r : Result A Unparsed) (why : Unparsed) → ((f : SyntaxFault) → r ≡ Err (Fault f) → HasFault text f) → r ≡ Err why
    → (f : SyntaxFault) → (let u : Result B Unparsed = Err why in u ≡ Err (Fault f)) → HasFault text f
passes text r why has is f e =
    let same : why ≡ Fault f = cc in
    has f (is ∙ ap (λ u. refuse u) same)
