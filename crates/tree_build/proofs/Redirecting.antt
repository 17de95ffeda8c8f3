-- Redirections may stand behind each compound command.
use Rattle.std.specs.Prelude.{◌≡◌, ℕ, Bool, List, [], ◌∷◌, Option, Some, None}
use Rattle.std.proofs.Common.{rules, sym, ◌∙◌, ap}
use Rattle.ksh_ast.specs.declared.tree.Command.{Command, Command-F, out-Command, the_lemmas}
use Rattle.ksh_ast.specs.declared.tree.Command.TheVariants as command
use Rattle.ksh_ast.specs.declared.redirect.Redirect.{Redirect}
use Rattle.ksh_ast.specs.declared.tree.Arith.{Arith}
use Rattle.ksh_ast.specs.declared.tree.Arm.{Arm}
use Rattle.ksh_ast.specs.declared.tree.Item.{Item}
use Rattle.ksh_ast.specs.declared.tree.Piece.{Piece}
use Rattle.ksh_ast.specs.declared.tree.Term.{Term}
use Rattle.tree_parts.specs.Parts.{redirects_by, with_redirects}
use Rattle.tree_build.proofs.MovingR.{some_is}

pub group_redirects : (body : List Item) (more : List (Redirect (List Piece))) → with_redirects (command.Group body []) more ≡ None → ⊥
group_redirects body more e =
    let o : out-Command (command.Group body []) ≡ Command-F.Group body [] = search (rules, the_lemmas) in
    some_is (command.Group body more) (with_redirects (command.Group body []) more) (ap (λ f. redirects_by f more) o) e

pub subshell_redirects : (body : List Item) (more : List (Redirect (List Piece))) → with_redirects (command.Subshell body []) more ≡ None → ⊥
subshell_redirects body more e =
    let o : out-Command (command.Subshell body []) ≡ Command-F.Subshell body [] = search (rules, the_lemmas) in
    some_is (command.Subshell body more) (with_redirects (command.Subshell body []) more) (ap (λ f. redirects_by f more) o) e

pub arith_redirects : (text : Arith) (more : List (Redirect (List Piece))) → with_redirects (command.Arith text []) more ≡ None → ⊥
arith_redirects text more e =
    let o : out-Command (command.Arith text []) ≡ Command-F.Arith text [] = search (rules, the_lemmas) in
    some_is (command.Arith text more) (with_redirects (command.Arith text []) more) (ap (λ f. redirects_by f more) o) e

pub cond_redirects : (condition : List (List Term)) (more : List (Redirect (List Piece))) → with_redirects (command.Cond condition []) more ≡ None → ⊥
cond_redirects condition more e =
    let o : out-Command (command.Cond condition []) ≡ Command-F.Cond condition [] = search (rules, the_lemmas) in
    some_is (command.Cond condition more) (with_redirects (command.Cond condition []) more) (ap (λ f. redirects_by f more) o) e

pub if_redirects : (arms : List (Arm (List Item))) (otherwise : Option (List Item)) (more : List (Redirect (List Piece))) → with_redirects (command.If arms otherwise []) more ≡ None → ⊥
if_redirects arms otherwise more e =
    let o : out-Command (command.If arms otherwise []) ≡ Command-F.If arms otherwise [] = search (rules, the_lemmas) in
    some_is (command.If arms otherwise more) (with_redirects (command.If arms otherwise []) more) (ap (λ f. redirects_by f more) o) e

pub loop_redirects : (until : Bool) (test : List Item) (body : List Item) (more : List (Redirect (List Piece))) → with_redirects (command.Loop until test body []) more ≡ None → ⊥
loop_redirects until test body more e =
    let o : out-Command (command.Loop until test body []) ≡ Command-F.Loop until test body [] = search (rules, the_lemmas) in
    some_is (command.Loop until test body more) (with_redirects (command.Loop until test body []) more) (ap (λ f. redirects_by f more) o) e
