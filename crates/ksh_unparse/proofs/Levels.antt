-- What three forms of the tree put, by what their parts put.
use Rattle.std.proofs.Common.{◌≡◌, Option, Some, None, List, map, codes, ap, sym, ◌∙◌}
use Rattle.ksh_ast.specs.declared.redirect.Redirect.{Redirect}
use Rattle.ksh_ast.specs.declared.tree.Argument.{Argument}
use Rattle.ksh_ast.specs.declared.tree.Arm.{Arm}
use Rattle.ksh_ast.specs.declared.tree.Assign.{Assign}
use Rattle.ksh_ast.specs.declared.tree.AssignValue.{AssignValue-F, fold-roll-AssignValue}
use Rattle.ksh_ast.specs.declared.tree.AssignValue.TheVariants as value
use Rattle.ksh_ast.specs.declared.tree.Command.{Command, Command-F, fold-roll-Command}
use Rattle.ksh_ast.specs.declared.tree.Command.TheVariants as command
use Rattle.ksh_ast.specs.declared.tree.Item.{Item}
use Rattle.ksh_ast.specs.declared.tree.Pair.{Pair}
use Rattle.ksh_ast.specs.declared.tree.Piece.{Piece}
use Rattle.ksh_unparse.specs.Layout.{Mark}
use Rattle.ksh_unparse.specs.Marks.{Put, say}
use Rattle.ksh_unparse.specs.Words.{Spot, Form}
use Rattle.ksh_unparse.specs.Commands.{Told, pairs_put, simple_put, arms_put, redirects_put}
use Rattle.ksh_unparse.specs.Stack.{redirect_spots, pair_spots, arm_puts, maybe_else}
use Rattle.ksh_unparse.specs.Tree.{argument_step, arith_step, value_step, command_step, member_step, form_step, of_step, piece_step, test_step, part_step, assign_step, case_item_step, item_step, param_step, term_step, path_step, value_put, command_put, argument_put, assign_put, piece_spot, item_put}

pub value_pairs : (pairs : List (Pair (List Piece))) (rest : List Mark) → value_put (value.Pairs pairs) rest ≡ say (codes "(") (pairs_put (map pair_spots pairs) (say (codes ")") rest))
unfolding value_put piece_spot
value_pairs pairs rest = ap (λ v. value_put v rest) (sym (value.rolls-Pairs pairs)) ∙ ap (λ f. f rest) (fold-roll-AssignValue Told Put Put Put Put Form Put Spot Put Put Put Put Put Put Put Put argument_step arith_step value_step command_step member_step form_step of_step piece_step test_step part_step assign_step case_item_step item_step param_step term_step path_step (AssignValue-F.Pairs pairs))

pub command_simple : (assigns : List Assign) (words : List Argument) (redirects : List (Redirect (List Piece))) (rest : List Mark) → command_put (command.Simple assigns words redirects) rest ≡ simple_put (map assign_put assigns) (map argument_put words) (map redirect_spots redirects) rest
unfolding command_put argument_put assign_put piece_spot
command_simple assigns words redirects rest = ap (λ c. command_put c rest) (sym (command.rolls-Simple assigns words redirects)) ∙ ap (λ f. f rest) (fold-roll-Command Told Put Put Put Put Form Put Spot Put Put Put Put Put Put Put Put argument_step arith_step value_step command_step member_step form_step of_step piece_step test_step part_step assign_step case_item_step item_step param_step term_step path_step (Command-F.Simple assigns words redirects))

command_if : (arms : List (Arm (List Item))) (otherwise : Option (List Item)) (redirects : List (Redirect (List Piece))) (rest : List Mark) → command_put (command.If arms otherwise redirects) rest ≡ arms_put (map arm_puts arms) (maybe_else otherwise (say (codes "fi") (redirects_put (map redirect_spots redirects) rest)))
unfolding command_put item_put piece_spot
command_if arms None redirects rest = ap (λ c. command_put c rest) (sym (command.rolls-If arms None redirects)) ∙ ap (λ f. f rest) (fold-roll-Command Told Put Put Put Put Form Put Spot Put Put Put Put Put Put Put Put argument_step arith_step value_step command_step member_step form_step of_step piece_step test_step part_step assign_step case_item_step item_step param_step term_step path_step (Command-F.If arms None redirects))
command_if arms (Some list) redirects rest = ap (λ c. command_put c rest) (sym (command.rolls-If arms (Some list) redirects)) ∙ ap (λ f. f rest) (fold-roll-Command Told Put Put Put Put Form Put Spot Put Put Put Put Put Put Put Put argument_step arith_step value_step command_step member_step form_step of_step piece_step test_step part_step assign_step case_item_step item_step param_step term_step path_step (Command-F.If arms (Some list) redirects))

-- the same of what the code holds of the command
pub put_if : (c : Command) (arms told : List (Arm (List Item))) (otherwise : Option (List Item)) (redirects shown : List (Redirect (List Piece))) (rest : List Mark) → c ≡ command.If arms otherwise redirects → told ≡ arms → shown ≡ redirects
    → arms_put (map arm_puts told) (maybe_else otherwise (say (codes "fi") (redirects_put (map redirect_spots shown) rest))) ≡ command_put c rest
put_if c arms told otherwise redirects shown rest e a r =
    ap (λ l. arms_put (map arm_puts l) (maybe_else otherwise (say (codes "fi") (redirects_put (map redirect_spots shown) rest)))) a
    ∙ ap (λ l. arms_put (map arm_puts arms) (maybe_else otherwise (say (codes "fi") (redirects_put (map redirect_spots l) rest)))) r
    ∙ sym (command_if arms otherwise redirects rest)
    ∙ ap (λ k. command_put k rest) (sym e)
