-- The sizes of parts of trees.
use Rattle.std.specs.Prelude.{ℕ, ◌≡◌, ◌+◌, List, [], ◌∷◌, length, map, reverse}
use Rattle.ast_size.specs.Size.{total, total_pairs, total_arms, total_links, size_of_expr, size_of_link, size_of_pieces, size_of_words, size_of_param, size_of_form, size_of_part, size_of_arith, arith_if_there, pair_sizes, size_of_member, size_of_argument, size_of_assign, size_of_redirects, size_of_term, size_of_test, size_of_condition, size_of_command, size_of_items, total_all, size_of_item, link_size, arm_sizes, size_of_case_item}
use Rattle.ast_size.specs.declared.left.Left.{Left}
use Rattle.ast_size.specs.declared.part.Part.{Part}
use Rattle.ast_size.specs.declared.part.Part.TheVariants as part

abbrev pub size_of : Part → ℕ
size_of part.Nothing = 0
size_of (part.Pieces pieces) = size_of_pieces pieces.now
size_of (part.Words words) = size_of_words words.now
size_of (part.Param param) = size_of_param param.now
size_of (part.Form form) = size_of_form form.now
size_of (part.Path parts) = total (map size_of_part parts.now)
size_of (part.Arith text) = size_of_arith text.now
size_of (part.Steps first test step) = arith_if_there first.now + arith_if_there test.now + arith_if_there step.now
size_of (part.Expr expr) = size_of_expr expr.now
size_of (part.ArithLinks links) = total (map size_of_link links.now)
size_of (part.ArithPath parts) = length parts.now
size_of (part.Pairs pairs) = total_pairs (map pair_sizes pairs.now)
size_of (part.Members members) = total (map size_of_member members.now)
size_of (part.Arguments arguments) = total (map size_of_argument arguments.now)
size_of (part.Assign assign) = size_of_assign assign.now
size_of (part.Assigns assigns) = total (map size_of_assign assigns.now)
size_of (part.Redirects redirects) = size_of_redirects redirects.now
size_of (part.Terms terms) = total (map size_of_term terms.now)
size_of (part.Test test) = size_of_test test.now
size_of (part.Condition condition) = size_of_condition condition.now
size_of (part.Command command) = size_of_command command.now
size_of (part.Items items) = size_of_items items.now
size_of (part.Lists lists) = total_all (map (map size_of_item) lists.now)
size_of (part.Links links) = total_links (map link_size links.now)
size_of (part.Arms arms) = total_arms (map arm_sizes arms.now)
size_of (part.CaseItems items) = total (map size_of_case_item items.now)

abbrev pub size_of_all : List Part → ℕ
size_of_all [] = 0
size_of_all (p ∷ ps) = size_of p + size_of_all ps

-- The parts that wait, the last that came first.
abbrev pub waiting : Left → List Part
waiting l = reverse l.parts.items

-- Nodes were met, and parts added to those that wait, that have that size together.
abbrev pub Adds : ℕ → ℕ → Left → Left → Type 0
Adds nodes size before after = nodes + size_of_all (waiting after) ≡ size + size_of_all (waiting before)
