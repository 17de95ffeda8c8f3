-- What stands on top of frames, by what is open. Made by onto.py from `specs/Loads.antt` and `specs/Frame.antt`.
use Rattle.std.specs.Prelude.{ℕ, Bool, false, List, [], ◌∷◌, Option, Some, None}
use Rattle.ksh_ast.specs.declared.redirect.Redirect.{Redirect}
use Rattle.ksh_ast.specs.declared.redirect.RedirectForm.{RedirectForm}
use Rattle.ksh_ast.specs.declared.redirect.RedirectTo.{RedirectTo}
use Rattle.ksh_ast.specs.declared.tree.Argument.{Argument}
use Rattle.ksh_ast.specs.declared.tree.Arith.{Arith}
use Rattle.ksh_ast.specs.declared.tree.Arm.{Arm}
use Rattle.ksh_ast.specs.declared.tree.Assign.{Assign}
use Rattle.ksh_ast.specs.declared.tree.CaseItem.{CaseItem}
use Rattle.ksh_ast.specs.declared.tree.Command.{Command}
use Rattle.ksh_ast.specs.declared.tree.FunctionDef.{FunctionDef}
use Rattle.ksh_ast.specs.declared.tree.Item.{Item}
use Rattle.ksh_ast.specs.declared.tree.Link.{Link}
use Rattle.ksh_ast.specs.declared.tree.ParamOf.{ParamOf}
use Rattle.ksh_ast.specs.declared.tree.Piece.{Piece}
use Rattle.ksh_ast.specs.declared.tree.Term.{Term}
use Rattle.ksh_ast.specs.declared.tree.Test.{Test}
use Rattle.ksh_ast.specs.declared.tree.TreePath.{TreePath}
use Rattle.ksh_ast.specs.declared.redirect.RedirectForm.TheVariants as read
use Rattle.ksh_ast.specs.declared.redirect.RedirectTo.TheVariants as usual
use Rattle.ksh_ast.specs.declared.tree.Command.TheVariants as command
use Rattle.ksh_ast.specs.declared.tree.ParamOf.TheVariants as of
use Rattle.ksh_ast.specs.declared.tree.Test.TheVariants as test
use Rattle.tree_parts.specs.declared.entry.Entry.{Entry}
use Rattle.tree_parts.specs.Parts.{assign, path_of, redirection}
use Rattle.tree_build.specs.declared.frames.Texts.{Texts}
use Rattle.tree_build.specs.declared.frames.Redirections.{Redirections}
use Rattle.tree_build.specs.declared.frames.Simples.{Simples}
use Rattle.tree_build.specs.declared.frames.Lists.{Lists}
use Rattle.tree_build.specs.declared.frames.Compounds.{Compounds}
use Rattle.std.specs.Prelude.{◌≡◌}
use Rattle.std.proofs.Common.{ap, subst}
use Rattle.tree_build.specs.Frame.{Arithmetic, ArithmeticCommand, Assigned, Assigning, Braces, Bracket, Case, CaseWord, Cases, Chain, Compound, ConditionCommand, Defined, Element, Else, Finished, For, ForArithmetic, ForArithmeticBody, ForBody, ForName, ForReady, ForWords, Formed, Function, FunctionName, Group, HereBody, HereOperator, HereWord, If, Keyed, Lines, Linked, Listed, Loop, LoopBody, MemberBody, Nested, NoLink, Operands, Parameter, Patterns, Piped, Redirected, Redirection, Simple, Stages, Subscript, Subshell, Substitution, Target, Terms, Tested, Text, Then, Value, Whole, WordStart}
use Rattle.tree_build.specs.Loads.{IsThere, Loaded, Loads, below, frames_of, top}
use Rattle.tree_build.specs.declared.opening.Open.{Open}
use Rattle.tree_build.specs.declared.opening.Open.TheVariants as opens
use Rattle.tree_build.specs.declared.opening.Opening.TheVariants as opening
use Rattle.tree_parts.specs.declared.asked.Asked.{Asked}
use Rattle.ksh_lexer.specs.declared.kind.Form.{Form}
use Rattle.ksh_ast.specs.declared.kinds.SubstKind.{SubstKind}

pub text_on : (os os1 : List Open) (b : Loads) → os ≡ opens.Text ∷ os1 → frames_of os b ≡ Text (top [] b.texts.words) ∷ frames_of os1 (record b { texts = record b.texts { words = below b.texts.words } })
text_on os os1 b h = ap (λ x. frames_of x b) h

pub text_loaded : (os os1 : List Open) (b : Loads) → os ≡ opens.Text ∷ os1 → Loaded os b → IsThere b.texts.words × Loaded os1 (record b { texts = record b.texts { words = below b.texts.words } })
text_loaded os os1 b h l = subst (λ x. Loaded x b) h l

pub subscript_on : (os os1 : List Open) (b : Loads) → os ≡ opens.Subscript ∷ os1 → frames_of os b ≡ Subscript (top [] b.texts.words) ∷ frames_of os1 (record b { texts = record b.texts { words = below b.texts.words } })
subscript_on os os1 b h = ap (λ x. frames_of x b) h

pub subscript_loaded : (os os1 : List Open) (b : Loads) → os ≡ opens.Subscript ∷ os1 → Loaded os b → IsThere b.texts.words × Loaded os1 (record b { texts = record b.texts { words = below b.texts.words } })
subscript_loaded os os1 b h l = subst (λ x. Loaded x b) h l

pub parameter_on : (os os1 : List Open) (b : Loads) (quoted : Bool) (asked : Asked) → os ≡ opens.Parameter quoted asked ∷ os1 → frames_of os b ≡ Parameter quoted asked (top (of.Special []) b.texts.params) ∷ frames_of os1 (record b { texts = record b.texts { params = below b.texts.params } })
parameter_on os os1 b quoted asked h = ap (λ x. frames_of x b) h

pub parameter_loaded : (os os1 : List Open) (b : Loads) (quoted : Bool) (asked : Asked) → os ≡ opens.Parameter quoted asked ∷ os1 → Loaded os b → IsThere b.texts.params × Loaded os1 (record b { texts = record b.texts { params = below b.texts.params } })
parameter_loaded os os1 b quoted asked h l = subst (λ x. Loaded x b) h l

pub formed_on : (os os1 : List Open) (b : Loads) (quoted : Bool) (form : Form) → os ≡ opens.Formed quoted form ∷ os1 → frames_of os b ≡ Formed quoted (top (of.Special []) b.texts.params) form (top None b.texts.firsts) ∷ frames_of os1 (record b { texts = record b.texts { params = below b.texts.params; firsts = below b.texts.firsts } })
formed_on os os1 b quoted form h = ap (λ x. frames_of x b) h

pub formed_loaded : (os os1 : List Open) (b : Loads) (quoted : Bool) (form : Form) → os ≡ opens.Formed quoted form ∷ os1 → Loaded os b → IsThere b.texts.params × IsThere b.texts.firsts × Loaded os1 (record b { texts = record b.texts { params = below b.texts.params; firsts = below b.texts.firsts } })
formed_loaded os os1 b quoted form h l = subst (λ x. Loaded x b) h l

pub whole_on : (os os1 : List Open) (b : Loads) (from : ℕ) (to : ℕ) (assigns : Bool) → os ≡ opens.Whole from to assigns ∷ os1 → frames_of os b ≡ Whole (top [] b.texts.words) from to assigns ∷ frames_of os1 (record b { texts = record b.texts { words = below b.texts.words } })
whole_on os os1 b from to assigns h = ap (λ x. frames_of x b) h

pub whole_loaded : (os os1 : List Open) (b : Loads) (from : ℕ) (to : ℕ) (assigns : Bool) → os ≡ opens.Whole from to assigns ∷ os1 → Loaded os b → IsThere b.texts.words × Loaded os1 (record b { texts = record b.texts { words = below b.texts.words } })
whole_loaded os os1 b from to assigns h l = subst (λ x. Loaded x b) h l

pub target_on : (os os1 : List Open) (b : Loads) (from : ℕ) → os ≡ opens.Target from ∷ os1 → frames_of os b ≡ Target from (top (path_of []) b.texts.paths) ∷ frames_of os1 (record b { texts = record b.texts { paths = below b.texts.paths } })
target_on os os1 b from h = ap (λ x. frames_of x b) h

pub target_loaded : (os os1 : List Open) (b : Loads) (from : ℕ) → os ≡ opens.Target from ∷ os1 → Loaded os b → IsThere b.texts.paths × Loaded os1 (record b { texts = record b.texts { paths = below b.texts.paths } })
target_loaded os os1 b from h l = subst (λ x. Loaded x b) h l

pub element_on : (os os1 : List Open) (b : Loads) (from : ℕ) → os ≡ opens.Element from ∷ os1 → frames_of os b ≡ Element from (top (path_of []) b.texts.paths) ∷ frames_of os1 (record b { texts = record b.texts { paths = below b.texts.paths } })
element_on os os1 b from h = ap (λ x. frames_of x b) h

pub element_loaded : (os os1 : List Open) (b : Loads) (from : ℕ) → os ≡ opens.Element from ∷ os1 → Loaded os b → IsThere b.texts.paths × Loaded os1 (record b { texts = record b.texts { paths = below b.texts.paths } })
element_loaded os os1 b from h l = subst (λ x. Loaded x b) h l

pub assigning_on : (os os1 : List Open) (b : Loads) (append : Bool) → os ≡ opens.Assigning append ∷ os1 → frames_of os b ≡ Assigning (top (path_of []) b.texts.paths) append ∷ frames_of os1 (record b { texts = record b.texts { paths = below b.texts.paths } })
assigning_on os os1 b append h = ap (λ x. frames_of x b) h

pub assigning_loaded : (os os1 : List Open) (b : Loads) (append : Bool) → os ≡ opens.Assigning append ∷ os1 → Loaded os b → IsThere b.texts.paths × Loaded os1 (record b { texts = record b.texts { paths = below b.texts.paths } })
assigning_loaded os os1 b append h l = subst (λ x. Loaded x b) h l

pub assigned_on : (os os1 : List Open) (b : Loads) → os ≡ opens.Assigned ∷ os1 → frames_of os b ≡ Assigned (top (assign (path_of []) false []) b.simples.assigned) ∷ frames_of os1 (record b { simples = record b.simples { assigned = below b.simples.assigned } })
assigned_on os os1 b h = ap (λ x. frames_of x b) h

pub assigned_loaded : (os os1 : List Open) (b : Loads) → os ≡ opens.Assigned ∷ os1 → Loaded os b → IsThere b.simples.assigned × Loaded os1 (record b { simples = record b.simples { assigned = below b.simples.assigned } })
assigned_loaded os os1 b h l = subst (λ x. Loaded x b) h l

pub keyed_on : (os os1 : List Open) (b : Loads) → os ≡ opens.Keyed ∷ os1 → frames_of os b ≡ Keyed (top [] b.texts.words) ∷ frames_of os1 (record b { texts = record b.texts { words = below b.texts.words } })
keyed_on os os1 b h = ap (λ x. frames_of x b) h

pub keyed_loaded : (os os1 : List Open) (b : Loads) → os ≡ opens.Keyed ∷ os1 → Loaded os b → IsThere b.texts.words × Loaded os1 (record b { texts = record b.texts { words = below b.texts.words } })
keyed_loaded os os1 b h l = subst (λ x. Loaded x b) h l

pub value_on : (os os1 : List Open) (b : Loads) → os ≡ opens.Value ∷ os1 → frames_of os b ≡ Value (top [] b.texts.entries) ∷ frames_of os1 (record b { texts = record b.texts { entries = below b.texts.entries } })
value_on os os1 b h = ap (λ x. frames_of x b) h

pub value_loaded : (os os1 : List Open) (b : Loads) → os ≡ opens.Value ∷ os1 → Loaded os b → IsThere b.texts.entries × Loaded os1 (record b { texts = record b.texts { entries = below b.texts.entries } })
value_loaded os os1 b h l = subst (λ x. Loaded x b) h l

pub redirection_on : (os os1 : List Open) (b : Loads) → os ≡ opens.Redirection ∷ os1 → frames_of os b ≡ Redirection (top usual.Usual b.redirections.targets) (top read.Read b.redirections.forms) ∷ frames_of os1 (record b { redirections = record b.redirections { targets = below b.redirections.targets; forms = below b.redirections.forms } })
redirection_on os os1 b h = ap (λ x. frames_of x b) h

pub redirection_loaded : (os os1 : List Open) (b : Loads) → os ≡ opens.Redirection ∷ os1 → Loaded os b → IsThere b.redirections.targets × IsThere b.redirections.forms × Loaded os1 (record b { redirections = record b.redirections { targets = below b.redirections.targets; forms = below b.redirections.forms } })
redirection_loaded os os1 b h l = subst (λ x. Loaded x b) h l

pub here_operator_on : (os os1 : List Open) (b : Loads) → os ≡ opens.HereOperator ∷ os1 → frames_of os b ≡ HereOperator (top usual.Usual b.redirections.targets) ∷ frames_of os1 (record b { redirections = record b.redirections { targets = below b.redirections.targets } })
here_operator_on os os1 b h = ap (λ x. frames_of x b) h

pub here_operator_loaded : (os os1 : List Open) (b : Loads) → os ≡ opens.HereOperator ∷ os1 → Loaded os b → IsThere b.redirections.targets × Loaded os1 (record b { redirections = record b.redirections { targets = below b.redirections.targets } })
here_operator_loaded os os1 b h l = subst (λ x. Loaded x b) h l

pub here_word_on : (os os1 : List Open) (b : Loads) → os ≡ opens.HereWord ∷ os1 → frames_of os b ≡ HereWord (top usual.Usual b.redirections.targets) (top [] b.redirections.ends) ∷ frames_of os1 (record b { redirections = record b.redirections { targets = below b.redirections.targets; ends = below b.redirections.ends } })
here_word_on os os1 b h = ap (λ x. frames_of x b) h

pub here_word_loaded : (os os1 : List Open) (b : Loads) → os ≡ opens.HereWord ∷ os1 → Loaded os b → IsThere b.redirections.targets × IsThere b.redirections.ends × Loaded os1 (record b { redirections = record b.redirections { targets = below b.redirections.targets; ends = below b.redirections.ends } })
here_word_loaded os os1 b h l = subst (λ x. Loaded x b) h l

pub here_body_on : (os os1 : List Open) (b : Loads) → os ≡ opens.HereBody ∷ os1 → frames_of os b ≡ HereBody (top usual.Usual b.redirections.targets) (top [] b.redirections.ends) ∷ frames_of os1 (record b { redirections = record b.redirections { targets = below b.redirections.targets; ends = below b.redirections.ends } })
here_body_on os os1 b h = ap (λ x. frames_of x b) h

pub here_body_loaded : (os os1 : List Open) (b : Loads) → os ≡ opens.HereBody ∷ os1 → Loaded os b → IsThere b.redirections.targets × IsThere b.redirections.ends × Loaded os1 (record b { redirections = record b.redirections { targets = below b.redirections.targets; ends = below b.redirections.ends } })
here_body_loaded os os1 b h l = subst (λ x. Loaded x b) h l

pub redirected_on : (os os1 : List Open) (b : Loads) → os ≡ opens.Redirected ∷ os1 → frames_of os b ≡ Redirected (top (redirection usual.Usual read.Read []) b.redirections.redirected) ∷ frames_of os1 (record b { redirections = record b.redirections { redirected = below b.redirections.redirected } })
redirected_on os os1 b h = ap (λ x. frames_of x b) h

pub redirected_loaded : (os os1 : List Open) (b : Loads) → os ≡ opens.Redirected ∷ os1 → Loaded os b → IsThere b.redirections.redirected × Loaded os1 (record b { redirections = record b.redirections { redirected = below b.redirections.redirected } })
redirected_loaded os os1 b h l = subst (λ x. Loaded x b) h l

pub simple_on : (os os1 : List Open) (b : Loads) (at : ℕ) (line : ℕ) → os ≡ opens.Simple at line ∷ os1 → frames_of os b ≡ Simple at line (top [] b.simples.assigns) (top [] b.simples.arguments) (top [] b.redirections.redirects) ∷ frames_of os1 (record b { simples = record b.simples { assigns = below b.simples.assigns; arguments = below b.simples.arguments }; redirections = record b.redirections { redirects = below b.redirections.redirects } })
simple_on os os1 b at line h = ap (λ x. frames_of x b) h

pub simple_loaded : (os os1 : List Open) (b : Loads) (at : ℕ) (line : ℕ) → os ≡ opens.Simple at line ∷ os1 → Loaded os b → IsThere b.simples.assigns × IsThere b.simples.arguments × IsThere b.redirections.redirects × Loaded os1 (record b { simples = record b.simples { assigns = below b.simples.assigns; arguments = below b.simples.arguments }; redirections = record b.redirections { redirects = below b.redirections.redirects } })
simple_loaded os os1 b at line h l = subst (λ x. Loaded x b) h l

pub compound_on : (os os1 : List Open) (b : Loads) (line : ℕ) → os ≡ opens.Compound line ∷ os1 → frames_of os b ≡ Compound line (top (command.Simple [] [] []) b.lists.commands) (top [] b.redirections.redirects) ∷ frames_of os1 (record b { lists = record b.lists { commands = below b.lists.commands }; redirections = record b.redirections { redirects = below b.redirections.redirects } })
compound_on os os1 b line h = ap (λ x. frames_of x b) h

pub compound_loaded : (os os1 : List Open) (b : Loads) (line : ℕ) → os ≡ opens.Compound line ∷ os1 → Loaded os b → IsThere b.lists.commands × IsThere b.redirections.redirects × Loaded os1 (record b { lists = record b.lists { commands = below b.lists.commands }; redirections = record b.redirections { redirects = below b.redirections.redirects } })
compound_loaded os os1 b line h l = subst (λ x. Loaded x b) h l

pub finished_on : (os os1 : List Open) (b : Loads) (line : ℕ) → os ≡ opens.Finished line ∷ os1 → frames_of os b ≡ Finished line (top (command.Simple [] [] []) b.lists.commands) ∷ frames_of os1 (record b { lists = record b.lists { commands = below b.lists.commands } })
finished_on os os1 b line h = ap (λ x. frames_of x b) h

pub finished_loaded : (os os1 : List Open) (b : Loads) (line : ℕ) → os ≡ opens.Finished line ∷ os1 → Loaded os b → IsThere b.lists.commands × Loaded os1 (record b { lists = record b.lists { commands = below b.lists.commands } })
finished_loaded os os1 b line h l = subst (λ x. Loaded x b) h l

pub stages_on : (os os1 : List Open) (b : Loads) (line : ℕ) (negated : Bool) → os ≡ opens.Stages line negated ∷ os1 → frames_of os b ≡ Stages line negated (top [] b.lists.stages) ∷ frames_of os1 (record b { lists = record b.lists { stages = below b.lists.stages } })
stages_on os os1 b line negated h = ap (λ x. frames_of x b) h

pub stages_loaded : (os os1 : List Open) (b : Loads) (line : ℕ) (negated : Bool) → os ≡ opens.Stages line negated ∷ os1 → Loaded os b → IsThere b.lists.stages × Loaded os1 (record b { lists = record b.lists { stages = below b.lists.stages } })
stages_loaded os os1 b line negated h l = subst (λ x. Loaded x b) h l

pub piped_on : (os os1 : List Open) (b : Loads) (line : ℕ) → os ≡ opens.Piped line ∷ os1 → frames_of os b ≡ Piped line (top (command.Simple [] [] []) b.lists.commands) ∷ frames_of os1 (record b { lists = record b.lists { commands = below b.lists.commands } })
piped_on os os1 b line h = ap (λ x. frames_of x b) h

pub piped_loaded : (os os1 : List Open) (b : Loads) (line : ℕ) → os ≡ opens.Piped line ∷ os1 → Loaded os b → IsThere b.lists.commands × Loaded os1 (record b { lists = record b.lists { commands = below b.lists.commands } })
piped_loaded os os1 b line h l = subst (λ x. Loaded x b) h l

pub linked_on : (os os1 : List Open) (b : Loads) (line : ℕ) (or : Bool) → os ≡ opens.Linked line or ∷ os1 → frames_of os b ≡ Linked line (top (command.Simple [] [] []) b.lists.commands) (top [] b.lists.links) or ∷ frames_of os1 (record b { lists = record b.lists { commands = below b.lists.commands; links = below b.lists.links } })
linked_on os os1 b line or h = ap (λ x. frames_of x b) h

pub linked_loaded : (os os1 : List Open) (b : Loads) (line : ℕ) (or : Bool) → os ≡ opens.Linked line or ∷ os1 → Loaded os b → IsThere b.lists.commands × IsThere b.lists.links × Loaded os1 (record b { lists = record b.lists { commands = below b.lists.commands; links = below b.lists.links } })
linked_loaded os os1 b line or h l = subst (λ x. Loaded x b) h l

pub chain_on : (os os1 : List Open) (b : Loads) (line : ℕ) → os ≡ opens.Chain line ∷ os1 → frames_of os b ≡ Chain line (top (command.Simple [] [] []) b.lists.commands) ∷ frames_of os1 (record b { lists = record b.lists { commands = below b.lists.commands } })
chain_on os os1 b line h = ap (λ x. frames_of x b) h

pub chain_loaded : (os os1 : List Open) (b : Loads) (line : ℕ) → os ≡ opens.Chain line ∷ os1 → Loaded os b → IsThere b.lists.commands × Loaded os1 (record b { lists = record b.lists { commands = below b.lists.commands } })
chain_loaded os os1 b line h l = subst (λ x. Loaded x b) h l

pub lines_on : (os os1 : List Open) (b : Loads) → os ≡ opens.Lines ∷ os1 → frames_of os b ≡ Lines (top [] b.lists.lines) ∷ frames_of os1 (record b { lists = record b.lists { lines = below b.lists.lines } })
lines_on os os1 b h = ap (λ x. frames_of x b) h

pub lines_loaded : (os os1 : List Open) (b : Loads) → os ≡ opens.Lines ∷ os1 → Loaded os b → IsThere b.lists.lines × Loaded os1 (record b { lists = record b.lists { lines = below b.lists.lines } })
lines_loaded os os1 b h l = subst (λ x. Loaded x b) h l

pub listed_on : (os os1 : List Open) (b : Loads) → os ≡ opens.Listed ∷ os1 → frames_of os b ≡ Listed (top [] b.lists.lists) ∷ frames_of os1 (record b { lists = record b.lists { lists = below b.lists.lists } })
listed_on os os1 b h = ap (λ x. frames_of x b) h

pub listed_loaded : (os os1 : List Open) (b : Loads) → os ≡ opens.Listed ∷ os1 → Loaded os b → IsThere b.lists.lists × Loaded os1 (record b { lists = record b.lists { lists = below b.lists.lists } })
listed_loaded os os1 b h l = subst (λ x. Loaded x b) h l

pub function_name_on : (os os1 : List Open) (b : Loads) (at : ℕ) (line : ℕ) (own_scope : Bool) → os ≡ opens.FunctionName at line own_scope ∷ os1 → frames_of os b ≡ FunctionName at line own_scope (top [] b.lists.function_names) ∷ frames_of os1 (record b { lists = record b.lists { function_names = below b.lists.function_names } })
function_name_on os os1 b at line own_scope h = ap (λ x. frames_of x b) h

pub function_name_loaded : (os os1 : List Open) (b : Loads) (at : ℕ) (line : ℕ) (own_scope : Bool) → os ≡ opens.FunctionName at line own_scope ∷ os1 → Loaded os b → IsThere b.lists.function_names × Loaded os1 (record b { lists = record b.lists { function_names = below b.lists.function_names } })
function_name_loaded os os1 b at line own_scope h l = subst (λ x. Loaded x b) h l

pub defined_on : (os os1 : List Open) (b : Loads) (line : ℕ) → os ≡ opens.Defined line ∷ os1 → frames_of os b ≡ Defined line (top (record { name = []; own_scope = false; body = []; text = [] }) b.lists.functions) ∷ frames_of os1 (record b { lists = record b.lists { functions = below b.lists.functions } })
defined_on os os1 b line h = ap (λ x. frames_of x b) h

pub defined_loaded : (os os1 : List Open) (b : Loads) (line : ℕ) → os ≡ opens.Defined line ∷ os1 → Loaded os b → IsThere b.lists.functions × Loaded os1 (record b { lists = record b.lists { functions = below b.lists.functions } })
defined_loaded os os1 b line h l = subst (λ x. Loaded x b) h l

pub if_on : (os os1 : List Open) (b : Loads) (line : ℕ) → os ≡ opens.If line ∷ os1 → frames_of os b ≡ If line (top [] b.compounds.arms) ∷ frames_of os1 (record b { compounds = record b.compounds { arms = below b.compounds.arms } })
if_on os os1 b line h = ap (λ x. frames_of x b) h

pub if_loaded : (os os1 : List Open) (b : Loads) (line : ℕ) → os ≡ opens.If line ∷ os1 → Loaded os b → IsThere b.compounds.arms × Loaded os1 (record b { compounds = record b.compounds { arms = below b.compounds.arms } })
if_loaded os os1 b line h l = subst (λ x. Loaded x b) h l

pub then_on : (os os1 : List Open) (b : Loads) (line : ℕ) → os ≡ opens.Then line ∷ os1 → frames_of os b ≡ Then line (top [] b.compounds.arms) (top [] b.lists.lists) ∷ frames_of os1 (record b { compounds = record b.compounds { arms = below b.compounds.arms }; lists = record b.lists { lists = below b.lists.lists } })
then_on os os1 b line h = ap (λ x. frames_of x b) h

pub then_loaded : (os os1 : List Open) (b : Loads) (line : ℕ) → os ≡ opens.Then line ∷ os1 → Loaded os b → IsThere b.compounds.arms × IsThere b.lists.lists × Loaded os1 (record b { compounds = record b.compounds { arms = below b.compounds.arms }; lists = record b.lists { lists = below b.lists.lists } })
then_loaded os os1 b line h l = subst (λ x. Loaded x b) h l

pub else_on : (os os1 : List Open) (b : Loads) (line : ℕ) → os ≡ opens.Else line ∷ os1 → frames_of os b ≡ Else line (top [] b.compounds.arms) ∷ frames_of os1 (record b { compounds = record b.compounds { arms = below b.compounds.arms } })
else_on os os1 b line h = ap (λ x. frames_of x b) h

pub else_loaded : (os os1 : List Open) (b : Loads) (line : ℕ) → os ≡ opens.Else line ∷ os1 → Loaded os b → IsThere b.compounds.arms × Loaded os1 (record b { compounds = record b.compounds { arms = below b.compounds.arms } })
else_loaded os os1 b line h l = subst (λ x. Loaded x b) h l

pub loop_body_on : (os os1 : List Open) (b : Loads) (line : ℕ) (until : Bool) → os ≡ opens.LoopBody line until ∷ os1 → frames_of os b ≡ LoopBody line until (top [] b.lists.lists) ∷ frames_of os1 (record b { lists = record b.lists { lists = below b.lists.lists } })
loop_body_on os os1 b line until h = ap (λ x. frames_of x b) h

pub loop_body_loaded : (os os1 : List Open) (b : Loads) (line : ℕ) (until : Bool) → os ≡ opens.LoopBody line until ∷ os1 → Loaded os b → IsThere b.lists.lists × Loaded os1 (record b { lists = record b.lists { lists = below b.lists.lists } })
loop_body_loaded os os1 b line until h l = subst (λ x. Loaded x b) h l

pub for_name_on : (os os1 : List Open) (b : Loads) (line : ℕ) (select : Bool) → os ≡ opens.ForName line select ∷ os1 → frames_of os b ≡ ForName line select (top [] b.compounds.names) ∷ frames_of os1 (record b { compounds = record b.compounds { names = below b.compounds.names } })
for_name_on os os1 b line select h = ap (λ x. frames_of x b) h

pub for_name_loaded : (os os1 : List Open) (b : Loads) (line : ℕ) (select : Bool) → os ≡ opens.ForName line select ∷ os1 → Loaded os b → IsThere b.compounds.names × Loaded os1 (record b { compounds = record b.compounds { names = below b.compounds.names } })
for_name_loaded os os1 b line select h l = subst (λ x. Loaded x b) h l

pub for_words_on : (os os1 : List Open) (b : Loads) (line : ℕ) (select : Bool) → os ≡ opens.ForWords line select ∷ os1 → frames_of os b ≡ ForWords line select (top [] b.compounds.names) (top [] b.compounds.word_lists) ∷ frames_of os1 (record b { compounds = record b.compounds { names = below b.compounds.names; word_lists = below b.compounds.word_lists } })
for_words_on os os1 b line select h = ap (λ x. frames_of x b) h

pub for_words_loaded : (os os1 : List Open) (b : Loads) (line : ℕ) (select : Bool) → os ≡ opens.ForWords line select ∷ os1 → Loaded os b → IsThere b.compounds.names × IsThere b.compounds.word_lists × Loaded os1 (record b { compounds = record b.compounds { names = below b.compounds.names; word_lists = below b.compounds.word_lists } })
for_words_loaded os os1 b line select h l = subst (λ x. Loaded x b) h l

pub for_ready_on : (os os1 : List Open) (b : Loads) (line : ℕ) (select : Bool) → os ≡ opens.ForReady line select ∷ os1 → frames_of os b ≡ ForReady line select (top [] b.compounds.names) (top [] b.compounds.word_lists) ∷ frames_of os1 (record b { compounds = record b.compounds { names = below b.compounds.names; word_lists = below b.compounds.word_lists } })
for_ready_on os os1 b line select h = ap (λ x. frames_of x b) h

pub for_ready_loaded : (os os1 : List Open) (b : Loads) (line : ℕ) (select : Bool) → os ≡ opens.ForReady line select ∷ os1 → Loaded os b → IsThere b.compounds.names × IsThere b.compounds.word_lists × Loaded os1 (record b { compounds = record b.compounds { names = below b.compounds.names; word_lists = below b.compounds.word_lists } })
for_ready_loaded os os1 b line select h l = subst (λ x. Loaded x b) h l

pub for_body_on : (os os1 : List Open) (b : Loads) (line : ℕ) (select : Bool) → os ≡ opens.ForBody line select ∷ os1 → frames_of os b ≡ ForBody line select (top [] b.compounds.names) (top None b.compounds.optional_words) ∷ frames_of os1 (record b { compounds = record b.compounds { names = below b.compounds.names; optional_words = below b.compounds.optional_words } })
for_body_on os os1 b line select h = ap (λ x. frames_of x b) h

pub for_body_loaded : (os os1 : List Open) (b : Loads) (line : ℕ) (select : Bool) → os ≡ opens.ForBody line select ∷ os1 → Loaded os b → IsThere b.compounds.names × IsThere b.compounds.optional_words × Loaded os1 (record b { compounds = record b.compounds { names = below b.compounds.names; optional_words = below b.compounds.optional_words } })
for_body_loaded os os1 b line select h l = subst (λ x. Loaded x b) h l

pub for_arithmetic_on : (os os1 : List Open) (b : Loads) (line : ℕ) → os ≡ opens.ForArithmetic line ∷ os1 → frames_of os b ≡ ForArithmetic line (top [] b.compounds.parts) ∷ frames_of os1 (record b { compounds = record b.compounds { parts = below b.compounds.parts } })
for_arithmetic_on os os1 b line h = ap (λ x. frames_of x b) h

pub for_arithmetic_loaded : (os os1 : List Open) (b : Loads) (line : ℕ) → os ≡ opens.ForArithmetic line ∷ os1 → Loaded os b → IsThere b.compounds.parts × Loaded os1 (record b { compounds = record b.compounds { parts = below b.compounds.parts } })
for_arithmetic_loaded os os1 b line h l = subst (λ x. Loaded x b) h l

pub for_arithmetic_body_on : (os os1 : List Open) (b : Loads) (line : ℕ) → os ≡ opens.ForArithmeticBody line ∷ os1 → frames_of os b ≡ ForArithmeticBody line (top [] b.compounds.parts) ∷ frames_of os1 (record b { compounds = record b.compounds { parts = below b.compounds.parts } })
for_arithmetic_body_on os os1 b line h = ap (λ x. frames_of x b) h

pub for_arithmetic_body_loaded : (os os1 : List Open) (b : Loads) (line : ℕ) → os ≡ opens.ForArithmeticBody line ∷ os1 → Loaded os b → IsThere b.compounds.parts × Loaded os1 (record b { compounds = record b.compounds { parts = below b.compounds.parts } })
for_arithmetic_body_loaded os os1 b line h l = subst (λ x. Loaded x b) h l

pub case_word_on : (os os1 : List Open) (b : Loads) (line : ℕ) → os ≡ opens.CaseWord line ∷ os1 → frames_of os b ≡ CaseWord line (top [] b.texts.words) ∷ frames_of os1 (record b { texts = record b.texts { words = below b.texts.words } })
case_word_on os os1 b line h = ap (λ x. frames_of x b) h

pub case_word_loaded : (os os1 : List Open) (b : Loads) (line : ℕ) → os ≡ opens.CaseWord line ∷ os1 → Loaded os b → IsThere b.texts.words × Loaded os1 (record b { texts = record b.texts { words = below b.texts.words } })
case_word_loaded os os1 b line h l = subst (λ x. Loaded x b) h l

pub cases_on : (os os1 : List Open) (b : Loads) (line : ℕ) → os ≡ opens.Cases line ∷ os1 → frames_of os b ≡ Cases line (top [] b.texts.words) (top [] b.compounds.cases) ∷ frames_of os1 (record b { texts = record b.texts { words = below b.texts.words }; compounds = record b.compounds { cases = below b.compounds.cases } })
cases_on os os1 b line h = ap (λ x. frames_of x b) h

pub cases_loaded : (os os1 : List Open) (b : Loads) (line : ℕ) → os ≡ opens.Cases line ∷ os1 → Loaded os b → IsThere b.texts.words × IsThere b.compounds.cases × Loaded os1 (record b { texts = record b.texts { words = below b.texts.words }; compounds = record b.compounds { cases = below b.compounds.cases } })
cases_loaded os os1 b line h l = subst (λ x. Loaded x b) h l

pub patterns_on : (os os1 : List Open) (b : Loads) → os ≡ opens.Patterns ∷ os1 → frames_of os b ≡ Patterns (top [] b.compounds.word_lists) ∷ frames_of os1 (record b { compounds = record b.compounds { word_lists = below b.compounds.word_lists } })
patterns_on os os1 b h = ap (λ x. frames_of x b) h

pub patterns_loaded : (os os1 : List Open) (b : Loads) → os ≡ opens.Patterns ∷ os1 → Loaded os b → IsThere b.compounds.word_lists × Loaded os1 (record b { compounds = record b.compounds { word_lists = below b.compounds.word_lists } })
patterns_loaded os os1 b h l = subst (λ x. Loaded x b) h l

pub terms_on : (os os1 : List Open) (b : Loads) (negated : Bool) → os ≡ opens.Terms negated ∷ os1 → frames_of os b ≡ Terms (top [] b.compounds.conditions) (top [] b.compounds.terms) negated ∷ frames_of os1 (record b { compounds = record b.compounds { conditions = below b.compounds.conditions; terms = below b.compounds.terms } })
terms_on os os1 b negated h = ap (λ x. frames_of x b) h

pub terms_loaded : (os os1 : List Open) (b : Loads) (negated : Bool) → os ≡ opens.Terms negated ∷ os1 → Loaded os b → IsThere b.compounds.conditions × IsThere b.compounds.terms × Loaded os1 (record b { compounds = record b.compounds { conditions = below b.compounds.conditions; terms = below b.compounds.terms } })
terms_loaded os os1 b negated h l = subst (λ x. Loaded x b) h l

pub operands_on : (os os1 : List Open) (b : Loads) → os ≡ opens.Operands ∷ os1 → frames_of os b ≡ Operands (top [] b.compounds.word_lists) ∷ frames_of os1 (record b { compounds = record b.compounds { word_lists = below b.compounds.word_lists } })
operands_on os os1 b h = ap (λ x. frames_of x b) h

pub operands_loaded : (os os1 : List Open) (b : Loads) → os ≡ opens.Operands ∷ os1 → Loaded os b → IsThere b.compounds.word_lists × Loaded os1 (record b { compounds = record b.compounds { word_lists = below b.compounds.word_lists } })
operands_loaded os os1 b h l = subst (λ x. Loaded x b) h l

pub tested_on : (os os1 : List Open) (b : Loads) → os ≡ opens.Tested ∷ os1 → frames_of os b ≡ Tested (top (test.Word []) b.compounds.tests) ∷ frames_of os1 (record b { compounds = record b.compounds { tests = below b.compounds.tests } })
tested_on os os1 b h = ap (λ x. frames_of x b) h

pub tested_loaded : (os os1 : List Open) (b : Loads) → os ≡ opens.Tested ∷ os1 → Loaded os b → IsThere b.compounds.tests × Loaded os1 (record b { compounds = record b.compounds { tests = below b.compounds.tests } })
tested_loaded os os1 b h l = subst (λ x. Loaded x b) h l

pub bracket_on : (os os1 : List Open) (b : Loads) → os ≡ opens.Opened opening.Bracket ∷ os1 → frames_of os b ≡ Bracket ∷ frames_of os1 b
bracket_on os os1 b h = ap (λ x. frames_of x b) h

pub bracket_loaded : (os os1 : List Open) (b : Loads) → os ≡ opens.Opened opening.Bracket ∷ os1 → Loaded os b → Loaded os1 b
bracket_loaded os os1 b h l = subst (λ x. Loaded x b) h l

pub braces_on : (os os1 : List Open) (b : Loads) (x0 : Bool) (x1 : Asked) → os ≡ opens.Opened (opening.Braces x0 x1) ∷ os1 → frames_of os b ≡ Braces x0 x1 ∷ frames_of os1 b
braces_on os os1 b x0 x1 h = ap (λ x. frames_of x b) h

pub braces_loaded : (os os1 : List Open) (b : Loads) (x0 : Bool) (x1 : Asked) → os ≡ opens.Opened (opening.Braces x0 x1) ∷ os1 → Loaded os b → Loaded os1 b
braces_loaded os os1 b x0 x1 h l = subst (λ x. Loaded x b) h l

pub substitution_on : (os os1 : List Open) (b : Loads) (x0 : Bool) (x1 : SubstKind) → os ≡ opens.Opened (opening.Substitution x0 x1) ∷ os1 → frames_of os b ≡ Substitution x0 x1 ∷ frames_of os1 b
substitution_on os os1 b x0 x1 h = ap (λ x. frames_of x b) h

pub substitution_loaded : (os os1 : List Open) (b : Loads) (x0 : Bool) (x1 : SubstKind) → os ≡ opens.Opened (opening.Substitution x0 x1) ∷ os1 → Loaded os b → Loaded os1 b
substitution_loaded os os1 b x0 x1 h l = subst (λ x. Loaded x b) h l

pub arithmetic_on : (os os1 : List Open) (b : Loads) (x0 : Bool) → os ≡ opens.Opened (opening.Arithmetic x0) ∷ os1 → frames_of os b ≡ Arithmetic x0 ∷ frames_of os1 b
arithmetic_on os os1 b x0 h = ap (λ x. frames_of x b) h

pub arithmetic_loaded : (os os1 : List Open) (b : Loads) (x0 : Bool) → os ≡ opens.Opened (opening.Arithmetic x0) ∷ os1 → Loaded os b → Loaded os1 b
arithmetic_loaded os os1 b x0 h l = subst (λ x. Loaded x b) h l

pub word_start_on : (os os1 : List Open) (b : Loads) (x0 : ℕ) (x1 : Bool) → os ≡ opens.Opened (opening.WordStart x0 x1) ∷ os1 → frames_of os b ≡ WordStart x0 x1 ∷ frames_of os1 b
word_start_on os os1 b x0 x1 h = ap (λ x. frames_of x b) h

pub word_start_loaded : (os os1 : List Open) (b : Loads) (x0 : ℕ) (x1 : Bool) → os ≡ opens.Opened (opening.WordStart x0 x1) ∷ os1 → Loaded os b → Loaded os1 b
word_start_loaded os os1 b x0 x1 h l = subst (λ x. Loaded x b) h l

pub no_link_on : (os os1 : List Open) (b : Loads) → os ≡ opens.Opened opening.NoLink ∷ os1 → frames_of os b ≡ NoLink ∷ frames_of os1 b
no_link_on os os1 b h = ap (λ x. frames_of x b) h

pub no_link_loaded : (os os1 : List Open) (b : Loads) → os ≡ opens.Opened opening.NoLink ∷ os1 → Loaded os b → Loaded os1 b
no_link_loaded os os1 b h l = subst (λ x. Loaded x b) h l

pub group_on : (os os1 : List Open) (b : Loads) (x0 : ℕ) → os ≡ opens.Opened (opening.Group x0) ∷ os1 → frames_of os b ≡ Group x0 ∷ frames_of os1 b
group_on os os1 b x0 h = ap (λ x. frames_of x b) h

pub group_loaded : (os os1 : List Open) (b : Loads) (x0 : ℕ) → os ≡ opens.Opened (opening.Group x0) ∷ os1 → Loaded os b → Loaded os1 b
group_loaded os os1 b x0 h l = subst (λ x. Loaded x b) h l

pub subshell_on : (os os1 : List Open) (b : Loads) (x0 : ℕ) → os ≡ opens.Opened (opening.Subshell x0) ∷ os1 → frames_of os b ≡ Subshell x0 ∷ frames_of os1 b
subshell_on os os1 b x0 h = ap (λ x. frames_of x b) h

pub subshell_loaded : (os os1 : List Open) (b : Loads) (x0 : ℕ) → os ≡ opens.Opened (opening.Subshell x0) ∷ os1 → Loaded os b → Loaded os1 b
subshell_loaded os os1 b x0 h l = subst (λ x. Loaded x b) h l

pub arithmetic_command_on : (os os1 : List Open) (b : Loads) (x0 : ℕ) → os ≡ opens.Opened (opening.ArithmeticCommand x0) ∷ os1 → frames_of os b ≡ ArithmeticCommand x0 ∷ frames_of os1 b
arithmetic_command_on os os1 b x0 h = ap (λ x. frames_of x b) h

pub arithmetic_command_loaded : (os os1 : List Open) (b : Loads) (x0 : ℕ) → os ≡ opens.Opened (opening.ArithmeticCommand x0) ∷ os1 → Loaded os b → Loaded os1 b
arithmetic_command_loaded os os1 b x0 h l = subst (λ x. Loaded x b) h l

pub loop_on : (os os1 : List Open) (b : Loads) (x0 : ℕ) (x1 : Bool) → os ≡ opens.Opened (opening.Loop x0 x1) ∷ os1 → frames_of os b ≡ Loop x0 x1 ∷ frames_of os1 b
loop_on os os1 b x0 x1 h = ap (λ x. frames_of x b) h

pub loop_loaded : (os os1 : List Open) (b : Loads) (x0 : ℕ) (x1 : Bool) → os ≡ opens.Opened (opening.Loop x0 x1) ∷ os1 → Loaded os b → Loaded os1 b
loop_loaded os os1 b x0 x1 h l = subst (λ x. Loaded x b) h l

pub for_on : (os os1 : List Open) (b : Loads) (x0 : ℕ) (x1 : Bool) → os ≡ opens.Opened (opening.For x0 x1) ∷ os1 → frames_of os b ≡ For x0 x1 ∷ frames_of os1 b
for_on os os1 b x0 x1 h = ap (λ x. frames_of x b) h

pub for_loaded : (os os1 : List Open) (b : Loads) (x0 : ℕ) (x1 : Bool) → os ≡ opens.Opened (opening.For x0 x1) ∷ os1 → Loaded os b → Loaded os1 b
for_loaded os os1 b x0 x1 h l = subst (λ x. Loaded x b) h l

pub case_on : (os os1 : List Open) (b : Loads) (x0 : ℕ) → os ≡ opens.Opened (opening.Case x0) ∷ os1 → frames_of os b ≡ Case x0 ∷ frames_of os1 b
case_on os os1 b x0 h = ap (λ x. frames_of x b) h

pub case_loaded : (os os1 : List Open) (b : Loads) (x0 : ℕ) → os ≡ opens.Opened (opening.Case x0) ∷ os1 → Loaded os b → Loaded os1 b
case_loaded os os1 b x0 h l = subst (λ x. Loaded x b) h l

pub function_on : (os os1 : List Open) (b : Loads) (x0 : ℕ) (x1 : ℕ) → os ≡ opens.Opened (opening.Function x0 x1) ∷ os1 → frames_of os b ≡ Function x0 x1 ∷ frames_of os1 b
function_on os os1 b x0 x1 h = ap (λ x. frames_of x b) h

pub function_loaded : (os os1 : List Open) (b : Loads) (x0 : ℕ) (x1 : ℕ) → os ≡ opens.Opened (opening.Function x0 x1) ∷ os1 → Loaded os b → Loaded os1 b
function_loaded os os1 b x0 x1 h l = subst (λ x. Loaded x b) h l

pub condition_command_on : (os os1 : List Open) (b : Loads) (x0 : ℕ) → os ≡ opens.Opened (opening.ConditionCommand x0) ∷ os1 → frames_of os b ≡ ConditionCommand x0 ∷ frames_of os1 b
condition_command_on os os1 b x0 h = ap (λ x. frames_of x b) h

pub condition_command_loaded : (os os1 : List Open) (b : Loads) (x0 : ℕ) → os ≡ opens.Opened (opening.ConditionCommand x0) ∷ os1 → Loaded os b → Loaded os1 b
condition_command_loaded os os1 b x0 h l = subst (λ x. Loaded x b) h l

pub nested_on : (os os1 : List Open) (b : Loads) → os ≡ opens.Opened opening.Nested ∷ os1 → frames_of os b ≡ Nested ∷ frames_of os1 b
nested_on os os1 b h = ap (λ x. frames_of x b) h

pub nested_loaded : (os os1 : List Open) (b : Loads) → os ≡ opens.Opened opening.Nested ∷ os1 → Loaded os b → Loaded os1 b
nested_loaded os os1 b h l = subst (λ x. Loaded x b) h l

pub member_body_on : (os os1 : List Open) (b : Loads) → os ≡ opens.Opened opening.MemberBody ∷ os1 → frames_of os b ≡ MemberBody ∷ frames_of os1 b
member_body_on os os1 b h = ap (λ x. frames_of x b) h

pub member_body_loaded : (os os1 : List Open) (b : Loads) → os ≡ opens.Opened opening.MemberBody ∷ os1 → Loaded os b → Loaded os1 b
member_body_loaded os os1 b h l = subst (λ x. Loaded x b) h l
