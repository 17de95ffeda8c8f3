-- The frames that what is open stands for, with the parts of the tree that stand on stacks of their own.
use Rattle.std.specs.Prelude.{ℕ, Bool, false, List, [], ◌∷◌, Option, Some, None}
use Rattle.ksh_ast.specs.declared.redirect.Redirect.{Redirect}
use Rattle.ksh_ast.specs.declared.redirect.RedirectForm.{RedirectForm}
use Rattle.ksh_ast.specs.declared.redirect.RedirectTo.{RedirectTo}
use Rattle.ksh_ast.specs.declared.tree.Argument.{Argument}
use Rattle.ksh_ast.specs.declared.tree.Arith.{Arith}
use Rattle.ksh_ast.specs.declared.tree.Arm.{Arm}
use Rattle.ksh_ast.specs.declared.tree.Assign.{Assign}
use Rattle.ksh_ast.specs.declared.tree.CaseItem.{CaseItem}
use Rattle.ksh_ast.specs.declared.tree.Command.{Command}
use Rattle.ksh_ast.specs.declared.tree.FunctionDef.{FunctionDef}
use Rattle.ksh_ast.specs.declared.tree.Item.{Item}
use Rattle.ksh_ast.specs.declared.tree.Link.{Link}
use Rattle.ksh_ast.specs.declared.tree.ParamOf.{ParamOf}
use Rattle.ksh_ast.specs.declared.tree.Piece.{Piece}
use Rattle.ksh_ast.specs.declared.tree.Term.{Term}
use Rattle.ksh_ast.specs.declared.tree.Test.{Test}
use Rattle.ksh_ast.specs.declared.tree.TreePath.{TreePath}
use Rattle.ksh_ast.specs.declared.redirect.RedirectForm.TheVariants as read
use Rattle.ksh_ast.specs.declared.redirect.RedirectTo.TheVariants as usual
use Rattle.ksh_ast.specs.declared.tree.Command.TheVariants as command
use Rattle.ksh_ast.specs.declared.tree.ParamOf.TheVariants as of
use Rattle.ksh_ast.specs.declared.tree.Test.TheVariants as test
use Rattle.tree_parts.specs.declared.entry.Entry.{Entry}
use Rattle.tree_parts.specs.Parts.{assign, path_of, redirection}
use Rattle.tree_build.specs.Frame.{Frame, Opened, Text, Subscript, Parameter, Formed, Whole, Target, Element, Assigning, Assigned, Keyed, Value, Redirection, HereOperator, HereWord, HereBody, Redirected, Simple, Compound, Finished, Stages, Piped, Linked, Chain, Lines, Listed, FunctionName, Defined, If, Then, Else, LoopBody, ForName, ForWords, ForReady, ForBody, ForArithmetic, ForArithmeticBody, CaseWord, Cases, Patterns, Terms, Operands, Tested}
use Rattle.tree_build.specs.declared.frames.Texts.{Texts}
use Rattle.tree_build.specs.declared.frames.Redirections.{Redirections}
use Rattle.tree_build.specs.declared.frames.Simples.{Simples}
use Rattle.tree_build.specs.declared.frames.Lists.{Lists}
use Rattle.tree_build.specs.declared.frames.Compounds.{Compounds}
use Rattle.tree_build.specs.Places.{opening_place}
use Rattle.tree_build.specs.declared.opening.Open.{Open}
use Rattle.tree_build.specs.declared.opening.Open.TheVariants as opens
use Rattle.tree_build.specs.declared.place.Place.{Place}
use Rattle.tree_build.specs.declared.place.Place.TheVariants as place

-- stacks of parts, the last first
pub record Loads : Type 0 where
  pub texts : Texts
  pub redirections : Redirections
  pub simples : Simples
  pub lists : Lists
  pub compounds : Compounds

abbrev pub top : {A : Type 0} → A → List A → A
top otherwise [] = otherwise
top otherwise (x ∷ xs) = x

abbrev pub below : {A : Type 0} → List A → List A
below [] = []
below (x ∷ xs) = xs

-- each takes its parts from the stacks; one that stands on none is empty
abbrev pub frames_of : List Open → Loads → List Frame
frames_of [] b = []
frames_of (opens.Opened o ∷ os) b = Opened o ∷ frames_of os b
frames_of (opens.Text ∷ os) b = Text (top [] b.texts.words) ∷ frames_of os (record b { texts = record b.texts { words = below b.texts.words } })
frames_of (opens.Subscript ∷ os) b = Subscript (top [] b.texts.words) ∷ frames_of os (record b { texts = record b.texts { words = below b.texts.words } })
frames_of (opens.Parameter quoted asked ∷ os) b = Parameter quoted asked (top (of.Special []) b.texts.params) ∷ frames_of os (record b { texts = record b.texts { params = below b.texts.params } })
frames_of (opens.Formed quoted form ∷ os) b = Formed quoted (top (of.Special []) b.texts.params) form (top None b.texts.firsts) ∷ frames_of os (record b { texts = record b.texts { params = below b.texts.params; firsts = below b.texts.firsts } })
frames_of (opens.Whole from to assigns ∷ os) b = Whole (top [] b.texts.words) from to assigns ∷ frames_of os (record b { texts = record b.texts { words = below b.texts.words } })
frames_of (opens.Target from ∷ os) b = Target from (top (path_of []) b.texts.paths) ∷ frames_of os (record b { texts = record b.texts { paths = below b.texts.paths } })
frames_of (opens.Element from ∷ os) b = Element from (top (path_of []) b.texts.paths) ∷ frames_of os (record b { texts = record b.texts { paths = below b.texts.paths } })
frames_of (opens.Assigning append ∷ os) b = Assigning (top (path_of []) b.texts.paths) append ∷ frames_of os (record b { texts = record b.texts { paths = below b.texts.paths } })
frames_of (opens.Assigned ∷ os) b = Assigned (top (assign (path_of []) false []) b.simples.assigned) ∷ frames_of os (record b { simples = record b.simples { assigned = below b.simples.assigned } })
frames_of (opens.Keyed ∷ os) b = Keyed (top [] b.texts.words) ∷ frames_of os (record b { texts = record b.texts { words = below b.texts.words } })
frames_of (opens.Value ∷ os) b = Value (top [] b.texts.entries) ∷ frames_of os (record b { texts = record b.texts { entries = below b.texts.entries } })
frames_of (opens.Redirection ∷ os) b = Redirection (top usual.Usual b.redirections.targets) (top read.Read b.redirections.forms) ∷ frames_of os (record b { redirections = record b.redirections { targets = below b.redirections.targets; forms = below b.redirections.forms } })
frames_of (opens.HereOperator ∷ os) b = HereOperator (top usual.Usual b.redirections.targets) ∷ frames_of os (record b { redirections = record b.redirections { targets = below b.redirections.targets } })
frames_of (opens.HereWord ∷ os) b = HereWord (top usual.Usual b.redirections.targets) (top [] b.redirections.ends) ∷ frames_of os (record b { redirections = record b.redirections { targets = below b.redirections.targets; ends = below b.redirections.ends } })
frames_of (opens.HereBody ∷ os) b = HereBody (top usual.Usual b.redirections.targets) (top [] b.redirections.ends) ∷ frames_of os (record b { redirections = record b.redirections { targets = below b.redirections.targets; ends = below b.redirections.ends } })
frames_of (opens.Redirected ∷ os) b = Redirected (top (redirection usual.Usual read.Read []) b.redirections.redirected) ∷ frames_of os (record b { redirections = record b.redirections { redirected = below b.redirections.redirected } })
frames_of (opens.Simple at line ∷ os) b = Simple at line (top [] b.simples.assigns) (top [] b.simples.arguments) (top [] b.redirections.redirects) ∷ frames_of os (record b { simples = record b.simples { assigns = below b.simples.assigns; arguments = below b.simples.arguments }; redirections = record b.redirections { redirects = below b.redirections.redirects } })
frames_of (opens.Compound line ∷ os) b = Compound line (top (command.Simple [] [] []) b.lists.commands) (top [] b.redirections.redirects) ∷ frames_of os (record b { lists = record b.lists { commands = below b.lists.commands }; redirections = record b.redirections { redirects = below b.redirections.redirects } })
frames_of (opens.Finished line ∷ os) b = Finished line (top (command.Simple [] [] []) b.lists.commands) ∷ frames_of os (record b { lists = record b.lists { commands = below b.lists.commands } })
frames_of (opens.Stages line negated ∷ os) b = Stages line negated (top [] b.lists.stages) ∷ frames_of os (record b { lists = record b.lists { stages = below b.lists.stages } })
frames_of (opens.Piped line ∷ os) b = Piped line (top (command.Simple [] [] []) b.lists.commands) ∷ frames_of os (record b { lists = record b.lists { commands = below b.lists.commands } })
frames_of (opens.Linked line or ∷ os) b = Linked line (top (command.Simple [] [] []) b.lists.commands) (top [] b.lists.links) or ∷ frames_of os (record b { lists = record b.lists { commands = below b.lists.commands; links = below b.lists.links } })
frames_of (opens.Chain line ∷ os) b = Chain line (top (command.Simple [] [] []) b.lists.commands) ∷ frames_of os (record b { lists = record b.lists { commands = below b.lists.commands } })
frames_of (opens.Lines ∷ os) b = Lines (top [] b.lists.lines) ∷ frames_of os (record b { lists = record b.lists { lines = below b.lists.lines } })
frames_of (opens.Listed ∷ os) b = Listed (top [] b.lists.lists) ∷ frames_of os (record b { lists = record b.lists { lists = below b.lists.lists } })
frames_of (opens.FunctionName at line own_scope ∷ os) b = FunctionName at line own_scope (top [] b.lists.function_names) ∷ frames_of os (record b { lists = record b.lists { function_names = below b.lists.function_names } })
frames_of (opens.Defined line ∷ os) b = Defined line (top (record { name = []; own_scope = false; body = []; text = [] }) b.lists.functions) ∷ frames_of os (record b { lists = record b.lists { functions = below b.lists.functions } })
frames_of (opens.If line ∷ os) b = If line (top [] b.compounds.arms) ∷ frames_of os (record b { compounds = record b.compounds { arms = below b.compounds.arms } })
frames_of (opens.Then line ∷ os) b = Then line (top [] b.compounds.arms) (top [] b.lists.lists) ∷ frames_of os (record b { compounds = record b.compounds { arms = below b.compounds.arms }; lists = record b.lists { lists = below b.lists.lists } })
frames_of (opens.Else line ∷ os) b = Else line (top [] b.compounds.arms) ∷ frames_of os (record b { compounds = record b.compounds { arms = below b.compounds.arms } })
frames_of (opens.LoopBody line until ∷ os) b = LoopBody line until (top [] b.lists.lists) ∷ frames_of os (record b { lists = record b.lists { lists = below b.lists.lists } })
frames_of (opens.ForName line select ∷ os) b = ForName line select (top [] b.compounds.names) ∷ frames_of os (record b { compounds = record b.compounds { names = below b.compounds.names } })
frames_of (opens.ForWords line select ∷ os) b = ForWords line select (top [] b.compounds.names) (top [] b.compounds.word_lists) ∷ frames_of os (record b { compounds = record b.compounds { names = below b.compounds.names; word_lists = below b.compounds.word_lists } })
frames_of (opens.ForReady line select ∷ os) b = ForReady line select (top [] b.compounds.names) (top [] b.compounds.word_lists) ∷ frames_of os (record b { compounds = record b.compounds { names = below b.compounds.names; word_lists = below b.compounds.word_lists } })
frames_of (opens.ForBody line select ∷ os) b = ForBody line select (top [] b.compounds.names) (top None b.compounds.optional_words) ∷ frames_of os (record b { compounds = record b.compounds { names = below b.compounds.names; optional_words = below b.compounds.optional_words } })
frames_of (opens.ForArithmetic line ∷ os) b = ForArithmetic line (top [] b.compounds.parts) ∷ frames_of os (record b { compounds = record b.compounds { parts = below b.compounds.parts } })
frames_of (opens.ForArithmeticBody line ∷ os) b = ForArithmeticBody line (top [] b.compounds.parts) ∷ frames_of os (record b { compounds = record b.compounds { parts = below b.compounds.parts } })
frames_of (opens.CaseWord line ∷ os) b = CaseWord line (top [] b.texts.words) ∷ frames_of os (record b { texts = record b.texts { words = below b.texts.words } })
frames_of (opens.Cases line ∷ os) b = Cases line (top [] b.texts.words) (top [] b.compounds.cases) ∷ frames_of os (record b { texts = record b.texts { words = below b.texts.words }; compounds = record b.compounds { cases = below b.compounds.cases } })
frames_of (opens.Patterns ∷ os) b = Patterns (top [] b.compounds.word_lists) ∷ frames_of os (record b { compounds = record b.compounds { word_lists = below b.compounds.word_lists } })
frames_of (opens.Terms negated ∷ os) b = Terms (top [] b.compounds.conditions) (top [] b.compounds.terms) negated ∷ frames_of os (record b { compounds = record b.compounds { conditions = below b.compounds.conditions; terms = below b.compounds.terms } })
frames_of (opens.Operands ∷ os) b = Operands (top [] b.compounds.word_lists) ∷ frames_of os (record b { compounds = record b.compounds { word_lists = below b.compounds.word_lists } })
frames_of (opens.Tested ∷ os) b = Tested (top (test.Word []) b.compounds.tests) ∷ frames_of os (record b { compounds = record b.compounds { tests = below b.compounds.tests } })

-- there is something on top
abbrev pub IsThere : {A : Type 0} → List A → Type 0
IsThere [] = ⊥
IsThere (x ∷ xs) = Unit {0}

-- each frame that is open has its parts
abbrev pub Loaded : List Open → Loads → Type 0
Loaded [] b = Unit {0}
Loaded (opens.Opened o ∷ os) b = Loaded os b
Loaded (opens.Text ∷ os) b = IsThere b.texts.words × Loaded os (record b { texts = record b.texts { words = below b.texts.words } })
Loaded (opens.Subscript ∷ os) b = IsThere b.texts.words × Loaded os (record b { texts = record b.texts { words = below b.texts.words } })
Loaded (opens.Parameter quoted asked ∷ os) b = IsThere b.texts.params × Loaded os (record b { texts = record b.texts { params = below b.texts.params } })
Loaded (opens.Formed quoted form ∷ os) b = IsThere b.texts.params × IsThere b.texts.firsts × Loaded os (record b { texts = record b.texts { params = below b.texts.params; firsts = below b.texts.firsts } })
Loaded (opens.Whole from to assigns ∷ os) b = IsThere b.texts.words × Loaded os (record b { texts = record b.texts { words = below b.texts.words } })
Loaded (opens.Target from ∷ os) b = IsThere b.texts.paths × Loaded os (record b { texts = record b.texts { paths = below b.texts.paths } })
Loaded (opens.Element from ∷ os) b = IsThere b.texts.paths × Loaded os (record b { texts = record b.texts { paths = below b.texts.paths } })
Loaded (opens.Assigning append ∷ os) b = IsThere b.texts.paths × Loaded os (record b { texts = record b.texts { paths = below b.texts.paths } })
Loaded (opens.Assigned ∷ os) b = IsThere b.simples.assigned × Loaded os (record b { simples = record b.simples { assigned = below b.simples.assigned } })
Loaded (opens.Keyed ∷ os) b = IsThere b.texts.words × Loaded os (record b { texts = record b.texts { words = below b.texts.words } })
Loaded (opens.Value ∷ os) b = IsThere b.texts.entries × Loaded os (record b { texts = record b.texts { entries = below b.texts.entries } })
Loaded (opens.Redirection ∷ os) b = IsThere b.redirections.targets × IsThere b.redirections.forms × Loaded os (record b { redirections = record b.redirections { targets = below b.redirections.targets; forms = below b.redirections.forms } })
Loaded (opens.HereOperator ∷ os) b = IsThere b.redirections.targets × Loaded os (record b { redirections = record b.redirections { targets = below b.redirections.targets } })
Loaded (opens.HereWord ∷ os) b = IsThere b.redirections.targets × IsThere b.redirections.ends × Loaded os (record b { redirections = record b.redirections { targets = below b.redirections.targets; ends = below b.redirections.ends } })
Loaded (opens.HereBody ∷ os) b = IsThere b.redirections.targets × IsThere b.redirections.ends × Loaded os (record b { redirections = record b.redirections { targets = below b.redirections.targets; ends = below b.redirections.ends } })
Loaded (opens.Redirected ∷ os) b = IsThere b.redirections.redirected × Loaded os (record b { redirections = record b.redirections { redirected = below b.redirections.redirected } })
Loaded (opens.Simple at line ∷ os) b = IsThere b.simples.assigns × IsThere b.simples.arguments × IsThere b.redirections.redirects × Loaded os (record b { simples = record b.simples { assigns = below b.simples.assigns; arguments = below b.simples.arguments }; redirections = record b.redirections { redirects = below b.redirections.redirects } })
Loaded (opens.Compound line ∷ os) b = IsThere b.lists.commands × IsThere b.redirections.redirects × Loaded os (record b { lists = record b.lists { commands = below b.lists.commands }; redirections = record b.redirections { redirects = below b.redirections.redirects } })
Loaded (opens.Finished line ∷ os) b = IsThere b.lists.commands × Loaded os (record b { lists = record b.lists { commands = below b.lists.commands } })
Loaded (opens.Stages line negated ∷ os) b = IsThere b.lists.stages × Loaded os (record b { lists = record b.lists { stages = below b.lists.stages } })
Loaded (opens.Piped line ∷ os) b = IsThere b.lists.commands × Loaded os (record b { lists = record b.lists { commands = below b.lists.commands } })
Loaded (opens.Linked line or ∷ os) b = IsThere b.lists.commands × IsThere b.lists.links × Loaded os (record b { lists = record b.lists { commands = below b.lists.commands; links = below b.lists.links } })
Loaded (opens.Chain line ∷ os) b = IsThere b.lists.commands × Loaded os (record b { lists = record b.lists { commands = below b.lists.commands } })
Loaded (opens.Lines ∷ os) b = IsThere b.lists.lines × Loaded os (record b { lists = record b.lists { lines = below b.lists.lines } })
Loaded (opens.Listed ∷ os) b = IsThere b.lists.lists × Loaded os (record b { lists = record b.lists { lists = below b.lists.lists } })
Loaded (opens.FunctionName at line own_scope ∷ os) b = IsThere b.lists.function_names × Loaded os (record b { lists = record b.lists { function_names = below b.lists.function_names } })
Loaded (opens.Defined line ∷ os) b = IsThere b.lists.functions × Loaded os (record b { lists = record b.lists { functions = below b.lists.functions } })
Loaded (opens.If line ∷ os) b = IsThere b.compounds.arms × Loaded os (record b { compounds = record b.compounds { arms = below b.compounds.arms } })
Loaded (opens.Then line ∷ os) b = IsThere b.compounds.arms × IsThere b.lists.lists × Loaded os (record b { compounds = record b.compounds { arms = below b.compounds.arms }; lists = record b.lists { lists = below b.lists.lists } })
Loaded (opens.Else line ∷ os) b = IsThere b.compounds.arms × Loaded os (record b { compounds = record b.compounds { arms = below b.compounds.arms } })
Loaded (opens.LoopBody line until ∷ os) b = IsThere b.lists.lists × Loaded os (record b { lists = record b.lists { lists = below b.lists.lists } })
Loaded (opens.ForName line select ∷ os) b = IsThere b.compounds.names × Loaded os (record b { compounds = record b.compounds { names = below b.compounds.names } })
Loaded (opens.ForWords line select ∷ os) b = IsThere b.compounds.names × IsThere b.compounds.word_lists × Loaded os (record b { compounds = record b.compounds { names = below b.compounds.names; word_lists = below b.compounds.word_lists } })
Loaded (opens.ForReady line select ∷ os) b = IsThere b.compounds.names × IsThere b.compounds.word_lists × Loaded os (record b { compounds = record b.compounds { names = below b.compounds.names; word_lists = below b.compounds.word_lists } })
Loaded (opens.ForBody line select ∷ os) b = IsThere b.compounds.names × IsThere b.compounds.optional_words × Loaded os (record b { compounds = record b.compounds { names = below b.compounds.names; optional_words = below b.compounds.optional_words } })
Loaded (opens.ForArithmetic line ∷ os) b = IsThere b.compounds.parts × Loaded os (record b { compounds = record b.compounds { parts = below b.compounds.parts } })
Loaded (opens.ForArithmeticBody line ∷ os) b = IsThere b.compounds.parts × Loaded os (record b { compounds = record b.compounds { parts = below b.compounds.parts } })
Loaded (opens.CaseWord line ∷ os) b = IsThere b.texts.words × Loaded os (record b { texts = record b.texts { words = below b.texts.words } })
Loaded (opens.Cases line ∷ os) b = IsThere b.texts.words × IsThere b.compounds.cases × Loaded os (record b { texts = record b.texts { words = below b.texts.words }; compounds = record b.compounds { cases = below b.compounds.cases } })
Loaded (opens.Patterns ∷ os) b = IsThere b.compounds.word_lists × Loaded os (record b { compounds = record b.compounds { word_lists = below b.compounds.word_lists } })
Loaded (opens.Terms negated ∷ os) b = IsThere b.compounds.conditions × IsThere b.compounds.terms × Loaded os (record b { compounds = record b.compounds { conditions = below b.compounds.conditions; terms = below b.compounds.terms } })
Loaded (opens.Operands ∷ os) b = IsThere b.compounds.word_lists × Loaded os (record b { compounds = record b.compounds { word_lists = below b.compounds.word_lists } })
Loaded (opens.Tested ∷ os) b = IsThere b.compounds.tests × Loaded os (record b { compounds = record b.compounds { tests = below b.compounds.tests } })

-- what a frame is
abbrev pub open_place : Open → Place
open_place (opens.Opened o) = opening_place o
open_place opens.Text = place.Text
open_place opens.Subscript = place.Subscript
open_place (opens.Parameter quoted asked) = place.Parameter
open_place (opens.Formed quoted form) = place.Formed
open_place (opens.Whole from to assigns) = place.Whole
open_place (opens.Target from) = place.Target
open_place (opens.Element from) = place.Element
open_place (opens.Assigning append) = place.Assigning
open_place opens.Keyed = place.Keyed
open_place opens.Value = place.Value
open_place opens.Redirection = place.Redirection
open_place opens.HereOperator = place.HereOperator
open_place (opens.Simple at line) = place.Simple
open_place (opens.Finished line) = place.Finished
open_place (opens.Stages line negated) = place.Stages
open_place (opens.Linked line or) = place.Linked
open_place opens.Lines = place.Lines
open_place opens.Listed = place.Listed
open_place (opens.FunctionName at line own_scope) = place.FunctionName
open_place (opens.If line) = place.If
open_place (opens.Then line) = place.Then
open_place (opens.Else line) = place.Else
open_place (opens.LoopBody line until) = place.LoopBody
open_place (opens.ForName line select) = place.ForName
open_place (opens.ForWords line select) = place.ForWords
open_place (opens.ForReady line select) = place.ForReady
open_place (opens.ForBody line select) = place.ForBody
open_place (opens.ForArithmetic line) = place.ForArithmetic
open_place (opens.ForArithmeticBody line) = place.ForArithmeticBody
open_place (opens.CaseWord line) = place.CaseWord
open_place (opens.Cases line) = place.Cases
open_place opens.Patterns = place.Patterns
open_place (opens.Terms negated) = place.Terms
open_place opens.Operands = place.Operands
open_place _ = place.Other

abbrev pub open_place_if : Option Open → Place
open_place_if (Some o) = open_place o
open_place_if None = place.Nothing

abbrev pub is_assignment_open : Option Open → Bool
is_assignment_open (Some (opens.Whole from to assigns)) = assigns
is_assignment_open _ = false
