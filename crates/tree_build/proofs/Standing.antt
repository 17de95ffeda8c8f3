-- What stands on top of frames.
use Rattle.std.specs.Prelude.{◌≡◌, ℕ, zero, suc, slice_get, Bool, List, [], ◌∷◌, Option, Some, None}
use Rattle.std.proofs.Common.{refl, sym, ◌∙◌, ap}
use Rattle.tree_build.specs.declared.opening.Open.{Open}
use Rattle.tree_build.specs.declared.opening.Open.TheVariants as opens
use Rattle.tree_build.specs.declared.place.Place.{Place}
use Rattle.tree_build.specs.Loads.{Loads, below, frames_of, open_place_if, is_assignment_open}
use Rattle.tree_build.specs.Places.{place_at, is_assignment_on_top}

-- a frame is what opens it
place_at_open : (os : List Open) (b : Loads) (k : ℕ) → place_at (frames_of os b) k ≡ open_place_if (slice_get os k)
place_at_open [] b k = refl
place_at_open (opens.Opened o ∷ os) b zero = refl
place_at_open (opens.Opened o ∷ os) b (suc k) = place_at_open os b k
place_at_open (opens.Text ∷ os) b zero = refl
place_at_open (opens.Text ∷ os) b (suc k) = place_at_open os (record b { texts = record b.texts { words = below b.texts.words } }) k
place_at_open (opens.Subscript ∷ os) b zero = refl
place_at_open (opens.Subscript ∷ os) b (suc k) = place_at_open os (record b { texts = record b.texts { words = below b.texts.words } }) k
place_at_open (opens.Parameter quoted asked ∷ os) b zero = refl
place_at_open (opens.Parameter quoted asked ∷ os) b (suc k) = place_at_open os (record b { texts = record b.texts { params = below b.texts.params } }) k
place_at_open (opens.Formed quoted form ∷ os) b zero = refl
place_at_open (opens.Formed quoted form ∷ os) b (suc k) = place_at_open os (record b { texts = record b.texts { params = below b.texts.params; firsts = below b.texts.firsts } }) k
place_at_open (opens.Whole from to assigns ∷ os) b zero = refl
place_at_open (opens.Whole from to assigns ∷ os) b (suc k) = place_at_open os (record b { texts = record b.texts { words = below b.texts.words } }) k
place_at_open (opens.Target from ∷ os) b zero = refl
place_at_open (opens.Target from ∷ os) b (suc k) = place_at_open os (record b { texts = record b.texts { paths = below b.texts.paths } }) k
place_at_open (opens.Element from ∷ os) b zero = refl
place_at_open (opens.Element from ∷ os) b (suc k) = place_at_open os (record b { texts = record b.texts { paths = below b.texts.paths } }) k
place_at_open (opens.Assigning append ∷ os) b zero = refl
place_at_open (opens.Assigning append ∷ os) b (suc k) = place_at_open os (record b { texts = record b.texts { paths = below b.texts.paths } }) k
place_at_open (opens.Assigned ∷ os) b zero = refl
place_at_open (opens.Assigned ∷ os) b (suc k) = place_at_open os (record b { simples = record b.simples { assigned = below b.simples.assigned } }) k
place_at_open (opens.Keyed ∷ os) b zero = refl
place_at_open (opens.Keyed ∷ os) b (suc k) = place_at_open os (record b { texts = record b.texts { words = below b.texts.words } }) k
place_at_open (opens.Value ∷ os) b zero = refl
place_at_open (opens.Value ∷ os) b (suc k) = place_at_open os (record b { texts = record b.texts { entries = below b.texts.entries } }) k
place_at_open (opens.Redirection ∷ os) b zero = refl
place_at_open (opens.Redirection ∷ os) b (suc k) = place_at_open os (record b { redirections = record b.redirections { targets = below b.redirections.targets; forms = below b.redirections.forms } }) k
place_at_open (opens.HereOperator ∷ os) b zero = refl
place_at_open (opens.HereOperator ∷ os) b (suc k) = place_at_open os (record b { redirections = record b.redirections { targets = below b.redirections.targets } }) k
place_at_open (opens.HereWord ∷ os) b zero = refl
place_at_open (opens.HereWord ∷ os) b (suc k) = place_at_open os (record b { redirections = record b.redirections { targets = below b.redirections.targets; ends = below b.redirections.ends } }) k
place_at_open (opens.HereBody ∷ os) b zero = refl
place_at_open (opens.HereBody ∷ os) b (suc k) = place_at_open os (record b { redirections = record b.redirections { targets = below b.redirections.targets; ends = below b.redirections.ends } }) k
place_at_open (opens.Redirected ∷ os) b zero = refl
place_at_open (opens.Redirected ∷ os) b (suc k) = place_at_open os (record b { redirections = record b.redirections { redirected = below b.redirections.redirected } }) k
place_at_open (opens.Simple at line ∷ os) b zero = refl
place_at_open (opens.Simple at line ∷ os) b (suc k) = place_at_open os (record b { simples = record b.simples { assigns = below b.simples.assigns; arguments = below b.simples.arguments }; redirections = record b.redirections { redirects = below b.redirections.redirects } }) k
place_at_open (opens.Compound line ∷ os) b zero = refl
place_at_open (opens.Compound line ∷ os) b (suc k) = place_at_open os (record b { lists = record b.lists { commands = below b.lists.commands }; redirections = record b.redirections { redirects = below b.redirections.redirects } }) k
place_at_open (opens.Finished line ∷ os) b zero = refl
place_at_open (opens.Finished line ∷ os) b (suc k) = place_at_open os (record b { lists = record b.lists { commands = below b.lists.commands } }) k
place_at_open (opens.Stages line negated ∷ os) b zero = refl
place_at_open (opens.Stages line negated ∷ os) b (suc k) = place_at_open os (record b { lists = record b.lists { stages = below b.lists.stages } }) k
place_at_open (opens.Piped line ∷ os) b zero = refl
place_at_open (opens.Piped line ∷ os) b (suc k) = place_at_open os (record b { lists = record b.lists { commands = below b.lists.commands } }) k
place_at_open (opens.Linked line or ∷ os) b zero = refl
place_at_open (opens.Linked line or ∷ os) b (suc k) = place_at_open os (record b { lists = record b.lists { commands = below b.lists.commands; links = below b.lists.links } }) k
place_at_open (opens.Chain line ∷ os) b zero = refl
place_at_open (opens.Chain line ∷ os) b (suc k) = place_at_open os (record b { lists = record b.lists { commands = below b.lists.commands } }) k
place_at_open (opens.Lines ∷ os) b zero = refl
place_at_open (opens.Lines ∷ os) b (suc k) = place_at_open os (record b { lists = record b.lists { lines = below b.lists.lines } }) k
place_at_open (opens.Listed ∷ os) b zero = refl
place_at_open (opens.Listed ∷ os) b (suc k) = place_at_open os (record b { lists = record b.lists { lists = below b.lists.lists } }) k
place_at_open (opens.FunctionName at line own_scope ∷ os) b zero = refl
place_at_open (opens.FunctionName at line own_scope ∷ os) b (suc k) = place_at_open os (record b { lists = record b.lists { function_names = below b.lists.function_names } }) k
place_at_open (opens.Defined line ∷ os) b zero = refl
place_at_open (opens.Defined line ∷ os) b (suc k) = place_at_open os (record b { lists = record b.lists { functions = below b.lists.functions } }) k
place_at_open (opens.If line ∷ os) b zero = refl
place_at_open (opens.If line ∷ os) b (suc k) = place_at_open os (record b { compounds = record b.compounds { arms = below b.compounds.arms } }) k
place_at_open (opens.Then line ∷ os) b zero = refl
place_at_open (opens.Then line ∷ os) b (suc k) = place_at_open os (record b { compounds = record b.compounds { arms = below b.compounds.arms }; lists = record b.lists { lists = below b.lists.lists } }) k
place_at_open (opens.Else line ∷ os) b zero = refl
place_at_open (opens.Else line ∷ os) b (suc k) = place_at_open os (record b { compounds = record b.compounds { arms = below b.compounds.arms } }) k
place_at_open (opens.LoopBody line until ∷ os) b zero = refl
place_at_open (opens.LoopBody line until ∷ os) b (suc k) = place_at_open os (record b { lists = record b.lists { lists = below b.lists.lists } }) k
place_at_open (opens.ForName line select ∷ os) b zero = refl
place_at_open (opens.ForName line select ∷ os) b (suc k) = place_at_open os (record b { compounds = record b.compounds { names = below b.compounds.names } }) k
place_at_open (opens.ForWords line select ∷ os) b zero = refl
place_at_open (opens.ForWords line select ∷ os) b (suc k) = place_at_open os (record b { compounds = record b.compounds { names = below b.compounds.names; word_lists = below b.compounds.word_lists } }) k
place_at_open (opens.ForReady line select ∷ os) b zero = refl
place_at_open (opens.ForReady line select ∷ os) b (suc k) = place_at_open os (record b { compounds = record b.compounds { names = below b.compounds.names; word_lists = below b.compounds.word_lists } }) k
place_at_open (opens.ForBody line select ∷ os) b zero = refl
place_at_open (opens.ForBody line select ∷ os) b (suc k) = place_at_open os (record b { compounds = record b.compounds { names = below b.compounds.names; optional_words = below b.compounds.optional_words } }) k
place_at_open (opens.ForArithmetic line ∷ os) b zero = refl
place_at_open (opens.ForArithmetic line ∷ os) b (suc k) = place_at_open os (record b { compounds = record b.compounds { parts = below b.compounds.parts } }) k
place_at_open (opens.ForArithmeticBody line ∷ os) b zero = refl
place_at_open (opens.ForArithmeticBody line ∷ os) b (suc k) = place_at_open os (record b { compounds = record b.compounds { parts = below b.compounds.parts } }) k
place_at_open (opens.CaseWord line ∷ os) b zero = refl
place_at_open (opens.CaseWord line ∷ os) b (suc k) = place_at_open os (record b { texts = record b.texts { words = below b.texts.words } }) k
place_at_open (opens.Cases line ∷ os) b zero = refl
place_at_open (opens.Cases line ∷ os) b (suc k) = place_at_open os (record b { texts = record b.texts { words = below b.texts.words }; compounds = record b.compounds { cases = below b.compounds.cases } }) k
place_at_open (opens.Patterns ∷ os) b zero = refl
place_at_open (opens.Patterns ∷ os) b (suc k) = place_at_open os (record b { compounds = record b.compounds { word_lists = below b.compounds.word_lists } }) k
place_at_open (opens.Terms negated ∷ os) b zero = refl
place_at_open (opens.Terms negated ∷ os) b (suc k) = place_at_open os (record b { compounds = record b.compounds { conditions = below b.compounds.conditions; terms = below b.compounds.terms } }) k
place_at_open (opens.Operands ∷ os) b zero = refl
place_at_open (opens.Operands ∷ os) b (suc k) = place_at_open os (record b { compounds = record b.compounds { word_lists = below b.compounds.word_lists } }) k
place_at_open (opens.Tested ∷ os) b zero = refl
place_at_open (opens.Tested ∷ os) b (suc k) = place_at_open os (record b { compounds = record b.compounds { tests = below b.compounds.tests } }) k

pub place_there : (os : List Open) (b : Loads) (k : ℕ) (p : Place) (o : Option Open) → o ≡ slice_get os k → p ≡ open_place_if o → p ≡ place_at (frames_of os b) k
place_there os b k p o there is = is ∙ ap open_place_if there ∙ sym (place_at_open os b k)

assigns_at_open : (os : List Open) (b : Loads) → is_assignment_on_top (frames_of os b) ≡ is_assignment_open (slice_get os 0)
assigns_at_open [] b = refl
assigns_at_open (opens.Opened o ∷ os) b = refl
assigns_at_open (opens.Text ∷ os) b = refl
assigns_at_open (opens.Subscript ∷ os) b = refl
assigns_at_open (opens.Parameter quoted asked ∷ os) b = refl
assigns_at_open (opens.Formed quoted form ∷ os) b = refl
assigns_at_open (opens.Whole from to assigns ∷ os) b = refl
assigns_at_open (opens.Target from ∷ os) b = refl
assigns_at_open (opens.Element from ∷ os) b = refl
assigns_at_open (opens.Assigning append ∷ os) b = refl
assigns_at_open (opens.Assigned ∷ os) b = refl
assigns_at_open (opens.Keyed ∷ os) b = refl
assigns_at_open (opens.Value ∷ os) b = refl
assigns_at_open (opens.Redirection ∷ os) b = refl
assigns_at_open (opens.HereOperator ∷ os) b = refl
assigns_at_open (opens.HereWord ∷ os) b = refl
assigns_at_open (opens.HereBody ∷ os) b = refl
assigns_at_open (opens.Redirected ∷ os) b = refl
assigns_at_open (opens.Simple at line ∷ os) b = refl
assigns_at_open (opens.Compound line ∷ os) b = refl
assigns_at_open (opens.Finished line ∷ os) b = refl
assigns_at_open (opens.Stages line negated ∷ os) b = refl
assigns_at_open (opens.Piped line ∷ os) b = refl
assigns_at_open (opens.Linked line or ∷ os) b = refl
assigns_at_open (opens.Chain line ∷ os) b = refl
assigns_at_open (opens.Lines ∷ os) b = refl
assigns_at_open (opens.Listed ∷ os) b = refl
assigns_at_open (opens.FunctionName at line own_scope ∷ os) b = refl
assigns_at_open (opens.Defined line ∷ os) b = refl
assigns_at_open (opens.If line ∷ os) b = refl
assigns_at_open (opens.Then line ∷ os) b = refl
assigns_at_open (opens.Else line ∷ os) b = refl
assigns_at_open (opens.LoopBody line until ∷ os) b = refl
assigns_at_open (opens.ForName line select ∷ os) b = refl
assigns_at_open (opens.ForWords line select ∷ os) b = refl
assigns_at_open (opens.ForReady line select ∷ os) b = refl
assigns_at_open (opens.ForBody line select ∷ os) b = refl
assigns_at_open (opens.ForArithmetic line ∷ os) b = refl
assigns_at_open (opens.ForArithmeticBody line ∷ os) b = refl
assigns_at_open (opens.CaseWord line ∷ os) b = refl
assigns_at_open (opens.Cases line ∷ os) b = refl
assigns_at_open (opens.Patterns ∷ os) b = refl
assigns_at_open (opens.Terms negated ∷ os) b = refl
assigns_at_open (opens.Operands ∷ os) b = refl
assigns_at_open (opens.Tested ∷ os) b = refl

pub assigns_there : (os : List Open) (b : Loads) (r : Bool) (o : Option Open) → o ≡ slice_get os 0 → r ≡ is_assignment_open o → r ≡ is_assignment_on_top (frames_of os b)
assigns_there os b r o there is = is ∙ ap is_assignment_open there ∙ sym (assigns_at_open os b)
