-- What frames have read: pipelines and lists.
use Rattle.std.specs.Prelude.{◌≡◌, ℕ, ◌+◌, Bool, true, false, List, [], ◌∷◌, ◌++◌, Some}
use Rattle.ksh_ast.specs.declared.tree.Command.{Command}
use Rattle.ksh_ast.specs.declared.tree.Command.TheVariants as command
use Rattle.ksh_ast.specs.declared.tree.Item.{Item}
use Rattle.ksh_ast.specs.declared.tree.Link.{Link}
use Rattle.ksh_syntax.specs.declared.kind.Kind.TheVariants as kind
use Rattle.ksh_syntax.specs.declared.part.Mark.TheVariants as mark
use Rattle.tree_build.specs.Frame.{Frame, Finished, Stages, Piped, NoLink, Linked, Chain, Lines, Listed}
use Rattle.tree_parts.specs.declared.sign.Sign.{Sign}
use Rattle.tree_parts.specs.declared.sign.Moment.{Moment}
use Rattle.tree_build.specs.Heard.{Lexed, Marked}
use Rattle.tree_parts.specs.Parts.{ended_by, item, joins, negated, piped}
use Rattle.tree_build.specs.Reads.{link, pipeline_begins, bang, stage, pipeline, chain_begins, first_link, next_link, one_pipeline, pipelines, no_line, ended_line, list, list_and_one}
use Rattle.tree_build.specs.Frames.{Hears, Keeps}
use Rattle.tree_build.proofs.Steps.{step_open, step_on, step_close, step_add, step_fold}

pub reads_pipeline_begins : (m : Moment) (old new : List Frame) → new ≡ Stages m.line false [] ∷ old → Hears (Marked mark.PipelineBegins m) old new
reads_pipeline_begins m old new last = step_open (Marked mark.PipelineBegins m) (Stages m.line false []) old new (λ script q. pipeline_begins m) last

pub reads_bang : (s : Sign) (b : List ℕ) (line : ℕ) (old s1 new : List Frame) → s.kind ≡ kind.Bang → old ≡ (Stages line false []) ∷ s1 → new ≡ Stages line true [] ∷ s1 → Hears (Lexed s b) old new
reads_bang s b line old s1 new e0 o0 last = step_on (Lexed s b) (Stages line false []) (Stages line true []) old s1 new (λ script p q r0. bang s b line r0 e0) o0 last

pub reads_stage : (s : Sign) (b : List ℕ) (line : ℕ) (own : ℕ) (n : Bool) (ms : List (List Item)) (c : Command) (old s1 s2 new : List Frame) → s.kind ≡ kind.Bar → old ≡ (Finished own c) ∷ s1 → s1 ≡ (Stages line n ms) ∷ s2 → new ≡ Stages line n (ms ++ (item own c ∷ []) ∷ []) ∷ s2 → Hears (Lexed s b) old new
reads_stage s b line own n ms c old s1 s2 new e0 o0 o1 last = step_close (Lexed s b) (Stages line n ms) (Finished own c) (Stages line n (ms ++ (item own c ∷ []) ∷ [])) old s1 s2 new (λ script p r q r0 r1. stage s b line own n ms c r0 r1 e0) o0 o1 last

pub reads_pipeline : (line : ℕ) (own : ℕ) (n : Bool) (ms : List (List Item)) (c : Command) (old s1 s2 new : List Frame) → old ≡ (Finished own c) ∷ s1 → s1 ≡ (Stages line n ms) ∷ s2 → new ≡ Piped line (negated n (piped ms own c)) ∷ s2 → Keeps old new
reads_pipeline line own n ms c old s1 s2 new o0 o1 last = step_fold (Stages line n ms) (Finished own c) (Piped line (negated n (piped ms own c))) old s1 s2 new (λ script p r q r0 r1. pipeline line own n ms c r0 r1) o0 o1 last

pub reads_chain_begins : (m : Moment) (old new : List Frame) → new ≡ NoLink ∷ old → Hears (Marked mark.AndOrBegins m) old new
reads_chain_begins m old new last = step_open (Marked mark.AndOrBegins m) NoLink old new (λ script q. chain_begins m) last

pub reads_first_link : (s : Sign) (b : List ℕ) (line : ℕ) (c : Command) (or : Bool) (old s1 s2 new : List Frame) → joins s.kind ≡ Some or → old ≡ (Piped line c) ∷ s1 → s1 ≡ NoLink ∷ s2 → new ≡ Linked line c [] or ∷ s2 → Hears (Lexed s b) old new
reads_first_link s b line c or old s1 s2 new e0 o0 o1 last = step_close (Lexed s b) NoLink (Piped line c) (Linked line c [] or) old s1 s2 new (λ script p r q r0 r1. first_link s b line c or r0 r1 e0) o0 o1 last

pub reads_next_link : (s : Sign) (b : List ℕ) (line : ℕ) (own : ℕ) (c : Command) (d : Command) (links : List (Link Command)) (or : Bool) (then_or : Bool) (old s1 s2 new : List Frame) → joins s.kind ≡ Some then_or → old ≡ (Piped own d) ∷ s1 → s1 ≡ (Linked line c links or) ∷ s2 → new ≡ Linked line c (links ++ link or d ∷ []) then_or ∷ s2 → Hears (Lexed s b) old new
reads_next_link s b line own c d links or then_or old s1 s2 new e0 o0 o1 last = step_close (Lexed s b) (Linked line c links or) (Piped own d) (Linked line c (links ++ link or d ∷ []) then_or) old s1 s2 new (λ script p r q r0 r1. next_link s b line own c d links or then_or r0 r1 e0) o0 o1 last

pub reads_one_pipeline : (line : ℕ) (c : Command) (old s1 s2 new : List Frame) → old ≡ (Piped line c) ∷ s1 → s1 ≡ NoLink ∷ s2 → new ≡ Chain line c ∷ s2 → Keeps old new
reads_one_pipeline line c old s1 s2 new o0 o1 last = step_fold NoLink (Piped line c) (Chain line c) old s1 s2 new (λ script p r q r0 r1. one_pipeline line c r0 r1) o0 o1 last

pub reads_pipelines : (line : ℕ) (own : ℕ) (c : Command) (d : Command) (links : List (Link Command)) (or : Bool) (old s1 s2 new : List Frame) → old ≡ (Piped own d) ∷ s1 → s1 ≡ (Linked line c links or) ∷ s2 → new ≡ Chain line (command.AndOr c (links ++ link or d ∷ [])) ∷ s2 → Keeps old new
reads_pipelines line own c d links or old s1 s2 new o0 o1 last = step_fold (Linked line c links or) (Piped own d) (Chain line (command.AndOr c (links ++ link or d ∷ []))) old s1 s2 new (λ script p r q r0 r1. pipelines line own c d links or r0 r1) o0 o1 last

pub reads_no_line : (old new : List Frame) → new ≡ Lines [] ∷ old → Keeps old new
reads_no_line old new last = step_add (Lines []) old new (λ script q. no_line) last

pub reads_ended_line : (s : Sign) (b : List ℕ) (line : ℕ) (c : Command) (d : Command) (is : List Item) (old s1 s2 new : List Frame) → ended_by s.kind line c ≡ Some d → old ≡ (Chain line c) ∷ s1 → s1 ≡ (Lines is) ∷ s2 → new ≡ Lines (is ++ item line d ∷ []) ∷ s2 → Hears (Lexed s b) old new
reads_ended_line s b line c d is old s1 s2 new e0 o0 o1 last = step_close (Lexed s b) (Lines is) (Chain line c) (Lines (is ++ item line d ∷ [])) old s1 s2 new (λ script p r q r0 r1. ended_line s b line c d is r0 r1 e0) o0 o1 last

pub reads_list : (m : Moment) (is : List Item) (old s1 new : List Frame) → old ≡ (Lines is) ∷ s1 → new ≡ Listed is ∷ s1 → Hears (Marked mark.ListEnds m) old new
reads_list m is old s1 new o0 last = step_on (Marked mark.ListEnds m) (Lines is) (Listed is) old s1 new (λ script p q r0. list m is r0) o0 last

pub reads_list_and_one : (m : Moment) (line : ℕ) (c : Command) (is : List Item) (old s1 s2 new : List Frame) → old ≡ (Chain line c) ∷ s1 → s1 ≡ (Lines is) ∷ s2 → new ≡ Listed (is ++ item line c ∷ []) ∷ s2 → Hears (Marked mark.ListEnds m) old new
reads_list_and_one m line c is old s1 s2 new o0 o1 last = step_close (Marked mark.ListEnds m) (Lines is) (Chain line c) (Listed (is ++ item line c ∷ [])) old s1 s2 new (λ script p r q r0 r1. list_and_one m line c is r0 r1) o0 o1 last
