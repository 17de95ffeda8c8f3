-- What frames have read: compound commands.
use Rattle.std.specs.Prelude.{◌≡◌, ℕ, ◌+◌, Bool, true, false, List, [], ◌∷◌, ◌++◌, Option, Some, None, if◌then◌else◌}
use Rattle.ksh_ast.specs.declared.redirect.Redirect.{Redirect}
use Rattle.ksh_ast.specs.declared.tree.Arith.{Arith}
use Rattle.ksh_ast.specs.declared.tree.Arm.{Arm}
use Rattle.ksh_ast.specs.declared.tree.CaseItem.{CaseItem}
use Rattle.ksh_ast.specs.declared.tree.Command.{Command}
use Rattle.ksh_ast.specs.declared.tree.Command.TheVariants as command
use Rattle.ksh_ast.specs.declared.tree.Item.{Item}
use Rattle.ksh_ast.specs.declared.tree.Piece.{Piece}
use Rattle.ksh_ast.specs.declared.tree.Term.{Term}
use Rattle.ksh_syntax.specs.declared.kind.Kind.TheVariants as kind
use Rattle.ksh_syntax.specs.declared.part.Mark.TheVariants as mark
use Rattle.tree_build.specs.Frame.{Frame, Text, Whole, Redirected, Compound, Finished, Listed, Group, Subshell, ArithmeticCommand, If, Then, Else, Loop, LoopBody, For, ForName, ForWords, ForReady, ForBody, ForArithmetic, ForArithmeticBody, Case, CaseWord, Cases, Patterns, ConditionCommand, Terms}
use Rattle.tree_parts.specs.declared.sign.Sign.{Sign}
use Rattle.tree_parts.specs.declared.sign.Moment.{Moment}
use Rattle.tree_build.specs.Heard.{Lexed, Marked}
use Rattle.tree_parts.specs.Parts.{arith_of, part_of_for, with_redirects}
use Rattle.tree_build.specs.Tables.{assigns, ends_item, ends_part, is_word}
use Rattle.tree_build.specs.Silent.{opened}
use Rattle.tree_build.specs.Reads.{repeated, arm, case_item, breaks, opens, compound_redirection, compound, group, subshell, arithmetic_command, condition_command, arm_test, next_arm, last_arm, if_ends, else_ends, loop_test, loop_ends, for_name, for_in, for_word, for_do, for_words_end, for_words_do, for_ends, for_arithmetic, for_part, for_arithmetic_do, for_arithmetic_ends, case_word, case_in, no_pattern, one_pattern, case_item_ends, last_item_ends, case_ends}
use Rattle.tree_build.specs.Frames.{Hears, Keeps}
use Rattle.tree_build.proofs.Steps.{step_open, step_on, step_close, step_close_two, step_add, step_fold}

pub reads_opens : (s : Sign) (b : List ℕ) (f : Frame) (old new : List Frame) → opened s.kind s.from s.line ≡ Some f → new ≡ f ∷ old → Hears (Lexed s b) old new
reads_opens s b f old new e0 last = step_open (Lexed s b) f old new (λ script q. opens s b f e0) last

pub reads_compound_redirection : (line : ℕ) (c : Command) (rs : List (Redirect (List Piece))) (rd : Redirect (List Piece)) (old s1 s2 new : List Frame) → old ≡ (Redirected rd) ∷ s1 → s1 ≡ (Compound line c rs) ∷ s2 → new ≡ Compound line c (rs ++ rd ∷ []) ∷ s2 → Keeps old new
reads_compound_redirection line c rs rd old s1 s2 new o0 o1 last = step_fold (Compound line c rs) (Redirected rd) (Compound line c (rs ++ rd ∷ [])) old s1 s2 new (λ script p r q r0 r1. compound_redirection line c rs rd r0 r1) o0 o1 last

pub reads_compound : (m : Moment) (line : ℕ) (c : Command) (d : Command) (rs : List (Redirect (List Piece))) (old s1 new : List Frame) → with_redirects c rs ≡ Some d → old ≡ (Compound line c rs) ∷ s1 → new ≡ Finished line d ∷ s1 → Hears (Marked mark.CompoundEnds m) old new
reads_compound m line c d rs old s1 new e0 o0 last = step_on (Marked mark.CompoundEnds m) (Compound line c rs) (Finished line d) old s1 new (λ script p q r0. compound m line c d rs r0 e0) o0 last

pub reads_group : (s : Sign) (b : List ℕ) (line : ℕ) (is : List Item) (old s1 s2 new : List Frame) → s.kind ≡ kind.RightBrace → old ≡ (Listed is) ∷ s1 → s1 ≡ (Group line) ∷ s2 → new ≡ Compound line (command.Group is []) [] ∷ s2 → Hears (Lexed s b) old new
reads_group s b line is old s1 s2 new e0 o0 o1 last = step_close (Lexed s b) (Group line) (Listed is) (Compound line (command.Group is []) []) old s1 s2 new (λ script p r q r0 r1. group s b line is r0 r1 e0) o0 o1 last

pub reads_subshell : (s : Sign) (b : List ℕ) (line : ℕ) (is : List Item) (old s1 s2 new : List Frame) → s.kind ≡ kind.Close → old ≡ (Listed is) ∷ s1 → s1 ≡ (Subshell line) ∷ s2 → new ≡ Compound line (command.Subshell is []) [] ∷ s2 → Hears (Lexed s b) old new
reads_subshell s b line is old s1 s2 new e0 o0 o1 last = step_close (Lexed s b) (Subshell line) (Listed is) (Compound line (command.Subshell is []) []) old s1 s2 new (λ script p r q r0 r1. subshell s b line is r0 r1 e0) o0 o1 last

pub reads_arithmetic_command : (s : Sign) (b : List ℕ) (line : ℕ) (ps : List Piece) (e : Arith) (old s1 s2 new : List Frame) → s.kind ≡ kind.Close → arith_of ps ≡ e → old ≡ (Text ps) ∷ s1 → s1 ≡ (ArithmeticCommand line) ∷ s2 → new ≡ Compound line (command.Arith e []) [] ∷ s2 → Hears (Lexed s b) old new
reads_arithmetic_command s b line ps e old s1 s2 new e0 e1 o0 o1 last = step_close (Lexed s b) (ArithmeticCommand line) (Text ps) (Compound line (command.Arith e []) []) old s1 s2 new (λ script p r q r0 r1. arithmetic_command s b line ps e r0 r1 e0 e1) o0 o1 last

pub reads_condition_command : (s : Sign) (b : List ℕ) (line : ℕ) (alternatives : List (List Term)) (terms : List Term) (n : Bool) (old s1 s2 new : List Frame) → s.kind ≡ kind.RightBrackets → old ≡ (Terms alternatives terms n) ∷ s1 → s1 ≡ (ConditionCommand line) ∷ s2 → new ≡ Compound line (command.Cond (alternatives ++ terms ∷ []) []) [] ∷ s2 → Hears (Lexed s b) old new
reads_condition_command s b line alternatives terms n old s1 s2 new e0 o0 o1 last = step_close (Lexed s b) (ConditionCommand line) (Terms alternatives terms n) (Compound line (command.Cond (alternatives ++ terms ∷ []) []) []) old s1 s2 new (λ script p r q r0 r1. condition_command s b line alternatives terms n r0 r1 e0) o0 o1 last

pub reads_arm_test : (s : Sign) (b : List ℕ) (line : ℕ) (arms : List (Arm (List Item))) (is : List Item) (old s1 s2 new : List Frame) → s.kind ≡ kind.Then → old ≡ (Listed is) ∷ s1 → s1 ≡ (If line arms) ∷ s2 → new ≡ Then line arms is ∷ s2 → Hears (Lexed s b) old new
reads_arm_test s b line arms is old s1 s2 new e0 o0 o1 last = step_close (Lexed s b) (If line arms) (Listed is) (Then line arms is) old s1 s2 new (λ script p r q r0 r1. arm_test s b line arms is r0 r1 e0) o0 o1 last

pub reads_next_arm : (s : Sign) (b : List ℕ) (line : ℕ) (arms : List (Arm (List Item))) (condition : List Item) (is : List Item) (old s1 s2 new : List Frame) → s.kind ≡ kind.Elif → old ≡ (Listed is) ∷ s1 → s1 ≡ (Then line arms condition) ∷ s2 → new ≡ If line (arms ++ arm condition is ∷ []) ∷ s2 → Hears (Lexed s b) old new
reads_next_arm s b line arms condition is old s1 s2 new e0 o0 o1 last = step_close (Lexed s b) (Then line arms condition) (Listed is) (If line (arms ++ arm condition is ∷ [])) old s1 s2 new (λ script p r q r0 r1. next_arm s b line arms condition is r0 r1 e0) o0 o1 last

pub reads_last_arm : (s : Sign) (b : List ℕ) (line : ℕ) (arms : List (Arm (List Item))) (condition : List Item) (is : List Item) (old s1 s2 new : List Frame) → s.kind ≡ kind.Else → old ≡ (Listed is) ∷ s1 → s1 ≡ (Then line arms condition) ∷ s2 → new ≡ Else line (arms ++ arm condition is ∷ []) ∷ s2 → Hears (Lexed s b) old new
reads_last_arm s b line arms condition is old s1 s2 new e0 o0 o1 last = step_close (Lexed s b) (Then line arms condition) (Listed is) (Else line (arms ++ arm condition is ∷ [])) old s1 s2 new (λ script p r q r0 r1. last_arm s b line arms condition is r0 r1 e0) o0 o1 last

pub reads_if_ends : (s : Sign) (b : List ℕ) (line : ℕ) (arms : List (Arm (List Item))) (condition : List Item) (is : List Item) (old s1 s2 new : List Frame) → s.kind ≡ kind.Fi → old ≡ (Listed is) ∷ s1 → s1 ≡ (Then line arms condition) ∷ s2 → new ≡ Compound line (command.If (arms ++ arm condition is ∷ []) None []) [] ∷ s2 → Hears (Lexed s b) old new
reads_if_ends s b line arms condition is old s1 s2 new e0 o0 o1 last = step_close (Lexed s b) (Then line arms condition) (Listed is) (Compound line (command.If (arms ++ arm condition is ∷ []) None []) []) old s1 s2 new (λ script p r q r0 r1. if_ends s b line arms condition is r0 r1 e0) o0 o1 last

pub reads_else_ends : (s : Sign) (b : List ℕ) (line : ℕ) (arms : List (Arm (List Item))) (is : List Item) (old s1 s2 new : List Frame) → s.kind ≡ kind.Fi → old ≡ (Listed is) ∷ s1 → s1 ≡ (Else line arms) ∷ s2 → new ≡ Compound line (command.If arms (Some is) []) [] ∷ s2 → Hears (Lexed s b) old new
reads_else_ends s b line arms is old s1 s2 new e0 o0 o1 last = step_close (Lexed s b) (Else line arms) (Listed is) (Compound line (command.If arms (Some is) []) []) old s1 s2 new (λ script p r q r0 r1. else_ends s b line arms is r0 r1 e0) o0 o1 last

pub reads_loop_test : (s : Sign) (b : List ℕ) (line : ℕ) (n : Bool) (is : List Item) (old s1 s2 new : List Frame) → s.kind ≡ kind.Do → old ≡ (Listed is) ∷ s1 → s1 ≡ (Loop line n) ∷ s2 → new ≡ LoopBody line n is ∷ s2 → Hears (Lexed s b) old new
reads_loop_test s b line n is old s1 s2 new e0 o0 o1 last = step_close (Lexed s b) (Loop line n) (Listed is) (LoopBody line n is) old s1 s2 new (λ script p r q r0 r1. loop_test s b line n is r0 r1 e0) o0 o1 last

pub reads_loop_ends : (s : Sign) (b : List ℕ) (line : ℕ) (n : Bool) (condition : List Item) (is : List Item) (old s1 s2 new : List Frame) → s.kind ≡ kind.Done → old ≡ (Listed is) ∷ s1 → s1 ≡ (LoopBody line n condition) ∷ s2 → new ≡ Compound line (command.Loop n condition is []) [] ∷ s2 → Hears (Lexed s b) old new
reads_loop_ends s b line n condition is old s1 s2 new e0 o0 o1 last = step_close (Lexed s b) (LoopBody line n condition) (Listed is) (Compound line (command.Loop n condition is []) []) old s1 s2 new (λ script p r q r0 r1. loop_ends s b line n condition is r0 r1 e0) o0 o1 last

pub reads_for_name : (s : Sign) (b : List ℕ) (line : ℕ) (n : Bool) (old s1 new : List Frame) → is_word s.kind ≡ true → old ≡ (For line n) ∷ s1 → new ≡ ForName line n b ∷ s1 → Hears (Lexed s b) old new
reads_for_name s b line n old s1 new e0 o0 last = step_on (Lexed s b) (For line n) (ForName line n b) old s1 new (λ script p q r0. for_name s b line n r0 e0) o0 last

pub reads_for_in : (s : Sign) (b : List ℕ) (line : ℕ) (n : Bool) (name : List ℕ) (old s1 new : List Frame) → s.kind ≡ kind.In → old ≡ (ForName line n name) ∷ s1 → new ≡ ForWords line n name [] ∷ s1 → Hears (Lexed s b) old new
reads_for_in s b line n name old s1 new e0 o0 last = step_on (Lexed s b) (ForName line n name) (ForWords line n name []) old s1 new (λ script p q r0. for_in s b line n name r0 e0) o0 last

pub reads_for_word : (line : ℕ) (n : Bool) (name : List ℕ) (ws : List (List Piece)) (ps : List Piece) (from : ℕ) (to : ℕ) (assigns : Bool) (old s1 s2 new : List Frame) → old ≡ (Whole ps from to assigns) ∷ s1 → s1 ≡ (ForWords line n name ws) ∷ s2 → new ≡ ForWords line n name (ws ++ ps ∷ []) ∷ s2 → Keeps old new
reads_for_word line n name ws ps from to assigns old s1 s2 new o0 o1 last = step_fold (ForWords line n name ws) (Whole ps from to assigns) (ForWords line n name (ws ++ ps ∷ [])) old s1 s2 new (λ script p r q r0 r1. for_word line n name ws ps from to assigns r0 r1) o0 o1 last

pub reads_for_do : (s : Sign) (b : List ℕ) (line : ℕ) (n : Bool) (name : List ℕ) (old s1 new : List Frame) → s.kind ≡ kind.Do → old ≡ (ForName line n name) ∷ s1 → new ≡ ForBody line n name None ∷ s1 → Hears (Lexed s b) old new
reads_for_do s b line n name old s1 new e0 o0 last = step_on (Lexed s b) (ForName line n name) (ForBody line n name None) old s1 new (λ script p q r0. for_do s b line n name r0 e0) o0 last

pub reads_for_words_end : (s : Sign) (b : List ℕ) (line : ℕ) (n : Bool) (name : List ℕ) (ws : List (List Piece)) (old s1 new : List Frame) → breaks s.kind ≡ true → old ≡ (ForWords line n name ws) ∷ s1 → new ≡ ForReady line n name ws ∷ s1 → Hears (Lexed s b) old new
reads_for_words_end s b line n name ws old s1 new e0 o0 last = step_on (Lexed s b) (ForWords line n name ws) (ForReady line n name ws) old s1 new (λ script p q r0. for_words_end s b line n name ws r0 e0) o0 last

pub reads_for_words_do : (s : Sign) (b : List ℕ) (line : ℕ) (n : Bool) (name : List ℕ) (ws : List (List Piece)) (old s1 new : List Frame) → s.kind ≡ kind.Do → old ≡ (ForReady line n name ws) ∷ s1 → new ≡ ForBody line n name (Some ws) ∷ s1 → Hears (Lexed s b) old new
reads_for_words_do s b line n name ws old s1 new e0 o0 last = step_on (Lexed s b) (ForReady line n name ws) (ForBody line n name (Some ws)) old s1 new (λ script p q r0. for_words_do s b line n name ws r0 e0) o0 last

pub reads_for_ends : (s : Sign) (b : List ℕ) (line : ℕ) (n : Bool) (name : List ℕ) (ws : Option (List (List Piece))) (is : List Item) (old s1 s2 new : List Frame) → s.kind ≡ kind.Done → old ≡ (Listed is) ∷ s1 → s1 ≡ (ForBody line n name ws) ∷ s2 → new ≡ Compound line (repeated n name ws is) [] ∷ s2 → Hears (Lexed s b) old new
reads_for_ends s b line n name ws is old s1 s2 new e0 o0 o1 last = step_close (Lexed s b) (ForBody line n name ws) (Listed is) (Compound line (repeated n name ws is) []) old s1 s2 new (λ script p r q r0 r1. for_ends s b line n name ws is r0 r1 e0) o0 o1 last

pub reads_for_arithmetic : (s : Sign) (b : List ℕ) (line : ℕ) (old s1 new : List Frame) → s.kind ≡ kind.DoubleParenthesis → old ≡ (For line false) ∷ s1 → new ≡ ForArithmetic line [] ∷ s1 → Hears (Lexed s b) old new
reads_for_arithmetic s b line old s1 new e0 o0 last = step_on (Lexed s b) (For line false) (ForArithmetic line []) old s1 new (λ script p q r0. for_arithmetic s b line r0 e0) o0 last

pub reads_for_part : (s : Sign) (b : List ℕ) (line : ℕ) (parts : List (Option Arith)) (part : Option Arith) (ps : List Piece) (old s1 s2 new : List Frame) → ends_part s.kind ≡ true → part_of_for ps ≡ part → old ≡ (Text ps) ∷ s1 → s1 ≡ (ForArithmetic line parts) ∷ s2 → new ≡ ForArithmetic line (parts ++ part ∷ []) ∷ s2 → Hears (Lexed s b) old new
reads_for_part s b line parts part ps old s1 s2 new e0 e1 o0 o1 last = step_close (Lexed s b) (ForArithmetic line parts) (Text ps) (ForArithmetic line (parts ++ part ∷ [])) old s1 s2 new (λ script p r q r0 r1. for_part s b line parts part ps r0 r1 e0 e1) o0 o1 last

pub reads_for_arithmetic_do : (s : Sign) (b : List ℕ) (line : ℕ) (parts : List (Option Arith)) (old s1 new : List Frame) → s.kind ≡ kind.Do → old ≡ (ForArithmetic line parts) ∷ s1 → new ≡ ForArithmeticBody line parts ∷ s1 → Hears (Lexed s b) old new
reads_for_arithmetic_do s b line parts old s1 new e0 o0 last = step_on (Lexed s b) (ForArithmetic line parts) (ForArithmeticBody line parts) old s1 new (λ script p q r0. for_arithmetic_do s b line parts r0 e0) o0 last

pub reads_for_arithmetic_ends : (s : Sign) (b : List ℕ) (line : ℕ) (first : Option Arith) (condition : Option Arith) (step : Option Arith) (is : List Item) (old s1 s2 new : List Frame) → s.kind ≡ kind.Done → old ≡ (Listed is) ∷ s1 → s1 ≡ (ForArithmeticBody line (first ∷ condition ∷ step ∷ [])) ∷ s2 → new ≡ Compound line (command.ForArith first condition step is []) [] ∷ s2 → Hears (Lexed s b) old new
reads_for_arithmetic_ends s b line first condition step is old s1 s2 new e0 o0 o1 last = step_close (Lexed s b) (ForArithmeticBody line (first ∷ condition ∷ step ∷ [])) (Listed is) (Compound line (command.ForArith first condition step is []) []) old s1 s2 new (λ script p r q r0 r1. for_arithmetic_ends s b line first condition step is r0 r1 e0) o0 o1 last

pub reads_case_word : (line : ℕ) (from : ℕ) (to : ℕ) (n : Bool) (ps : List Piece) (old s1 s2 new : List Frame) → old ≡ (Whole ps from to n) ∷ s1 → s1 ≡ (Case line) ∷ s2 → new ≡ CaseWord line ps ∷ s2 → Keeps old new
reads_case_word line from to n ps old s1 s2 new o0 o1 last = step_fold (Case line) (Whole ps from to n) (CaseWord line ps) old s1 s2 new (λ script p r q r0 r1. case_word line from to n ps r0 r1) o0 o1 last

pub reads_case_in : (s : Sign) (b : List ℕ) (line : ℕ) (ps : List Piece) (old s1 new : List Frame) → s.kind ≡ kind.In → old ≡ (CaseWord line ps) ∷ s1 → new ≡ Cases line ps [] ∷ s1 → Hears (Lexed s b) old new
reads_case_in s b line ps old s1 new e0 o0 last = step_on (Lexed s b) (CaseWord line ps) (Cases line ps []) old s1 new (λ script p q r0. case_in s b line ps r0 e0) o0 last

pub reads_no_pattern : (old new : List Frame) → new ≡ Patterns [] ∷ old → Keeps old new
reads_no_pattern old new last = step_add (Patterns []) old new (λ script q. no_pattern) last

pub reads_one_pattern : (from : ℕ) (to : ℕ) (n : Bool) (ps : List Piece) (ws : List (List Piece)) (old s1 s2 new : List Frame) → old ≡ (Whole ps from to n) ∷ s1 → s1 ≡ (Patterns ws) ∷ s2 → new ≡ Patterns (ws ++ ps ∷ []) ∷ s2 → Keeps old new
reads_one_pattern from to n ps ws old s1 s2 new o0 o1 last = step_fold (Patterns ws) (Whole ps from to n) (Patterns (ws ++ ps ∷ [])) old s1 s2 new (λ script p r q r0 r1. one_pattern from to n ps ws r0 r1) o0 o1 last

pub reads_case_item_ends : (s : Sign) (b : List ℕ) (line : ℕ) (ps : List Piece) (items : List CaseItem) (ws : List (List Piece)) (is : List Item) (falls : Bool) (old s1 s2 s3 new : List Frame) → ends_item s.kind ≡ Some falls → old ≡ (Listed is) ∷ s1 → s1 ≡ (Patterns ws) ∷ s2 → s2 ≡ (Cases line ps items) ∷ s3 → new ≡ Cases line ps (items ++ case_item ws is falls ∷ []) ∷ s3 → Hears (Lexed s b) old new
reads_case_item_ends s b line ps items ws is falls old s1 s2 s3 new e0 o0 o1 o2 last = step_close_two (Lexed s b) (Cases line ps items) (Patterns ws) (Listed is) (Cases line ps (items ++ case_item ws is falls ∷ [])) old s1 s2 s3 new (λ script p r t q r0 r1 r2. case_item_ends s b line ps items ws is falls r0 r1 r2 e0) o0 o1 o2 last

pub reads_last_item_ends : (s : Sign) (b : List ℕ) (line : ℕ) (ps : List Piece) (items : List CaseItem) (ws : List (List Piece)) (is : List Item) (old s1 s2 s3 new : List Frame) → s.kind ≡ kind.Esac → old ≡ (Listed is) ∷ s1 → s1 ≡ (Patterns ws) ∷ s2 → s2 ≡ (Cases line ps items) ∷ s3 → new ≡ Compound line (command.Case ps (items ++ case_item ws is false ∷ []) []) [] ∷ s3 → Hears (Lexed s b) old new
reads_last_item_ends s b line ps items ws is old s1 s2 s3 new e0 o0 o1 o2 last = step_close_two (Lexed s b) (Cases line ps items) (Patterns ws) (Listed is) (Compound line (command.Case ps (items ++ case_item ws is false ∷ []) []) []) old s1 s2 s3 new (λ script p r t q r0 r1 r2. last_item_ends s b line ps items ws is r0 r1 r2 e0) o0 o1 o2 last

pub reads_case_ends : (s : Sign) (b : List ℕ) (line : ℕ) (ps : List Piece) (items : List CaseItem) (old s1 new : List Frame) → s.kind ≡ kind.Esac → old ≡ (Cases line ps items) ∷ s1 → new ≡ Compound line (command.Case ps items []) [] ∷ s1 → Hears (Lexed s b) old new
reads_case_ends s b line ps items old s1 new e0 o0 last = step_on (Lexed s b) (Cases line ps items) (Compound line (command.Case ps items []) []) old s1 new (λ script p q r0. case_ends s b line ps items r0 e0) o0 last
