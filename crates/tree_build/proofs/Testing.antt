-- What frames have read: conditions.
use Rattle.std.specs.Prelude.{◌≡◌, ℕ, ◌+◌, Bool, false, not, List, [], ◌∷◌, ◌++◌, Some}
use Rattle.ksh_ast.specs.declared.tree.Piece.{Piece}
use Rattle.ksh_ast.specs.declared.tree.Term.{Term}
use Rattle.ksh_ast.specs.declared.tree.Test.{Test}
use Rattle.ksh_ast.specs.declared.tree.Test.TheVariants as test
use Rattle.ksh_syntax.specs.declared.kind.Kind.TheVariants as kind
use Rattle.ksh_syntax.specs.declared.part.Mark.TheVariants as mark
use Rattle.tree_build.specs.Frame.{Frame, Whole, Nested, Terms, Operands, Tested}
use Rattle.tree_parts.specs.declared.sign.Sign.{Sign}
use Rattle.tree_parts.specs.declared.sign.Moment.{Moment}
use Rattle.tree_build.specs.Heard.{Lexed, Marked}
use Rattle.tree_parts.specs.Parts.{negated, test_of}
use Rattle.tree_build.specs.Reads.{no_term, not_term, no_operand, one_operand, tested, opens_nested, nested, term, alternative}
use Rattle.tree_build.specs.Frames.{Hears, Keeps}
use Rattle.tree_build.proofs.Steps.{step_open, step_on, step_close, step_add, step_turn, step_fold}

pub reads_no_term : (old new : List Frame) → new ≡ Terms [] [] false ∷ old → Keeps old new
reads_no_term old new last = step_add (Terms [] [] false) old new (λ script q. no_term) last

pub reads_not_term : (s : Sign) (b : List ℕ) (alternatives : List (List Term)) (terms : List Term) (n : Bool) (old s1 new : List Frame) → s.kind ≡ kind.Bang → old ≡ (Terms alternatives terms n) ∷ s1 → new ≡ Terms alternatives terms (not n) ∷ s1 → Hears (Lexed s b) old new
reads_not_term s b alternatives terms n old s1 new e0 o0 last = step_on (Lexed s b) (Terms alternatives terms n) (Terms alternatives terms (not n)) old s1 new (λ script p q r0. not_term s b alternatives terms n r0 e0) o0 last

pub reads_no_operand : (old new : List Frame) → new ≡ Operands [] ∷ old → Keeps old new
reads_no_operand old new last = step_add (Operands []) old new (λ script q. no_operand) last

pub reads_one_operand : (from : ℕ) (to : ℕ) (n : Bool) (ps : List Piece) (ws : List (List Piece)) (old s1 s2 new : List Frame) → old ≡ (Whole ps from to n) ∷ s1 → s1 ≡ (Operands ws) ∷ s2 → new ≡ Operands (ws ++ ps ∷ []) ∷ s2 → Keeps old new
reads_one_operand from to n ps ws old s1 s2 new o0 o1 last = step_fold (Operands ws) (Whole ps from to n) (Operands (ws ++ ps ∷ [])) old s1 s2 new (λ script p r q r0 r1. one_operand from to n ps ws r0 r1) o0 o1 last

pub reads_tested : (ws : List (List Piece)) (x : Test) (old s1 new : List Frame) → test_of ws ≡ Some x → old ≡ (Operands ws) ∷ s1 → new ≡ Tested x ∷ s1 → Keeps old new
reads_tested ws x old s1 new e0 o0 last = step_turn (Operands ws) (Tested x) old s1 new (λ script p q r0. tested ws x r0 e0) o0 last

pub reads_opens_nested : (s : Sign) (b : List ℕ) (old new : List Frame) → s.kind ≡ kind.Open → new ≡ Nested ∷ old → Hears (Lexed s b) old new
reads_opens_nested s b old new e0 last = step_open (Lexed s b) Nested old new (λ script q. opens_nested s b e0) last

pub reads_nested : (s : Sign) (b : List ℕ) (alternatives : List (List Term)) (terms : List Term) (n : Bool) (old s1 s2 new : List Frame) → s.kind ≡ kind.Close → old ≡ (Terms alternatives terms n) ∷ s1 → s1 ≡ Nested ∷ s2 → new ≡ Tested (test.Nested (alternatives ++ terms ∷ [])) ∷ s2 → Hears (Lexed s b) old new
reads_nested s b alternatives terms n old s1 s2 new e0 o0 o1 last = step_close (Lexed s b) Nested (Terms alternatives terms n) (Tested (test.Nested (alternatives ++ terms ∷ []))) old s1 s2 new (λ script p r q r0 r1. nested s b alternatives terms n r0 r1 e0) o0 o1 last

pub reads_term : (m : Moment) (alternatives : List (List Term)) (terms : List Term) (n : Bool) (x : Test) (old s1 s2 new : List Frame) → old ≡ (Tested x) ∷ s1 → s1 ≡ (Terms alternatives terms n) ∷ s2 → new ≡ Terms alternatives (terms ++ record { negated = n; test = x } ∷ []) false ∷ s2 → Hears (Marked mark.TermEnds m) old new
reads_term m alternatives terms n x old s1 s2 new o0 o1 last = step_close (Marked mark.TermEnds m) (Terms alternatives terms n) (Tested x) (Terms alternatives (terms ++ record { negated = n; test = x } ∷ []) false) old s1 s2 new (λ script p r q r0 r1. term m alternatives terms n x r0 r1) o0 o1 last

pub reads_alternative : (s : Sign) (b : List ℕ) (alternatives : List (List Term)) (terms : List Term) (n : Bool) (old s1 new : List Frame) → s.kind ≡ kind.OrIf → old ≡ (Terms alternatives terms n) ∷ s1 → new ≡ Terms (alternatives ++ terms ∷ []) [] false ∷ s1 → Hears (Lexed s b) old new
reads_alternative s b alternatives terms n old s1 new e0 o0 last = step_on (Lexed s b) (Terms alternatives terms n) (Terms (alternatives ++ terms ∷ []) [] false) old s1 new (λ script p q r0. alternative s b alternatives terms n r0 e0) o0 last
