-- What frames have read: assignments, redirections, simple commands, words.
use Rattle.std.specs.Prelude.{◌≡◌, ℕ, ◌+◌, Bool, true, false, List, [], ◌∷◌, ◌++◌, Some, None}
use Rattle.ksh_ast.specs.declared.redirect.Redirect.{Redirect}
use Rattle.ksh_ast.specs.declared.redirect.RedirectForm.{RedirectForm}
use Rattle.ksh_ast.specs.declared.redirect.RedirectForm.TheVariants.{HereDoc}
use Rattle.ksh_ast.specs.declared.redirect.RedirectTo.{RedirectTo}
use Rattle.ksh_ast.specs.declared.tree.Argument.{Argument}
use Rattle.ksh_ast.specs.declared.tree.Argument.TheVariants as argument
use Rattle.ksh_ast.specs.declared.tree.Assign.{Assign}
use Rattle.ksh_ast.specs.declared.tree.Command.TheVariants as command
use Rattle.ksh_ast.specs.declared.tree.Piece.{Piece}
use Rattle.ksh_ast.specs.declared.tree.TreePart.TheVariants as part
use Rattle.ksh_ast.specs.declared.tree.TreePath.{TreePath}
use Rattle.ksh_kinds.specs.Words.{path_front}
use Rattle.ksh_lexer.specs.declared.kind.Descriptor.{Descriptor}
use Rattle.ksh_lexer.specs.declared.kind.Redirection.{Redirection as Operator}
use Rattle.ksh_lexer.specs.declared.kind.TokenKind.TheVariants as token
use Rattle.ksh_lexer.specs.EndWord.{end_word}
use Rattle.ksh_syntax.specs.declared.kind.Kind.TheVariants as kind
use Rattle.ksh_syntax.specs.declared.part.Mark.TheVariants as mark
use Rattle.tree_parts.specs.declared.entry.Entry.{Entry}
use Rattle.tree_build.specs.Frame.{Frame, Text, Subscript, WordStart, Whole, Target, Element, Assigning, Assigned, Redirection, HereOperator, HereWord, HereBody, Redirected, Simple, Finished, Value}
use Rattle.tree_parts.specs.declared.sign.Sign.{Sign}
use Rattle.tree_parts.specs.declared.sign.Moment.{Moment}
use Rattle.tree_build.specs.Heard.{Lexed, Marked, BodyBegins, BodyEnds}
use Rattle.tree_parts.specs.Literals.{from_place, joined, literal}
use Rattle.tree_parts.specs.Parts.{adds, assign, assignment_of, path_of, path_word, redirect_form, redirect_to, redirection, with_part}
use Rattle.tree_build.specs.Tables.{assigns, is_assignment, is_word, starts_word}
use Rattle.tree_parts.specs.Values.{value_of}
use Rattle.tree_build.specs.Reads.{slice, word_starts, word, plain_word, order_word, element_word, assignment_word, assigns_nothing, element, element_member, element_subscript, no_assignment, assigns_element, assigns_value, assigned_word, assigned_value, redirects, redirects_here, redirected, here_word, here_body, here_document, simple_begins, simple_word, first_assignment, later_assignment, simple_redirection, simple}
use Rattle.tree_build.specs.Frames.{Hears, Keeps, KeepsIn}
use Rattle.tree_build.proofs.Steps.{step_open, step_on, step_close, step_turn, step_fold, step_fold_in}

pub reads_word_starts : (s : Sign) (b : List ℕ) (n : Bool) (old new : List Frame) → starts_word s.kind ≡ Some n → new ≡ WordStart s.from n ∷ old → Hears (Lexed s b) old new
reads_word_starts s b n old new e0 last = step_open (Lexed s b) (WordStart s.from n) old new (λ script q. word_starts s b n e0) last

pub reads_word : (s : Sign) (b : List ℕ) (from : ℕ) (n : Bool) (ps : List Piece) (old s1 s2 new : List Frame) → s.kind ≡ kind.WordEnd → old ≡ (Text ps) ∷ s1 → s1 ≡ (WordStart from n) ∷ s2 → new ≡ Whole ps from s.from n ∷ s2 → Hears (Lexed s b) old new
reads_word s b from n ps old s1 s2 new e0 o0 o1 last = step_close (Lexed s b) (WordStart from n) (Text ps) (Whole ps from s.from n) old s1 s2 new (λ script p r q r0 r1. word s b from n ps r0 r1 e0) o0 o1 last

pub reads_plain_word : (s : Sign) (b : List ℕ) (old new : List Frame) → is_word s.kind ≡ true → new ≡ Whole (literal b false) s.from s.to (is_assignment s.kind) ∷ old → Hears (Lexed s b) old new
reads_plain_word s b old new e0 last = step_open (Lexed s b) (Whole (literal b false) s.from s.to (is_assignment s.kind)) old new (λ script q. plain_word s b e0) last

pub reads_order_word : (s : Sign) (b : List ℕ) (old new : List Frame) → s.kind ≡ kind.Order → new ≡ Whole (literal b false) s.from s.to false ∷ old → Hears (Lexed s b) old new
reads_order_word s b old new e0 last = step_open (Lexed s b) (Whole (literal b false) s.from s.to false) old new (λ script q. order_word s b e0) last

pub reads_element_word : (s : Sign) (b : List ℕ) (from : ℕ) (path : TreePath) (ps : List Piece) (old s1 s2 new : List Frame) → s.kind ≡ kind.WordEnd → old ≡ (Text ps) ∷ s1 → s1 ≡ (Element from path) ∷ s2 → new ≡ Whole (joined (path_word path) ps) from s.from false ∷ s2 → Hears (Lexed s b) old new
reads_element_word s b from path ps old s1 s2 new e0 o0 o1 last = step_close (Lexed s b) (Element from path) (Text ps) (Whole (joined (path_word path) ps) from s.from false) old s1 s2 new (λ script p r q r0 r1. element_word s b from path ps r0 r1 e0) o0 o1 last

pub reads_assigns_nothing : (from : ℕ) (to : ℕ) (ps : List Piece) (old s1 new : List Frame) → assignment_of ps ≡ None → old ≡ (Whole ps from to true) ∷ s1 → new ≡ Whole ps from to false ∷ s1 → Keeps old new
reads_assigns_nothing from to ps old s1 new e0 o0 last = step_turn (Whole ps from to true) (Whole ps from to false) old s1 new (λ script p q r0. assigns_nothing from to ps r0 e0) o0 last

pub reads_assignment_word : (from : ℕ) (to : ℕ) (ps : List Piece) (a : Assign) (old s1 new : List Frame) → assignment_of ps ≡ Some a → old ≡ (Whole ps from to true) ∷ s1 → new ≡ Assigned a ∷ s1 → Keeps old new
reads_assignment_word from to ps a old s1 new e0 o0 last = step_turn (Whole ps from to true) (Assigned a) old s1 new (λ script p q r0. assignment_word from to ps a r0 e0) o0 last

pub reads_element : (s : Sign) (b : List ℕ) (old new : List Frame) → s.kind ≡ kind.Element → new ≡ Target s.from (path_of b) ∷ old → Hears (Lexed s b) old new
reads_element s b old new e0 last = step_open (Lexed s b) (Target s.from (path_of b)) old new (λ script q. element s b e0) last

pub reads_element_member : (s : Sign) (b : List ℕ) (at : ℕ) (from : ℕ) (path : TreePath) (old s1 new : List Frame) → s.token ≡ token.Member at → old ≡ (Target from path) ∷ s1 → new ≡ Target from (with_part path (part.Member (from_place s at b))) ∷ s1 → Hears (Lexed s b) old new
reads_element_member s b at from path old s1 new e0 o0 last = step_on (Lexed s b) (Target from path) (Target from (with_part path (part.Member (from_place s at b)))) old s1 new (λ script p q r0. element_member s b at from path r0 e0) o0 last

pub reads_element_subscript : (s : Sign) (b : List ℕ) (from : ℕ) (ps : List Piece) (path : TreePath) (old s1 s2 new : List Frame) → s.kind ≡ kind.Close → old ≡ (Subscript ps) ∷ s1 → s1 ≡ (Target from path) ∷ s2 → new ≡ Target from (with_part path (part.Sub ps)) ∷ s2 → Hears (Lexed s b) old new
reads_element_subscript s b from ps path old s1 s2 new e0 o0 o1 last = step_close (Lexed s b) (Target from path) (Subscript ps) (Target from (with_part path (part.Sub ps))) old s1 s2 new (λ script p r q r0 r1. element_subscript s b from ps path r0 r1 e0) o0 o1 last

pub reads_no_assignment : (s : Sign) (b : List ℕ) (from : ℕ) (path : TreePath) (old s1 new : List Frame) → s.kind ≡ kind.Otherwise → old ≡ (Target from path) ∷ s1 → new ≡ Element from path ∷ s1 → Hears (Lexed s b) old new
reads_no_assignment s b from path old s1 new e0 o0 last = step_on (Lexed s b) (Target from path) (Element from path) old s1 new (λ script p q r0. no_assignment s b from path r0 e0) o0 last

pub reads_assigns_element : (s : Sign) (b : List ℕ) (from : ℕ) (n : Bool) (path : TreePath) (old s1 new : List Frame) → assigns s.token ≡ Some n → old ≡ (Target from path) ∷ s1 → new ≡ Assigning path n ∷ s1 → Hears (Lexed s b) old new
reads_assigns_element s b from n path old s1 new e0 o0 last = step_on (Lexed s b) (Target from path) (Assigning path n) old s1 new (λ script p q r0. assigns_element s b from n path r0 e0) o0 last

pub reads_assigns_value : (s : Sign) (b : List ℕ) (old new : List Frame) → s.kind ≡ kind.ValueOpen → new ≡ Assigning (path_of (path_front b)) (adds b) ∷ old → Hears (Lexed s b) old new
reads_assigns_value s b old new e0 last = step_open (Lexed s b) (Assigning (path_of (path_front b)) (adds b)) old new (λ script q. assigns_value s b e0) last

pub reads_assigned_word : (s : Sign) (b : List ℕ) (n : Bool) (ps : List Piece) (path : TreePath) (old s1 s2 new : List Frame) → s.kind ≡ kind.WordEnd → old ≡ (Text ps) ∷ s1 → s1 ≡ (Assigning path n) ∷ s2 → new ≡ Assigned (assign path n ps) ∷ s2 → Hears (Lexed s b) old new
reads_assigned_word s b n ps path old s1 s2 new e0 o0 o1 last = step_close (Lexed s b) (Assigning path n) (Text ps) (Assigned (assign path n ps)) old s1 s2 new (λ script p r q r0 r1. assigned_word s b n ps path r0 r1 e0) o0 o1 last

pub reads_assigned_value : (s : Sign) (b : List ℕ) (n : Bool) (path : TreePath) (es : List Entry) (old s1 s2 new : List Frame) → s.kind ≡ kind.Close → old ≡ (Value es) ∷ s1 → s1 ≡ (Assigning path n) ∷ s2 → new ≡ Assigned (record { path = path; append = n; value = value_of es }) ∷ s2 → Hears (Lexed s b) old new
reads_assigned_value s b n path es old s1 s2 new e0 o0 o1 last = step_close (Lexed s b) (Assigning path n) (Value es) (Assigned (record { path = path; append = n; value = value_of es })) old s1 s2 new (λ script p r q r0 r1. assigned_value s b n path es r0 r1 e0) o0 o1 last

pub reads_redirects : (s : Sign) (b : List ℕ) (o : Operator) (d : Descriptor) (rf : RedirectForm) (old new : List Frame) → s.token ≡ token.Redirect o d → redirect_form o ≡ Some rf → new ≡ Redirection (redirect_to d s.from b) rf ∷ old → Hears (Lexed s b) old new
reads_redirects s b o d rf old new e0 e1 last = step_open (Lexed s b) (Redirection (redirect_to d s.from b) rf) old new (λ script q. redirects s b o d rf e0 e1) last

pub reads_redirects_here : (s : Sign) (b : List ℕ) (o : Operator) (d : Descriptor) (old new : List Frame) → s.token ≡ token.Redirect o d → s.kind ≡ kind.HereRedirect → new ≡ HereOperator (redirect_to d s.from b) ∷ old → Hears (Lexed s b) old new
reads_redirects_here s b o d old new e0 e1 last = step_open (Lexed s b) (HereOperator (redirect_to d s.from b)) old new (λ script q. redirects_here s b o d e0 e1) last

pub reads_redirected : (from : ℕ) (to : ℕ) (n : Bool) (ps : List Piece) (rt : RedirectTo) (rf : RedirectForm) (old s1 s2 new : List Frame) → old ≡ (Whole ps from to n) ∷ s1 → s1 ≡ (Redirection rt rf) ∷ s2 → new ≡ Redirected (redirection rt rf ps) ∷ s2 → Keeps old new
reads_redirected from to n ps rt rf old s1 s2 new o0 o1 last = step_fold (Redirection rt rf) (Whole ps from to n) (Redirected (redirection rt rf ps)) old s1 s2 new (λ script p r q r0 r1. redirected from to n ps rt rf r0 r1) o0 o1 last

pub reads_here_word : (script : List ℕ) (from : ℕ) (to : ℕ) (n : Bool) (ps : List Piece) (rt : RedirectTo) (old s1 s2 new : List Frame) → old ≡ (Whole ps from to n) ∷ s1 → s1 ≡ (HereOperator rt) ∷ s2 → new ≡ HereWord rt (end_word (slice script from to)) ∷ s2 → KeepsIn script old new
reads_here_word script from to n ps rt old s1 s2 new o0 o1 last = step_fold_in script (HereOperator rt) (Whole ps from to n) (HereWord rt (end_word (slice script from to))) old s1 s2 new (λ p r q r0 r1. here_word from to n ps rt r0 r1) o0 o1 last

pub reads_here_body : (rt : RedirectTo) (end : List ℕ) (old s1 new : List Frame) → old ≡ (HereWord rt end) ∷ s1 → new ≡ HereBody rt end ∷ s1 → Hears BodyBegins old new
reads_here_body rt end old s1 new o0 last = step_on BodyBegins (HereWord rt end) (HereBody rt end) old s1 new (λ script p q r0. here_body rt end r0) o0 last

pub reads_here_document : (rt : RedirectTo) (end : List ℕ) (ps : List Piece) (old s1 s2 new : List Frame) → old ≡ (Text ps) ∷ s1 → s1 ≡ (HereBody rt end) ∷ s2 → new ≡ Redirected (redirection rt (HereDoc end) ps) ∷ s2 → Hears BodyEnds old new
reads_here_document rt end ps old s1 s2 new o0 o1 last = step_close BodyEnds (HereBody rt end) (Text ps) (Redirected (redirection rt (HereDoc end) ps)) old s1 s2 new (λ script p r q r0 r1. here_document rt end ps r0 r1) o0 o1 last

pub reads_simple_begins : (m : Moment) (old new : List Frame) → new ≡ Simple m.from m.line [] [] [] ∷ old → Hears (Marked mark.SimpleBegins m) old new
reads_simple_begins m old new last = step_open (Marked mark.SimpleBegins m) (Simple m.from m.line [] [] []) old new (λ script q. simple_begins m) last

pub reads_simple_word : (at : ℕ) (line : ℕ) (given : List Assign) (ws : List Argument) (rs : List (Redirect (List Piece))) (from : ℕ) (to : ℕ) (ps : List Piece) (old s1 s2 new : List Frame) → old ≡ (Whole ps from to false) ∷ s1 → s1 ≡ (Simple at line given ws rs) ∷ s2 → new ≡ Simple at line given (ws ++ argument.Word ps ∷ []) rs ∷ s2 → Keeps old new
reads_simple_word at line given ws rs from to ps old s1 s2 new o0 o1 last = step_fold (Simple at line given ws rs) (Whole ps from to false) (Simple at line given (ws ++ argument.Word ps ∷ []) rs) old s1 s2 new (λ script p r q r0 r1. simple_word at line given ws rs from to ps r0 r1) o0 o1 last

pub reads_first_assignment : (at : ℕ) (line : ℕ) (given : List Assign) (rs : List (Redirect (List Piece))) (a : Assign) (old s1 s2 new : List Frame) → old ≡ (Assigned a) ∷ s1 → s1 ≡ (Simple at line given [] rs) ∷ s2 → new ≡ Simple at line (given ++ a ∷ []) [] rs ∷ s2 → Keeps old new
reads_first_assignment at line given rs a old s1 s2 new o0 o1 last = step_fold (Simple at line given [] rs) (Assigned a) (Simple at line (given ++ a ∷ []) [] rs) old s1 s2 new (λ script p r q r0 r1. first_assignment at line given rs a r0 r1) o0 o1 last

pub reads_later_assignment : (at : ℕ) (line : ℕ) (given : List Assign) (ws : List Argument) (rs : List (Redirect (List Piece))) (w : Argument) (a : Assign) (old s1 s2 new : List Frame) → old ≡ (Assigned a) ∷ s1 → s1 ≡ (Simple at line given (w ∷ ws) rs) ∷ s2 → new ≡ Simple at line given ((w ∷ ws) ++ argument.Assign a ∷ []) rs ∷ s2 → Keeps old new
reads_later_assignment at line given ws rs w a old s1 s2 new o0 o1 last = step_fold (Simple at line given (w ∷ ws) rs) (Assigned a) (Simple at line given ((w ∷ ws) ++ argument.Assign a ∷ []) rs) old s1 s2 new (λ script p r q r0 r1. later_assignment at line given ws rs w a r0 r1) o0 o1 last

pub reads_simple_redirection : (at : ℕ) (line : ℕ) (given : List Assign) (ws : List Argument) (rs : List (Redirect (List Piece))) (rd : Redirect (List Piece)) (old s1 s2 new : List Frame) → old ≡ (Redirected rd) ∷ s1 → s1 ≡ (Simple at line given ws rs) ∷ s2 → new ≡ Simple at line given ws (rs ++ rd ∷ []) ∷ s2 → Keeps old new
reads_simple_redirection at line given ws rs rd old s1 s2 new o0 o1 last = step_fold (Simple at line given ws rs) (Redirected rd) (Simple at line given ws (rs ++ rd ∷ [])) old s1 s2 new (λ script p r q r0 r1. simple_redirection at line given ws rs rd r0 r1) o0 o1 last

pub reads_simple : (at : ℕ) (line : ℕ) (given : List Assign) (ws : List Argument) (rs : List (Redirect (List Piece))) (m : Moment) (old s1 new : List Frame) → old ≡ (Simple at line given ws rs) ∷ s1 → new ≡ Finished line (command.Simple given ws rs) ∷ s1 → Hears (Marked mark.SimpleEnds m) old new
reads_simple at line given ws rs m old s1 new o0 last = step_on (Marked mark.SimpleEnds m) (Simple at line given ws rs) (Finished line (command.Simple given ws rs)) old s1 new (λ script p q r0. simple at line given ws rs m r0) o0 last
