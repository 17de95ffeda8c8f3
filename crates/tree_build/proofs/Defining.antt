-- What frames have read: functions, values in parentheses.
use Rattle.std.specs.Prelude.{◌≡◌, ℕ, ◌+◌, Bool, true, false, List, [], ◌∷◌, ◌++◌, Some}
use Rattle.ksh_ast.specs.declared.redirect.Redirect.{Redirect}
use Rattle.ksh_ast.specs.declared.tree.Argument.TheVariants as argument
use Rattle.ksh_ast.specs.declared.tree.Assign.{Assign}
use Rattle.ksh_ast.specs.declared.tree.Command.{Command}
use Rattle.ksh_ast.specs.declared.tree.Command.TheVariants as command
use Rattle.ksh_ast.specs.declared.tree.FunctionDef.{FunctionDef}
use Rattle.ksh_ast.specs.declared.tree.Item.{Item}
use Rattle.ksh_ast.specs.declared.tree.Piece.{Piece}
use Rattle.ksh_syntax.specs.declared.kind.Kind.TheVariants as kind
use Rattle.ksh_syntax.specs.declared.part.Mark.TheVariants as mark
use Rattle.tree_parts.specs.declared.entry.Entry.{Entry}
use Rattle.tree_parts.specs.declared.entry.Entry.TheVariants as entry
use Rattle.tree_build.specs.Frame.{Frame, Text, Subscript, Whole, Assigned, Simple, Compound, Finished, Group, Function, FunctionName, Defined, Value, MemberBody, Keyed}
use Rattle.tree_parts.specs.declared.sign.Sign.{Sign}
use Rattle.tree_parts.specs.declared.sign.Moment.{Moment}
use Rattle.tree_build.specs.Heard.{Lexed, Marked}
use Rattle.tree_parts.specs.Literals.{literal}
use Rattle.tree_parts.specs.Parts.{item, names_of, with_redirects}
use Rattle.tree_build.specs.Tables.{is_word}
use Rattle.tree_build.specs.Reads.{slice, definition, breaks, EndsWithFunction, function_name, name_and_parentheses, function, defines, opens_value, value_word, value_typeset, value_assignment, value_break, key, value_pair, member_name, value_function, member_body, member_group, value_named_function}
use Rattle.tree_build.specs.Frames.{Hears, Keeps, HearsIn}
use Rattle.tree_build.proofs.Steps.{step_open, step_on, step_close_two, step_turn, step_fold, step_close_in}

pub reads_function_name : (s : Sign) (b : List ℕ) (from : ℕ) (line : ℕ) (old s1 new : List Frame) → is_word s.kind ≡ true → old ≡ (Function from line) ∷ s1 → new ≡ FunctionName from line true (names_of b) ∷ s1 → Hears (Lexed s b) old new
reads_function_name s b from line old s1 new e0 o0 last = step_on (Lexed s b) (Function from line) (FunctionName from line true (names_of b)) old s1 new (λ script p q r0. function_name s b from line r0 e0) o0 last

pub reads_name_and_parentheses : (s : Sign) (b : List ℕ) (from : ℕ) (line : ℕ) (name : List ℕ) (old s1 new : List Frame) → s.kind ≡ kind.Open → old ≡ (Simple from line [] (argument.Word (literal name false) ∷ []) []) ∷ s1 → new ≡ FunctionName from line false (names_of name) ∷ s1 → Hears (Lexed s b) old new
reads_name_and_parentheses s b from line name old s1 new e0 o0 last = step_on (Lexed s b) (Simple from line [] (argument.Word (literal name false) ∷ []) []) (FunctionName from line false (names_of name)) old s1 new (λ script p q r0. name_and_parentheses s b from line name r0 e0) o0 last

pub reads_function : (script : List ℕ) (m : Moment) (from : ℕ) (line : ℕ) (own : ℕ) (n : Bool) (name : List (List ℕ)) (c : Command) (d : Command) (rs : List (Redirect (List Piece))) (old s1 s2 new : List Frame) → with_redirects c rs ≡ Some d → old ≡ (Compound own c rs) ∷ s1 → s1 ≡ (FunctionName from line n name) ∷ s2 → new ≡ Defined line (definition name n (item own d ∷ []) (slice script from m.to)) ∷ s2 → HearsIn script (Marked mark.CompoundEnds m) old new
reads_function script m from line own n name c d rs old s1 s2 new e0 o0 o1 last = step_close_in script (Marked mark.CompoundEnds m) (FunctionName from line n name) (Compound own c rs) (Defined line (definition name n (item own d ∷ []) (slice script from m.to))) old s1 s2 new (λ p r q r0 r1. function m from line own n name c d rs r0 r1 e0) o0 o1 last

pub reads_defines : (line : ℕ) (d : FunctionDef (List Item)) (old s1 new : List Frame) → old ≡ (Defined line d) ∷ s1 → new ≡ Finished line (command.Function d) ∷ s1 → Keeps old new
reads_defines line d old s1 new o0 last = step_turn (Defined line d) (Finished line (command.Function d)) old s1 new (λ script p q r0. defines line d r0) o0 last

pub reads_opens_value : (s : Sign) (b : List ℕ) (old new : List Frame) → s.kind ≡ kind.Open → new ≡ Value [] ∷ old → Hears (Lexed s b) old new
reads_opens_value s b old new e0 last = step_open (Lexed s b) (Value []) old new (λ script q. opens_value s b e0) last

pub reads_value_word : (from : ℕ) (to : ℕ) (ps : List Piece) (es : List Entry) (old s1 s2 new : List Frame) → old ≡ (Whole ps from to false) ∷ s1 → s1 ≡ (Value es) ∷ s2 → new ≡ Value (es ++ entry.Word ps from ∷ []) ∷ s2 → Keeps old new
reads_value_word from to ps es old s1 s2 new o0 o1 last = step_fold (Value es) (Whole ps from to false) (Value (es ++ entry.Word ps from ∷ [])) old s1 s2 new (λ script p r q r0 r1. value_word from to ps es r0 r1) o0 o1 last

pub reads_value_typeset : (s : Sign) (b : List ℕ) (es : List Entry) (old s1 new : List Frame) → s.kind ≡ kind.Typeset → old ≡ (Value es) ∷ s1 → new ≡ Value (es ++ entry.Typeset ∷ []) ∷ s1 → Hears (Lexed s b) old new
reads_value_typeset s b es old s1 new e0 o0 last = step_on (Lexed s b) (Value es) (Value (es ++ entry.Typeset ∷ [])) old s1 new (λ script p q r0. value_typeset s b es r0 e0) o0 last

pub reads_value_assignment : (a : Assign) (es : List Entry) (old s1 s2 new : List Frame) → old ≡ (Assigned a) ∷ s1 → s1 ≡ (Value es) ∷ s2 → new ≡ Value (es ++ entry.Assign a ∷ []) ∷ s2 → Keeps old new
reads_value_assignment a es old s1 s2 new o0 o1 last = step_fold (Value es) (Assigned a) (Value (es ++ entry.Assign a ∷ [])) old s1 s2 new (λ script p r q r0 r1. value_assignment a es r0 r1) o0 o1 last

pub reads_value_break : (s : Sign) (b : List ℕ) (es : List Entry) (old s1 new : List Frame) → breaks s.kind ≡ true → old ≡ (Value es) ∷ s1 → new ≡ Value (es ++ entry.Break ∷ []) ∷ s1 → Hears (Lexed s b) old new
reads_value_break s b es old s1 new e0 o0 last = step_on (Lexed s b) (Value es) (Value (es ++ entry.Break ∷ [])) old s1 new (λ script p q r0. value_break s b es r0 e0) o0 last

pub reads_key : (s : Sign) (b : List ℕ) (ps : List Piece) (old s1 new : List Frame) → s.kind ≡ kind.Close → old ≡ (Subscript ps) ∷ s1 → new ≡ Keyed ps ∷ s1 → Hears (Lexed s b) old new
reads_key s b ps old s1 new e0 o0 last = step_on (Lexed s b) (Subscript ps) (Keyed ps) old s1 new (λ script p q r0. key s b ps r0 e0) o0 last

pub reads_value_pair : (s : Sign) (b : List ℕ) (ps : List Piece) (qs : List Piece) (es : List Entry) (old s1 s2 s3 new : List Frame) → s.kind ≡ kind.WordEnd → old ≡ (Text qs) ∷ s1 → s1 ≡ (Keyed ps) ∷ s2 → s2 ≡ (Value es) ∷ s3 → new ≡ Value (es ++ entry.Pair (record { subscript = ps; value = qs }) ∷ []) ∷ s3 → Hears (Lexed s b) old new
reads_value_pair s b ps qs es old s1 s2 s3 new e0 o0 o1 o2 last = step_close_two (Lexed s b) (Value es) (Keyed ps) (Text qs) (Value (es ++ entry.Pair (record { subscript = ps; value = qs }) ∷ [])) old s1 s2 s3 new (λ script p r t q r0 r1 r2. value_pair s b ps qs es r0 r1 r2 e0) o0 o1 o2 last

pub reads_member_name : (s : Sign) (b : List ℕ) (from : ℕ) (to : ℕ) (name : List ℕ) (old s1 new : List Frame) → s.kind ≡ kind.Open → old ≡ (Whole (literal name false) from to false) ∷ s1 → new ≡ FunctionName from s.line false (names_of name) ∷ s1 → Hears (Lexed s b) old new
reads_member_name s b from to name old s1 new e0 o0 last = step_on (Lexed s b) (Whole (literal name false) from to false) (FunctionName from s.line false (names_of name)) old s1 new (λ script p q r0. member_name s b from to name r0 e0) o0 last

pub reads_value_function : (line : ℕ) (d : FunctionDef (List Item)) (es : List Entry) (old s1 s2 new : List Frame) → old ≡ (Defined line d) ∷ s1 → s1 ≡ (Value es) ∷ s2 → new ≡ Value (es ++ entry.Function d ∷ []) ∷ s2 → Keeps old new
reads_value_function line d es old s1 s2 new o0 o1 last = step_fold (Value es) (Defined line d) (Value (es ++ entry.Function d ∷ [])) old s1 s2 new (λ script p r q r0 r1. value_function line d es r0 r1) o0 o1 last

pub reads_member_body : (m : Moment) (old new : List Frame) → new ≡ MemberBody ∷ old → Hears (Marked mark.MemberBody m) old new
reads_member_body m old new last = step_open (Marked mark.MemberBody m) MemberBody old new (λ script q. member_body m) last

pub reads_member_group : (s : Sign) (b : List ℕ) (old s1 new : List Frame) → s.kind ≡ kind.LeftBrace → old ≡ MemberBody ∷ s1 → new ≡ Group s.line ∷ s1 → Hears (Lexed s b) old new
reads_member_group s b old s1 new e0 o0 last = step_on (Lexed s b) MemberBody (Group s.line) old s1 new (λ script p q r0. member_group s b r0 e0) o0 last

pub reads_value_named_function : (script : List ℕ) (m : Moment) (from : ℕ) (own : ℕ) (names : List (List ℕ)) (es : List Entry) (front : List Entry) (c : Command) (d : Command) (rs : List (Redirect (List Piece))) (old s1 s2 new : List Frame) → EndsWithFunction es front from names → with_redirects c rs ≡ Some d → old ≡ (Compound own c rs) ∷ s1 → s1 ≡ (Value es) ∷ s2 → new ≡ Value (front ++ entry.Function (definition names true (item own d ∷ []) (slice script from m.to)) ∷ []) ∷ s2 → HearsIn script (Marked mark.CompoundEnds m) old new
reads_value_named_function script m from own names es front c d rs old s1 s2 new e0 e1 o0 o1 last = step_close_in script (Marked mark.CompoundEnds m) (Value es) (Compound own c rs) (Value (front ++ entry.Function (definition names true (item own d ∷ []) (slice script from m.to)) ∷ [])) old s1 s2 new (λ p r q r0 r1. value_named_function m from own names es front c d rs r0 e0 r1 e1) o0 o1 last
