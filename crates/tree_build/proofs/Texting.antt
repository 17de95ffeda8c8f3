-- What frames have read: pieces of a text, what opens within a text.
use Rattle.std.specs.Prelude.{◌≡◌, ℕ, ◌+◌, Bool, true, List, [], ◌∷◌, ◌++◌, Option, Some}
use Rattle.ksh_ast.specs.declared.kinds.SubstKind.{SubstKind}
use Rattle.ksh_ast.specs.declared.tree.Arith.{Arith}
use Rattle.ksh_ast.specs.declared.tree.Item.{Item}
use Rattle.ksh_ast.specs.declared.tree.ParamForm.{ParamForm}
use Rattle.ksh_ast.specs.declared.tree.ParamForm.TheVariants as made
use Rattle.ksh_ast.specs.declared.tree.ParamOf.{ParamOf}
use Rattle.ksh_ast.specs.declared.tree.Piece.{Piece}
use Rattle.ksh_ast.specs.declared.tree.Piece.TheVariants as piece
use Rattle.ksh_lexer.specs.declared.kind.Form.{Form}
use Rattle.ksh_lexer.specs.declared.kind.TokenKind.TheVariants as token
use Rattle.ksh_syntax.specs.declared.kind.Kind.TheVariants as kind
use Rattle.tree_parts.specs.declared.asked.Asked.{Asked}
use Rattle.tree_parts.specs.declared.asked.Asked.TheVariants as asked
use Rattle.tree_build.specs.Frame.{Frame, Text, Braces, Parameter, Formed, Substitution, Arithmetic, Listed}
use Rattle.tree_parts.specs.declared.sign.Sign.{Sign}
use Rattle.tree_build.specs.Heard.{Lexed}
use Rattle.tree_parts.specs.Literals.{from_place, literal_of, quotes, with_literal}
use Rattle.tree_parts.specs.Parts.{arith_of, formed, opens_list, plain_form, simple_param, subst_kind}
use Rattle.tree_build.specs.Tables.{closes}
use Rattle.tree_build.specs.Reads.{expansion, no_piece, literal_piece, simple_expansion, plain_expansion, formed_expansion, substitution, number, opens_substitution, opens_arithmetic, opens_braces}
use Rattle.tree_build.specs.Frames.{Hears, Keeps}
use Rattle.tree_build.proofs.Steps.{step_open, step_on, step_close, step_close_two, step_add}

pub reads_no_piece : (old new : List Frame) → new ≡ Text [] ∷ old → Keeps old new
reads_no_piece old new last = step_add (Text []) old new (λ script q. no_piece) last

pub reads_literal_piece : (s : Sign) (b : List ℕ) (text : List ℕ) (quoted : Bool) (ps : List Piece) (old s1 new : List Frame) → literal_of s b ≡ Some (text, quoted) → old ≡ (Text ps) ∷ s1 → new ≡ Text (with_literal ps text quoted) ∷ s1 → Hears (Lexed s b) old new
reads_literal_piece s b text quoted ps old s1 new e0 o0 last = step_on (Lexed s b) (Text ps) (Text (with_literal ps text quoted)) old s1 new (λ script p q r0. literal_piece s b text quoted ps r0 e0) o0 last

pub reads_simple_expansion : (s : Sign) (b : List ℕ) (at : ℕ) (ps : List Piece) (old s1 new : List Frame) → s.token ≡ token.Expand at → old ≡ (Text ps) ∷ s1 → new ≡ Text (ps ++ expansion (simple_param (from_place s at b)) made.Plain (quotes s.mode) ∷ []) ∷ s1 → Hears (Lexed s b) old new
reads_simple_expansion s b at ps old s1 new e0 o0 last = step_on (Lexed s b) (Text ps) (Text (ps ++ expansion (simple_param (from_place s at b)) made.Plain (quotes s.mode) ∷ [])) old s1 new (λ script p q r0. simple_expansion s b at ps r0 e0) o0 last

pub reads_plain_expansion : (s : Sign) (b : List ℕ) (ps : List Piece) (quoted : Bool) (a : Asked) (of : ParamOf) (old s1 s2 new : List Frame) → s.kind ≡ kind.Close → old ≡ (Parameter quoted a of) ∷ s1 → s1 ≡ (Text ps) ∷ s2 → new ≡ Text (ps ++ expansion of (plain_form a) quoted ∷ []) ∷ s2 → Hears (Lexed s b) old new
reads_plain_expansion s b ps quoted a of old s1 s2 new e0 o0 o1 last = step_close (Lexed s b) (Text ps) (Parameter quoted a of) (Text (ps ++ expansion of (plain_form a) quoted ∷ [])) old s1 s2 new (λ script p r q r0 r1. plain_expansion s b ps quoted a of r0 r1 e0) o0 o1 last

pub reads_formed_expansion : (s : Sign) (b : List ℕ) (ps : List Piece) (qs : List Piece) (quoted : Bool) (of : ParamOf) (form : Form) (first : Option (List Piece)) (made : ParamForm) (old s1 s2 s3 new : List Frame) → s.kind ≡ kind.Close → formed form first qs ≡ Some made → old ≡ (Text qs) ∷ s1 → s1 ≡ (Formed quoted of form first) ∷ s2 → s2 ≡ (Text ps) ∷ s3 → new ≡ Text (ps ++ expansion of made quoted ∷ []) ∷ s3 → Hears (Lexed s b) old new
reads_formed_expansion s b ps qs quoted of form first made old s1 s2 s3 new e0 e1 o0 o1 o2 last = step_close_two (Lexed s b) (Text ps) (Formed quoted of form first) (Text qs) (Text (ps ++ expansion of made quoted ∷ [])) old s1 s2 s3 new (λ script p r t q r0 r1 r2. formed_expansion s b ps qs quoted of form first made r0 r1 r2 e0 e1) o0 o1 o2 last

pub reads_substitution : (s : Sign) (b : List ℕ) (ps : List Piece) (quoted : Bool) (sk : SubstKind) (is : List Item) (old s1 s2 s3 new : List Frame) → closes sk s.kind ≡ true → old ≡ (Listed is) ∷ s1 → s1 ≡ (Substitution quoted sk) ∷ s2 → s2 ≡ (Text ps) ∷ s3 → new ≡ Text (ps ++ piece.Subst is (subst_kind sk is) quoted ∷ []) ∷ s3 → Hears (Lexed s b) old new
reads_substitution s b ps quoted sk is old s1 s2 s3 new e0 o0 o1 o2 last = step_close_two (Lexed s b) (Text ps) (Substitution quoted sk) (Listed is) (Text (ps ++ piece.Subst is (subst_kind sk is) quoted ∷ [])) old s1 s2 s3 new (λ script p r t q r0 r1 r2. substitution s b ps quoted sk is r0 r1 r2 e0) o0 o1 o2 last

pub reads_number : (s : Sign) (b : List ℕ) (ps : List Piece) (qs : List Piece) (quoted : Bool) (e : Arith) (old s1 s2 s3 new : List Frame) → s.kind ≡ kind.Close → arith_of qs ≡ e → old ≡ (Text qs) ∷ s1 → s1 ≡ (Arithmetic quoted) ∷ s2 → s2 ≡ (Text ps) ∷ s3 → new ≡ Text (ps ++ piece.Number e quoted ∷ []) ∷ s3 → Hears (Lexed s b) old new
reads_number s b ps qs quoted e old s1 s2 s3 new e0 e1 o0 o1 o2 last = step_close_two (Lexed s b) (Text ps) (Arithmetic quoted) (Text qs) (Text (ps ++ piece.Number e quoted ∷ [])) old s1 s2 s3 new (λ script p r t q r0 r1 r2. number s b ps qs quoted e r0 r1 r2 e0 e1) o0 o1 o2 last

pub reads_opens_substitution : (s : Sign) (b : List ℕ) (sk : SubstKind) (old new : List Frame) → opens_list s.kind ≡ Some sk → new ≡ Substitution (quotes s.mode) sk ∷ old → Hears (Lexed s b) old new
reads_opens_substitution s b sk old new e0 last = step_open (Lexed s b) (Substitution (quotes s.mode) sk) old new (λ script q. opens_substitution s b sk e0) last

pub reads_opens_arithmetic : (s : Sign) (b : List ℕ) (old new : List Frame) → s.kind ≡ kind.OpenArithmetic → new ≡ Arithmetic (quotes s.mode) ∷ old → Hears (Lexed s b) old new
reads_opens_arithmetic s b old new e0 last = step_open (Lexed s b) (Arithmetic (quotes s.mode)) old new (λ script q. opens_arithmetic s b e0) last

pub reads_opens_braces : (s : Sign) (b : List ℕ) (old new : List Frame) → s.kind ≡ kind.OpenParameter → new ≡ Braces (quotes s.mode) asked.Value ∷ old → Hears (Lexed s b) old new
reads_opens_braces s b old new e0 last = step_open (Lexed s b) (Braces (quotes s.mode) asked.Value) old new (λ script q. opens_braces s b e0) last
