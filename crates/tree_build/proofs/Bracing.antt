-- What frames have read: parameters in braces, subscripts.
use Rattle.std.specs.Prelude.{◌≡◌, ℕ, Bool, true, List, [], ◌∷◌, Some, None}
use Rattle.ksh_ast.specs.declared.tree.ParamOf.{ParamOf}
use Rattle.ksh_ast.specs.declared.tree.ParamOf.TheVariants as of
use Rattle.ksh_ast.specs.declared.tree.Piece.{Piece}
use Rattle.ksh_ast.specs.declared.tree.TreePart.TheVariants as part
use Rattle.ksh_ast.specs.declared.tree.TreePath.{TreePath}
use Rattle.ksh_lexer.specs.declared.kind.Form.{Form}
use Rattle.ksh_lexer.specs.declared.kind.TokenKind.TheVariants as token
use Rattle.ksh_syntax.specs.declared.kind.Kind.TheVariants as kind
use Rattle.ksh_syntax.specs.declared.part.Mark.TheVariants as mark
use Rattle.tree_parts.specs.declared.asked.Asked.{Asked}
use Rattle.tree_parts.specs.declared.asked.Asked.TheVariants as asked
use Rattle.tree_build.specs.Frame.{Frame, Text, Bracket, Subscript, Braces, Parameter, Formed}
use Rattle.tree_parts.specs.declared.sign.Sign.{Sign}
use Rattle.tree_parts.specs.declared.sign.Moment.{Moment}
use Rattle.tree_build.specs.Heard.{Lexed, Marked}
use Rattle.tree_parts.specs.Literals.{from_place, joined}
use Rattle.tree_parts.specs.Parts.{with_part, prefix_of}
use Rattle.tree_build.specs.Tables.{is_special, opens_bracket}
use Rattle.tree_build.specs.Reads.{joined_or_each, length_of, target_of, named, special, member, all_items, subscript, names_with_prefix, with_form, with_first_text, opens_subscript, subscript_text}
use Rattle.tree_build.specs.Frames.{Hears}
use Rattle.tree_build.proofs.Steps.{step_open, step_on, step_close}

pub reads_length_of : (s : Sign) (b : List ℕ) (quoted : Bool) (old s1 new : List Frame) → s.kind ≡ kind.Length → old ≡ (Braces quoted asked.Value) ∷ s1 → new ≡ Braces quoted asked.Length ∷ s1 → Hears (Lexed s b) old new
reads_length_of s b quoted old s1 new e0 o0 last = step_on (Lexed s b) (Braces quoted asked.Value) (Braces quoted asked.Length) old s1 new (λ script p q r0. length_of s b quoted r0 e0) o0 last

pub reads_target_of : (s : Sign) (b : List ℕ) (quoted : Bool) (old s1 new : List Frame) → s.kind ≡ kind.Target → old ≡ (Braces quoted asked.Value) ∷ s1 → new ≡ Braces quoted asked.Target ∷ s1 → Hears (Lexed s b) old new
reads_target_of s b quoted old s1 new e0 o0 last = step_on (Lexed s b) (Braces quoted asked.Value) (Braces quoted asked.Target) old s1 new (λ script p q r0. target_of s b quoted r0 e0) o0 last

pub reads_named : (s : Sign) (b : List ℕ) (quoted : Bool) (a : Asked) (old s1 new : List Frame) → s.kind ≡ kind.Name → old ≡ (Braces quoted a) ∷ s1 → new ≡ Parameter quoted a (of.Var (record { name = b; parts = [] })) ∷ s1 → Hears (Lexed s b) old new
reads_named s b quoted a old s1 new e0 o0 last = step_on (Lexed s b) (Braces quoted a) (Parameter quoted a (of.Var (record { name = b; parts = [] }))) old s1 new (λ script p q r0. named s b quoted a r0 e0) o0 last

pub reads_special : (s : Sign) (b : List ℕ) (quoted : Bool) (a : Asked) (old s1 new : List Frame) → is_special s.kind ≡ true → old ≡ (Braces quoted a) ∷ s1 → new ≡ Parameter quoted a (of.Special b) ∷ s1 → Hears (Lexed s b) old new
reads_special s b quoted a old s1 new e0 o0 last = step_on (Lexed s b) (Braces quoted a) (Parameter quoted a (of.Special b)) old s1 new (λ script p q r0. special s b quoted a r0 e0) o0 last

pub reads_member : (s : Sign) (b : List ℕ) (at : ℕ) (quoted : Bool) (a : Asked) (path : TreePath) (old s1 new : List Frame) → s.token ≡ token.Member at → old ≡ (Parameter quoted a (of.Var path)) ∷ s1 → new ≡ Parameter quoted a (of.Var (with_part path (part.Member (from_place s at b)))) ∷ s1 → Hears (Lexed s b) old new
reads_member s b at quoted a path old s1 new e0 o0 last = step_on (Lexed s b) (Parameter quoted a (of.Var path)) (Parameter quoted a (of.Var (with_part path (part.Member (from_place s at b))))) old s1 new (λ script p q r0. member s b at quoted a path r0 e0) o0 last

pub reads_all_items : (s : Sign) (b : List ℕ) (joined : Bool) (quoted : Bool) (a : Asked) (path : TreePath) (old s1 new : List Frame) → s.token ≡ token.Items joined → old ≡ (Parameter quoted a (of.Var path)) ∷ s1 → new ≡ Parameter quoted a (of.Var (with_part path (joined_or_each joined))) ∷ s1 → Hears (Lexed s b) old new
reads_all_items s b joined quoted a path old s1 new e0 o0 last = step_on (Lexed s b) (Parameter quoted a (of.Var path)) (Parameter quoted a (of.Var (with_part path (joined_or_each joined)))) old s1 new (λ script p q r0. all_items s b joined quoted a path r0 e0) o0 last

pub reads_subscript : (s : Sign) (b : List ℕ) (ps : List Piece) (quoted : Bool) (a : Asked) (path : TreePath) (old s1 s2 new : List Frame) → s.kind ≡ kind.Close → old ≡ (Subscript ps) ∷ s1 → s1 ≡ (Parameter quoted a (of.Var path)) ∷ s2 → new ≡ Parameter quoted a (of.Var (with_part path (part.Sub ps))) ∷ s2 → Hears (Lexed s b) old new
reads_subscript s b ps quoted a path old s1 s2 new e0 o0 o1 last = step_close (Lexed s b) (Parameter quoted a (of.Var path)) (Subscript ps) (Parameter quoted a (of.Var (with_part path (part.Sub ps)))) old s1 s2 new (λ script p r q r0 r1. subscript s b ps quoted a path r0 r1 e0) o0 o1 last

pub reads_names_with_prefix : (s : Sign) (b : List ℕ) (quoted : Bool) (path : TreePath) (old s1 new : List Frame) → s.kind ≡ kind.Prefix → old ≡ (Parameter quoted asked.Target (of.Var path)) ∷ s1 → new ≡ Parameter quoted asked.Value (of.Prefix (prefix_of path)) ∷ s1 → Hears (Lexed s b) old new
reads_names_with_prefix s b quoted path old s1 new e0 o0 last = step_on (Lexed s b) (Parameter quoted asked.Target (of.Var path)) (Parameter quoted asked.Value (of.Prefix (prefix_of path))) old s1 new (λ script p q r0. names_with_prefix s b quoted path r0 e0) o0 last

pub reads_with_form : (s : Sign) (b : List ℕ) (quoted : Bool) (of : ParamOf) (form : Form) (old s1 new : List Frame) → s.token ≡ token.Form form → old ≡ (Parameter quoted asked.Value of) ∷ s1 → new ≡ Formed quoted of form None ∷ s1 → Hears (Lexed s b) old new
reads_with_form s b quoted of form old s1 new e0 o0 last = step_on (Lexed s b) (Parameter quoted asked.Value of) (Formed quoted of form None) old s1 new (λ script p q r0. with_form s b quoted of form r0 e0) o0 last

pub reads_with_first_text : (s : Sign) (b : List ℕ) (ps : List Piece) (quoted : Bool) (of : ParamOf) (form : Form) (old s1 s2 new : List Frame) → s.kind ≡ kind.Separator → old ≡ (Text ps) ∷ s1 → s1 ≡ (Formed quoted of form None) ∷ s2 → new ≡ Formed quoted of form (Some ps) ∷ s2 → Hears (Lexed s b) old new
reads_with_first_text s b ps quoted of form old s1 s2 new e0 o0 o1 last = step_close (Lexed s b) (Formed quoted of form None) (Text ps) (Formed quoted of form (Some ps)) old s1 s2 new (λ script p r q r0 r1. with_first_text s b ps quoted of form r0 r1 e0) o0 o1 last

pub reads_opens_subscript : (s : Sign) (b : List ℕ) (old new : List Frame) → opens_bracket s.kind ≡ true → new ≡ Bracket ∷ old → Hears (Lexed s b) old new
reads_opens_subscript s b old new e0 last = step_open (Lexed s b) Bracket old new (λ script q. opens_subscript s b e0) last

pub reads_subscript_text : (m : Moment) (ps : List Piece) (old s1 s2 new : List Frame) → old ≡ (Text ps) ∷ s1 → s1 ≡ Bracket ∷ s2 → new ≡ Subscript ps ∷ s2 → Hears (Marked mark.SubscriptEnds m) old new
reads_subscript_text m ps old s1 s2 new o0 o1 last = step_close (Marked mark.SubscriptEnds m) Bracket (Text ps) (Subscript ps) old s1 s2 new (λ script p r q r0 r1. subscript_text m ps r0 r1) o0 o1 last
