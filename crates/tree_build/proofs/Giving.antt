-- What is given to parts that a choice decides on.
use Rattle.std.specs.Prelude.{◌≡◌, ℕ, ◌↔◌, Bool, true, false, List, [], ◌∷◌, ◌++◌, Option, Some, IsTrue}
use Rattle.std.proofs.Common.{◌∙◌, sym, ap, refl}
use Rattle.std.proofs.lemmas.Bool.{false≢true}
use Rattle.ksh_ast.specs.declared.redirect.Redirect.{Redirect}
use Rattle.ksh_ast.specs.declared.tree.Argument.{Argument}
use Rattle.ksh_ast.specs.declared.tree.Argument.TheVariants as argument
use Rattle.ksh_ast.specs.declared.tree.Arith.{Arith}
use Rattle.ksh_ast.specs.declared.tree.Assign.{Assign}
use Rattle.ksh_ast.specs.declared.tree.Command.{Command}
use Rattle.ksh_ast.specs.declared.tree.Item.{Item}
use Rattle.ksh_ast.specs.declared.tree.ParamOf.{ParamOf}
use Rattle.ksh_ast.specs.declared.tree.ParamOf.TheVariants as of
use Rattle.ksh_ast.specs.declared.tree.Piece.{Piece}
use Rattle.ksh_ast.specs.declared.tree.TreePart.{TreePart}
use Rattle.ksh_ast.specs.declared.tree.TreePath.{TreePath}
use Rattle.ksh_syntax.specs.declared.kind.Kind.TheVariants as kind
use Rattle.tree_parts.specs.declared.asked.Asked.TheVariants as asked
use Rattle.tree_parts.specs.declared.sign.Sign.{Sign}
use Rattle.tree_parts.specs.Literals.{Adds, literal}
use Rattle.tree_parts.specs.Parts.{names_of, prefix_of}
use Rattle.tree_build.specs.Counts.{Counts}
use Rattle.tree_build.specs.Frame.{Frame, Text, Parameter, Assigned, Simple, Listed, ForArithmeticBody, Compound, Whole, FunctionName}
use Rattle.tree_build.specs.Heard.{Lexed}
use Rattle.tree_build.specs.Frames.{Hears, Keeps}
use Rattle.tree_build.proofs.Bracing.{reads_names_with_prefix}
use Rattle.tree_build.proofs.Compounding.{reads_for_arithmetic_ends}
use Rattle.tree_build.proofs.Defining.{reads_member_name, reads_name_and_parentheses}
use Rattle.tree_build.proofs.Texting.{reads_literal_piece}
use Rattle.tree_build.proofs.Wording.{reads_first_assignment, reads_later_assignment}

-- a token that is a literal
pub adds_literal : (s : Sign) (b : List ℕ) (added : Bool) (ps qs : List Piece) (old s1 new : List Frame) → added ≡ true → Adds added s b ps qs
    → old ≡ Text ps ∷ s1 → new ≡ Text qs ∷ s1 → Hears (Lexed s b) old new
adds_literal s b true ps qs old s1 new is adds o last =
    reads_literal_piece s b adds.0 adds.1 ps old s1 new adds.2 o (last ∙ ap (λ (rs : List Piece). Text rs ∷ s1) adds.3)
adds_literal s b false ps qs old s1 new is adds o last = absurd (false≢true is)

-- `${!path@}` where the parameter is told
pub takes_prefix : (s : Sign) (b : List ℕ) (quoted : Bool) (path : TreePath) (o : ParamOf) (old s1 new : List Frame) → s.kind ≡ kind.Prefix → o ≡ of.Var path
    → old ≡ Parameter quoted asked.Target o ∷ s1 → new ≡ Parameter quoted asked.Value (of.Prefix (prefix_of path)) ∷ s1 → Hears (Lexed s b) old new
takes_prefix s b quoted path o old s1 new is var before last =
    reads_names_with_prefix s b quoted path old s1 new is (before ∙ ap (λ (p : ParamOf). Parameter quoted asked.Target p ∷ s1) var) last

-- the one word of a command is a function's name
pub names_function : (s : Sign) (b : List ℕ) (from line : ℕ) (name : List ℕ) (gs : List Assign) (ws : List Argument) (rs : List (Redirect (List Piece))) (old s1 new : List Frame)
    → s.kind ≡ kind.Open → gs ≡ [] → ws ≡ argument.Word (literal name false) ∷ [] → rs ≡ [] → old ≡ Simple from line gs ws rs ∷ s1
    → new ≡ FunctionName from line false (names_of name) ∷ s1 → Hears (Lexed s b) old new
names_function s b from line name gs ws rs old s1 new is given words redirects o last =
    reads_name_and_parentheses s b from line name old s1 new is
    (o ∙ ap (λ (xs : List Assign). Simple from line xs ws rs ∷ s1) given ∙ ap (λ (xs : List Argument). Simple from line [] xs rs ∷ s1) words
    ∙ ap (λ (xs : List (Redirect (List Piece))). Simple from line [] (argument.Word (literal name false) ∷ []) xs ∷ s1) redirects) last

-- a word among entries is a function's name
pub names_member : (s : Sign) (b : List ℕ) (from to : ℕ) (name : List ℕ) (ps : List Piece) (old s1 new : List Frame) → s.kind ≡ kind.Open → ps ≡ literal name false
    → old ≡ Whole ps from to false ∷ s1 → new ≡ FunctionName from s.line false (names_of name) ∷ s1 → Hears (Lexed s b) old new
names_member s b from to name ps old s1 new is word o last =
    reads_member_name s b from to name old s1 new is (o ∙ ap (λ (xs : List Piece). Whole xs from to false ∷ s1) word) last

-- an assignment where no word was read
pub gives_first : (at line : ℕ) (given : List Assign) (ws : List Argument) (rs : List (Redirect (List Piece))) (a : Assign) (old s1 s2 new : List Frame) → ws ≡ []
    → old ≡ Assigned a ∷ s1 → s1 ≡ Simple at line given ws rs ∷ s2 → new ≡ Simple at line (given ++ a ∷ []) ws rs ∷ s2 → Keeps old new
gives_first at line given ws rs a old s1 s2 new none o o' last =
    reads_first_assignment at line given rs a old s1 s2 new o
    (o' ∙ ap (λ (vs : List Argument). Simple at line given vs rs ∷ s2) none) (last ∙ ap (λ (vs : List Argument). Simple at line (given ++ a ∷ []) vs rs ∷ s2) none)

-- one behind words
pub gives_later : (at line : ℕ) (given : List Assign) (ws : List Argument) (rs : List (Redirect (List Piece))) (a : Assign) (empty : Bool) (old s1 s2 new : List Frame)
    → (IsTrue empty ↔ (ws ≡ [])) → empty ≡ false
    → old ≡ Assigned a ∷ s1 → s1 ≡ Simple at line given ws rs ∷ s2 → new ≡ Simple at line given (ws ++ argument.Assign a ∷ []) rs ∷ s2 → Keeps old new
gives_later at line given [] rs a empty old s1 s2 new is some o o' last = absurd (false≢true (sym some ∙ is.1 refl))
gives_later at line given (w ∷ ws) rs a empty old s1 s2 new is some o o' last = reads_later_assignment at line given ws rs w a old s1 s2 new o o' last

-- the `done` of `for ((`
pub ends_counted : (s : Sign) (b : List ℕ) (line : ℕ) (parts : List (Option Arith)) (body : List Item) (c : Command) (old s1 s2 new : List Frame) → s.kind ≡ kind.Done → Counts parts body c
    → old ≡ Listed body ∷ s1 → s1 ≡ ForArithmeticBody line parts ∷ s2 → new ≡ Compound line c [] ∷ s2 → Hears (Lexed s b) old new
ends_counted s b line parts body c old s1 s2 new is counts o o' last =
    reads_for_arithmetic_ends s b line counts.0 counts.1 counts.2 body old s1 s2 new is o
    (o' ∙ ap (λ (es : List (Option Arith)). ForArithmeticBody line es ∷ s2) counts.3) (last ∙ ap (λ (d : Command). Compound line d [] ∷ s2) counts.4)
