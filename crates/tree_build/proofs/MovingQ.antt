-- What steps on words, assignments and redirections do to the tags of frames.
use Rattle.std.specs.Prelude.{◌≡◌, ℕ, Bool, true, false, ◌||◌, ◌&&◌, ◌==◌, List, [], ◌∷◌, ◌++◌, drop, length, Option, Some, None, Result, Ok, Err, if◌then◌else◌}
use Rattle.std.proofs.Common.{refl, sym, ◌∙◌, ap, append_assoc}
use Rattle.std.proofs.lemmas.Bool.{false≢true}
use Rattle.ksh_ast.specs.declared.kinds.BinaryTest.{BinaryTest}
use Rattle.ksh_ast.specs.declared.kinds.UnaryTest.{UnaryTest}
use Rattle.ksh_ast.specs.declared.redirect.Redirect.{Redirect}
use Rattle.ksh_ast.specs.declared.redirect.RedirectForm.{RedirectForm}
use Rattle.ksh_ast.specs.declared.redirect.RedirectForm.TheVariants.{HereDoc}
use Rattle.ksh_ast.specs.declared.redirect.RedirectTo.{RedirectTo}
use Rattle.ksh_ast.specs.declared.tree.Argument.{Argument}
use Rattle.ksh_ast.specs.declared.tree.Argument.TheVariants as argument
use Rattle.ksh_ast.specs.declared.tree.Assign.{Assign}
use Rattle.ksh_ast.specs.declared.tree.Command.{Command}
use Rattle.ksh_ast.specs.declared.tree.Piece.{Piece}
use Rattle.ksh_ast.specs.declared.tree.Piece.TheVariants as piece
use Rattle.ksh_ast.specs.declared.tree.Test.{Test}
use Rattle.ksh_ast.specs.declared.tree.Test.TheVariants as test
use Rattle.ksh_ast.specs.declared.tree.TreePath.{TreePath}
use Rattle.ksh_kinds.specs.Words.{path_front}
use Rattle.ksh_lexer.specs.EndWord.{end_word}
use Rattle.ksh_syntax.specs.declared.kind.Kind.TheVariants as kind
use Rattle.tree_parts.specs.declared.entry.Entry.{Entry}
use Rattle.tree_parts.specs.declared.entry.Entry.TheVariants as entry
use Rattle.tree_parts.specs.declared.sign.Sign.{Sign}
use Rattle.tree_parts.specs.Literals.{joined, literal}
use Rattle.tree_parts.specs.Parts.{all_names, assign, assigned, assignment_of, assigns, binary_test, is_assigned, names_of, path_of, path_word, plain_bytes, redirection, test_of, unary_by, unary_test, binary_by}
use Rattle.tree_parts.specs.Values.{value_of}
use Rattle.tree_build.specs.Fits.{Fits, Is, IsBinary, IsNames, IsUnary, Moves}
use Rattle.tree_build.specs.Frame.{Frame, Opened, Text, WordStart, Whole, Target, Element, Assigning, Assigned, Redirection, HereOperator, HereWord, HereBody, Redirected, Simple, Compound, Case, CaseWord, ForWords, Patterns, Operands, Value, Keyed}
use Rattle.tree_build.specs.Places.{place_of, place_at, is_assignment_on_top}
use Rattle.tree_build.specs.Reads.{slice}
use Rattle.tree_build.specs.Tables.{is_assignment, starts_word}
use Rattle.tree_build.specs.declared.opening.Opening.TheVariants as opening
use Rattle.tree_build.specs.declared.place.Place.{Place}
use Rattle.tree_build.specs.declared.place.Place.TheVariants as place
use Rattle.tree_build.specs.declared.unbuilt.Unbuilt.{Unbuilt}
use Rattle.tree_build.specs.declared.unbuilt.Unbuilt.TheVariants as unbuilt
use Rattle.tree_build.proofs.Moving.{opens_frame, one_for_one, two_for_one, three_for_one, never_fits}
use Rattle.tree_moves.specs.Moves.{Row}
use Rattle.tree_moves.specs.Tags.{Tag}
use Rattle.tree_moves.specs.Tags as tag

same_some : {A : Type 0} (x y : A) → Some x ≡ Some y → x ≡ y
same_some x y h = cc

-- ---- words

pub opens_plain_word : (s : Sign) (n : Bool) (old new : List Frame) → starts_word s.kind ≡ Some n → new ≡ WordStart s.from n ∷ old → s.kind ≡ kind.Start
    → (rest : List Tag) → Fits rest old → Fits (tag.WordStart ∷ rest) new
opens_plain_word s n old new starts last k = opens_frame tag.WordStart (WordStart s.from n) old new (same_some n false (sym starts ∙ ap starts_word k)) last

pub opens_assignment_word : (s : Sign) (n : Bool) (old new : List Frame) → starts_word s.kind ≡ Some n → new ≡ WordStart s.from n ∷ old → s.kind ≡ kind.StartAssignment
    → (rest : List Tag) → Fits rest old → Fits (tag.AssignmentStart ∷ rest) new
opens_assignment_word s n old new starts last k = opens_frame tag.AssignmentStart (WordStart s.from n) old new (same_some n true (sym starts ∙ ap starts_word k)) last

pub moves_word : (from at : ℕ) (n : Bool) (ps : List Piece) (old s1 s2 new : List Frame) → old ≡ Text ps ∷ s1 → s1 ≡ WordStart from n ∷ s2 → new ≡ Whole ps from at n ∷ s2
    → (rest : List Tag) → Fits (tag.Text ∷ tag.WordStart ∷ rest) old → Fits (tag.Whole ∷ rest) new
moves_word from at n ps old s1 s2 new = two_for_one tag.Text tag.WordStart tag.Whole (Text ps) (WordStart from n) (Whole ps from at n) old s1 s2 new (λ p q. q)

pub moves_assignment : (from at : ℕ) (n : Bool) (ps : List Piece) (old s1 s2 new : List Frame) → old ≡ Text ps ∷ s1 → s1 ≡ WordStart from n ∷ s2 → new ≡ Whole ps from at n ∷ s2
    → (rest : List Tag) → Fits (tag.Text ∷ tag.AssignmentStart ∷ rest) old → Fits (tag.WholeAssignment ∷ rest) new
moves_assignment from at n ps old s1 s2 new = two_for_one tag.Text tag.AssignmentStart tag.WholeAssignment (Text ps) (WordStart from n) (Whole ps from at n) old s1 s2 new (λ p q. q)

pub moves_element_word : (from at : ℕ) (path : TreePath) (ps : List Piece) (old s1 s2 new : List Frame) → old ≡ Text ps ∷ s1 → s1 ≡ Element from path ∷ s2
    → new ≡ Whole (joined (path_word path) ps) from at false ∷ s2 → (rest : List Tag) → Fits (tag.Text ∷ tag.Element ∷ rest) old → Fits (tag.Whole ∷ rest) new
moves_element_word from at path ps old s1 s2 new =
    two_for_one tag.Text tag.Element tag.Whole (Text ps) (Element from path) (Whole (joined (path_word path) ps) from at false) old s1 s2 new (λ p q. refl)

pub moves_assigned_word : (n : Bool) (ps : List Piece) (path : TreePath) (old s1 s2 new : List Frame) → old ≡ Text ps ∷ s1 → s1 ≡ Assigning path n ∷ s2
    → new ≡ Assigned (assign path n ps) ∷ s2 → (rest : List Tag) → Fits (tag.Text ∷ tag.Assigning ∷ rest) old → Fits (tag.Assigned ∷ rest) new
moves_assigned_word n ps path old s1 s2 new =
    two_for_one tag.Text tag.Assigning tag.Assigned (Text ps) (Assigning path n) (Assigned (assign path n ps)) old s1 s2 new (λ p q. tt)

pub moves_pair : (ps qs : List Piece) (es : List Entry) (old s1 s2 s3 new : List Frame) → old ≡ Text qs ∷ s1 → s1 ≡ Keyed ps ∷ s2 → s2 ≡ Value es ∷ s3
    → new ≡ Value (es ++ entry.Pair (record { subscript = ps; value = qs }) ∷ []) ∷ s3 → (rest : List Tag) → Fits (tag.Text ∷ tag.Keyed ∷ tag.Value ∷ rest) old → Fits (tag.Value ∷ rest) new
moves_pair ps qs es old s1 s2 s3 new =
    three_for_one tag.Text tag.Keyed tag.Value tag.Value (Text qs) (Keyed ps) (Value es) (Value (es ++ entry.Pair (record { subscript = ps; value = qs }) ∷ [])) old s1 s2 s3 new (λ p q r. tt)

-- ---- words of plain bytes

plain_literal : (b : List ℕ) → plain_bytes (literal b false) ≡ b
plain_literal [] = refl
plain_literal (x ∷ xs) = refl

pub pushes_plain : (s : Sign) (ps : List Piece) (n : Bool) (old new : List Frame) → new ≡ Whole ps s.from s.to n ∷ old → n ≡ false
    → (rest : List Tag) → Fits rest old → Fits (tag.Whole ∷ rest) new
pushes_plain s ps n old new last plain = opens_frame tag.Whole (Whole ps s.from s.to n) old new plain last

pub pushes_assignment : (s : Sign) (ps : List Piece) (n : Bool) (old new : List Frame) → new ≡ Whole ps s.from s.to n ∷ old → n ≡ is_assignment s.kind → s.kind ≡ kind.Assignment
    → (rest : List Tag) → Fits rest old → Fits (tag.WholeAssignment ∷ rest) new
pushes_assignment s ps n old new last is k = opens_frame tag.WholeAssignment (Whole ps s.from s.to n) old new (is ∙ ap is_assignment k) last

pub pushes_name : (s : Sign) (b : List ℕ) (n : Bool) (old new : List Frame) → new ≡ Whole (literal b false) s.from s.to n ∷ old → n ≡ false → all_names (names_of b) ≡ true
    → (rest : List Tag) → Fits rest old → Fits (tag.WholeName ∷ rest) new
pushes_name s b n old new last plain names = opens_frame tag.WholeName (Whole (literal b false) s.from s.to n) old new (plain, (b, refl, names)) last

pub pushes_unary : (s : Sign) (b : List ℕ) (n : Bool) (name : UnaryTest) (old new : List Frame) → new ≡ Whole (literal b false) s.from s.to n ∷ old → unary_test b ≡ Some name
    → (rest : List Tag) → Fits rest old → Fits (tag.WholeUnary ∷ rest) new
pushes_unary s b n name old new last is = opens_frame tag.WholeUnary (Whole (literal b false) s.from s.to n) old new (name, ap unary_test (plain_literal b) ∙ is) last

pub pushes_binary : (s : Sign) (b : List ℕ) (n : Bool) (name : BinaryTest) (old new : List Frame) → new ≡ Whole (literal b false) s.from s.to n ∷ old → binary_test b ≡ Some name
    → (rest : List Tag) → Fits rest old → Fits (tag.WholeBinary ∷ rest) new
pushes_binary s b n name old new last is = opens_frame tag.WholeBinary (Whole (literal b false) s.from s.to n) old new (name, ap binary_test (plain_literal b) ∙ is) last

-- ---- words of simple commands

pub gives_word : (at line : ℕ) (given : List Assign) (ws : List Argument) (rs : List (Redirect (List Piece))) (from to : ℕ) (ps : List Piece) (old s1 s2 new : List Frame)
    → old ≡ Whole ps from to false ∷ s1 → s1 ≡ Simple at line given ws rs ∷ s2 → new ≡ Simple at line given (ws ++ argument.Word ps ∷ []) rs ∷ s2
    → (rest : List Tag) → Fits (tag.Whole ∷ tag.Simple ∷ rest) old → Fits (tag.Simple ∷ rest) new
gives_word at line given ws rs from to ps old s1 s2 new =
    two_for_one tag.Whole tag.Simple tag.Simple (Whole ps from to false) (Simple at line given ws rs) (Simple at line given (ws ++ argument.Word ps ∷ []) rs) old s1 s2 new (λ p q. tt)

pub gives_name : (at line : ℕ) (given : List Assign) (ws : List Argument) (rs : List (Redirect (List Piece))) (from to : ℕ) (ps : List Piece) (old s1 s2 new : List Frame)
    → old ≡ Whole ps from to false ∷ s1 → s1 ≡ Simple at line given ws rs ∷ s2 → new ≡ Simple at line given (ws ++ argument.Word ps ∷ []) rs ∷ s2
    → (rest : List Tag) → Fits (tag.WholeName ∷ tag.SimpleEmpty ∷ rest) old → Fits (tag.SimpleName ∷ rest) new
gives_name at line given ws rs from to ps old s1 s2 new =
    two_for_one tag.WholeName tag.SimpleEmpty tag.SimpleName (Whole ps from to false) (Simple at line given ws rs) (Simple at line given (ws ++ argument.Word ps ∷ []) rs) old s1 s2 new
    (λ p q. (ps, q.0, ap (λ vs. vs ++ argument.Word ps ∷ []) q.1, q.2, p.1))

-- ---- words of compound commands

pub moves_for_word : (line : ℕ) (n : Bool) (name : List ℕ) (ws : List (List Piece)) (ps : List Piece) (from to : ℕ) (assigns : Bool) (old s1 s2 new : List Frame)
    → old ≡ Whole ps from to assigns ∷ s1 → s1 ≡ ForWords line n name ws ∷ s2 → new ≡ ForWords line n name (ws ++ ps ∷ []) ∷ s2
    → (rest : List Tag) → Fits (tag.AnyWhole ∷ tag.ForWords ∷ rest) old → Fits (tag.ForWords ∷ rest) new
moves_for_word line n name ws ps from to assigns old s1 s2 new =
    two_for_one tag.AnyWhole tag.ForWords tag.ForWords (Whole ps from to assigns) (ForWords line n name ws) (ForWords line n name (ws ++ ps ∷ [])) old s1 s2 new (λ p q. tt)

pub moves_case_word : (line from to : ℕ) (n : Bool) (ps : List Piece) (old s1 s2 new : List Frame) → old ≡ Whole ps from to n ∷ s1 → s1 ≡ Case line ∷ s2 → new ≡ CaseWord line ps ∷ s2
    → (rest : List Tag) → Fits (tag.AnyWhole ∷ tag.Case ∷ rest) old → Fits (tag.CaseWord ∷ rest) new
moves_case_word line from to n ps old s1 s2 new = two_for_one tag.AnyWhole tag.Case tag.CaseWord (Whole ps from to n) (Case line) (CaseWord line ps) old s1 s2 new (λ p q. tt)

pub moves_pattern : (from to : ℕ) (n : Bool) (ps : List Piece) (ws : List (List Piece)) (old s1 s2 new : List Frame) → old ≡ Whole ps from to n ∷ s1 → s1 ≡ Patterns ws ∷ s2
    → new ≡ Patterns (ws ++ ps ∷ []) ∷ s2 → (rest : List Tag) → Fits (tag.AnyWhole ∷ tag.Patterns ∷ rest) old → Fits (tag.Patterns ∷ rest) new
moves_pattern from to n ps ws old s1 s2 new =
    two_for_one tag.AnyWhole tag.Patterns tag.Patterns (Whole ps from to n) (Patterns ws) (Patterns (ws ++ ps ∷ [])) old s1 s2 new (λ p q. tt)

-- ---- operands of conditions

put_behind : (ws vs : List (List Piece)) (ps : List Piece) → ws ≡ vs → ws ++ ps ∷ [] ≡ vs ++ ps ∷ []
put_behind ws vs ps h = ap (λ xs. xs ++ ps ∷ []) h

pub moves_unary : (from to : ℕ) (n : Bool) (ps : List Piece) (ws : List (List Piece)) (old s1 s2 new : List Frame) → old ≡ Whole ps from to n ∷ s1 → s1 ≡ Operands ws ∷ s2
    → new ≡ Operands (ws ++ ps ∷ []) ∷ s2 → (rest : List Tag) → Fits (tag.WholeUnary ∷ tag.OperandsNone ∷ rest) old → Fits (tag.OperandsUnary ∷ rest) new
moves_unary from to n ps ws old s1 s2 new =
    two_for_one tag.WholeUnary tag.OperandsNone tag.OperandsUnary (Whole ps from to n) (Operands ws) (Operands (ws ++ ps ∷ [])) old s1 s2 new (λ p q. (ps, put_behind ws [] ps q, p))

pub moves_operand : (from to : ℕ) (n : Bool) (ps : List Piece) (ws : List (List Piece)) (old s1 s2 new : List Frame) → old ≡ Whole ps from to n ∷ s1 → s1 ≡ Operands ws ∷ s2
    → new ≡ Operands (ws ++ ps ∷ []) ∷ s2 → (rest : List Tag) → Fits (tag.AnyWhole ∷ tag.OperandsNone ∷ rest) old → Fits (tag.OperandsOne ∷ rest) new
moves_operand from to n ps ws old s1 s2 new =
    two_for_one tag.AnyWhole tag.OperandsNone tag.OperandsOne (Whole ps from to n) (Operands ws) (Operands (ws ++ ps ∷ [])) old s1 s2 new (λ p q. (ps, put_behind ws [] ps q))

pub moves_both : (from to : ℕ) (n : Bool) (ps : List Piece) (ws : List (List Piece)) (old s1 s2 new : List Frame) → old ≡ Whole ps from to n ∷ s1 → s1 ≡ Operands ws ∷ s2
    → new ≡ Operands (ws ++ ps ∷ []) ∷ s2 → (rest : List Tag) → Fits (tag.WholeBinary ∷ tag.OperandsUnary ∷ rest) old → Fits (tag.OperandsBoth ∷ rest) new
moves_both from to n ps ws old s1 s2 new =
    two_for_one tag.WholeBinary tag.OperandsUnary tag.OperandsBoth (Whole ps from to n) (Operands ws) (Operands (ws ++ ps ∷ [])) old s1 s2 new
    (λ p q. (q.0, ps, put_behind ws (q.0 ∷ []) ps q.1, q.2, p))

pub moves_binary : (from to : ℕ) (n : Bool) (ps : List Piece) (ws : List (List Piece)) (old s1 s2 new : List Frame) → old ≡ Whole ps from to n ∷ s1 → s1 ≡ Operands ws ∷ s2
    → new ≡ Operands (ws ++ ps ∷ []) ∷ s2 → (rest : List Tag) → Fits (tag.WholeBinary ∷ tag.OperandsOne ∷ rest) old → Fits (tag.OperandsBinary ∷ rest) new
moves_binary from to n ps ws old s1 s2 new =
    two_for_one tag.WholeBinary tag.OperandsOne tag.OperandsBinary (Whole ps from to n) (Operands ws) (Operands (ws ++ ps ∷ [])) old s1 s2 new
    (λ p q. (q.0, ps, put_behind ws (q.0 ∷ []) ps q.1, p))

pub moves_second : (from to : ℕ) (n : Bool) (ps : List Piece) (ws : List (List Piece)) (old s1 s2 new : List Frame) → old ≡ Whole ps from to n ∷ s1 → s1 ≡ Operands ws ∷ s2
    → new ≡ Operands (ws ++ ps ∷ []) ∷ s2 → (rest : List Tag) → Fits (tag.AnyWhole ∷ tag.OperandsUnary ∷ rest) old → Fits (tag.Operands ∷ rest) new
moves_second from to n ps ws old s1 s2 new =
    two_for_one tag.AnyWhole tag.OperandsUnary tag.Operands (Whole ps from to n) (Operands ws) (Operands (ws ++ ps ∷ [])) old s1 s2 new
    (λ p q. (test.Unary q.2.0 ps, ap test_of (put_behind ws (q.0 ∷ []) ps q.1) ∙ ap (λ o. unary_by o ps) q.2.1))

pub moves_third : (from to : ℕ) (n : Bool) (ps : List Piece) (ws : List (List Piece)) (old s1 s2 new : List Frame) → old ≡ Whole ps from to n ∷ s1 → s1 ≡ Operands ws ∷ s2
    → new ≡ Operands (ws ++ ps ∷ []) ∷ s2 → (rest : List Tag) → Fits (tag.AnyWhole ∷ tag.OperandsBinary ∷ rest) old → Fits (tag.Operands ∷ rest) new
moves_third from to n ps ws old s1 s2 new =
    two_for_one tag.AnyWhole tag.OperandsBinary tag.Operands (Whole ps from to n) (Operands ws) (Operands (ws ++ ps ∷ [])) old s1 s2 new
    (λ p q. (test.Binary q.0 q.3.0 ps, ap test_of (put_behind ws (q.0 ∷ q.1 ∷ []) ps q.2) ∙ ap (λ o. binary_by q.0 o ps) q.3.1))

-- ---- entries of values

pub moves_entry : (from to : ℕ) (ps : List Piece) (es : List Entry) (old s1 s2 new : List Frame) → old ≡ Whole ps from to false ∷ s1 → s1 ≡ Value es ∷ s2
    → new ≡ Value (es ++ entry.Word ps from ∷ []) ∷ s2 → (rest : List Tag) → Fits (tag.Whole ∷ tag.Value ∷ rest) old → Fits (tag.Value ∷ rest) new
moves_entry from to ps es old s1 s2 new =
    two_for_one tag.Whole tag.Value tag.Value (Whole ps from to false) (Value es) (Value (es ++ entry.Word ps from ∷ [])) old s1 s2 new (λ p q. tt)

pub moves_name : (from to : ℕ) (ps : List Piece) (es : List Entry) (old s1 s2 new : List Frame) → old ≡ Whole ps from to false ∷ s1 → s1 ≡ Value es ∷ s2
    → new ≡ Value (es ++ entry.Word ps from ∷ []) ∷ s2 → (rest : List Tag) → Fits (tag.WholeName ∷ tag.Value ∷ rest) old → Fits (tag.ValueWord ∷ rest) new
moves_name from to ps es old s1 s2 new =
    two_for_one tag.WholeName tag.Value tag.ValueWord (Whole ps from to false) (Value es) (Value (es ++ entry.Word ps from ∷ [])) old s1 s2 new
    (λ p q. (es, entry.Word ps from, refl, (ps, from, refl, p.1)))

pub moves_named : (from to : ℕ) (ps : List Piece) (es : List Entry) (old s1 s2 new : List Frame) → old ≡ Whole ps from to false ∷ s1 → s1 ≡ Value es ∷ s2
    → new ≡ Value (es ++ entry.Word ps from ∷ []) ∷ s2 → (rest : List Tag) → Fits (tag.WholeName ∷ tag.ValueWord ∷ rest) old → Fits (tag.ValueNamed ∷ rest) new
moves_named from to ps es old s1 s2 new =
    two_for_one tag.WholeName tag.ValueWord tag.ValueNamed (Whole ps from to false) (Value es) (Value (es ++ entry.Word ps from ∷ [])) old s1 s2 new
    (λ p q. (q.0, q.1, entry.Word ps from, ap (λ xs. xs ++ entry.Word ps from ∷ []) q.2 ∙ append_assoc q.0 (q.1 ∷ []) (entry.Word ps from ∷ []), q.3, (ps, from, refl, p.1)))

-- ---- assignments

pub moves_no_assignment : (from to : ℕ) (ps : List Piece) (old s1 new : List Frame) → old ≡ Whole ps from to true ∷ s1 → new ≡ Whole ps from to false ∷ s1
    → (rest : List Tag) → Fits (tag.WholeAssignment ∷ rest) old → Fits (tag.Given ∷ rest) new
moves_no_assignment from to ps old s1 new = one_for_one tag.WholeAssignment tag.Given (Whole ps from to true) (Whole ps from to false) old s1 new (λ p. refl)

pub moves_assignment_word : (from to : ℕ) (ps : List Piece) (a : Assign) (old s1 new : List Frame) → old ≡ Whole ps from to true ∷ s1 → new ≡ Assigned a ∷ s1
    → (rest : List Tag) → Fits (tag.WholeAssignment ∷ rest) old → Fits (tag.Given ∷ rest) new
moves_assignment_word from to ps a old s1 new = one_for_one tag.WholeAssignment tag.Given (Whole ps from to true) (Assigned a) old s1 new (λ p. tt)

pub moves_first_assignment : (at line : ℕ) (given : List Assign) (ws : List Argument) (rs : List (Redirect (List Piece))) (a : Assign) (old s1 s2 new : List Frame)
    → old ≡ Assigned a ∷ s1 → s1 ≡ Simple at line given ws rs ∷ s2 → new ≡ Simple at line (given ++ a ∷ []) ws rs ∷ s2
    → (rest : List Tag) → Fits (tag.Assigned ∷ tag.Simple ∷ rest) old → Fits (tag.Simple ∷ rest) new
moves_first_assignment at line given ws rs a old s1 s2 new =
    two_for_one tag.Assigned tag.Simple tag.Simple (Assigned a) (Simple at line given ws rs) (Simple at line (given ++ a ∷ []) ws rs) old s1 s2 new (λ p q. tt)

pub moves_later_assignment : (at line : ℕ) (given : List Assign) (ws : List Argument) (rs : List (Redirect (List Piece))) (a : Assign) (old s1 s2 new : List Frame)
    → old ≡ Assigned a ∷ s1 → s1 ≡ Simple at line given ws rs ∷ s2 → new ≡ Simple at line given (ws ++ argument.Assign a ∷ []) rs ∷ s2
    → (rest : List Tag) → Fits (tag.Assigned ∷ tag.Simple ∷ rest) old → Fits (tag.Simple ∷ rest) new
moves_later_assignment at line given ws rs a old s1 s2 new =
    two_for_one tag.Assigned tag.Simple tag.Simple (Assigned a) (Simple at line given ws rs) (Simple at line given (ws ++ argument.Assign a ∷ []) rs) old s1 s2 new (λ p q. tt)

pub moves_value_assignment : (a : Assign) (es : List Entry) (old s1 s2 new : List Frame) → old ≡ Assigned a ∷ s1 → s1 ≡ Value es ∷ s2 → new ≡ Value (es ++ entry.Assign a ∷ []) ∷ s2
    → (rest : List Tag) → Fits (tag.Assigned ∷ tag.Value ∷ rest) old → Fits (tag.Value ∷ rest) new
moves_value_assignment a es old s1 s2 new =
    two_for_one tag.Assigned tag.Value tag.Value (Assigned a) (Value es) (Value (es ++ entry.Assign a ∷ [])) old s1 s2 new (λ p q. tt)

pub moves_to_word : (from : ℕ) (path : TreePath) (old s1 new : List Frame) → old ≡ Target from path ∷ s1 → new ≡ Element from path ∷ s1
    → (rest : List Tag) → Fits (tag.Target ∷ rest) old → Fits (tag.Element ∷ rest) new
moves_to_word from path old s1 new = one_for_one tag.Target tag.Element (Target from path) (Element from path) old s1 new (λ p. tt)

pub moves_to_assigning : (from : ℕ) (n : Bool) (path : TreePath) (old s1 new : List Frame) → old ≡ Target from path ∷ s1 → new ≡ Assigning path n ∷ s1
    → (rest : List Tag) → Fits (tag.Target ∷ rest) old → Fits (tag.Assigning ∷ rest) new
moves_to_assigning from n path old s1 new = one_for_one tag.Target tag.Assigning (Target from path) (Assigning path n) old s1 new (λ p. tt)

pub opens_target : (from : ℕ) (path : TreePath) (old new : List Frame) → new ≡ Target from path ∷ old → (rest : List Tag) → Fits rest old → Fits (tag.Target ∷ rest) new
opens_target from path old new = opens_frame tag.Target (Target from path) old new tt

pub opens_assigning : (n : Bool) (path : TreePath) (old new : List Frame) → new ≡ Assigning path n ∷ old → (rest : List Tag) → Fits rest old → Fits (tag.Assigning ∷ rest) new
opens_assigning n path old new = opens_frame tag.Assigning (Assigning path n) old new tt

pub opens_value : (es : List Entry) (old new : List Frame) → new ≡ Value es ∷ old → (rest : List Tag) → Fits rest old → Fits (tag.Value ∷ rest) new
opens_value es old new = opens_frame tag.Value (Value es) old new tt

pub moves_assigned_value : (n : Bool) (path : TreePath) (es : List Entry) (old s1 s2 new : List Frame) → old ≡ Value es ∷ s1 → s1 ≡ Assigning path n ∷ s2
    → new ≡ Assigned (record { path = path; append = n; value = value_of es }) ∷ s2
    → (rest : List Tag) → Fits (tag.Value ∷ tag.Assigning ∷ rest) old → Fits (tag.Assigned ∷ rest) new
moves_assigned_value n path es old s1 s2 new =
    two_for_one tag.Value tag.Assigning tag.Assigned (Value es) (Assigning path n) (Assigned (record { path = path; append = n; value = value_of es })) old s1 s2 new (λ p q. tt)

-- ---- redirections

pub opens_redirection : (to : RedirectTo) (form : RedirectForm) (old new : List Frame) → new ≡ Redirection to form ∷ old → (rest : List Tag) → Fits rest old → Fits (tag.Redirection ∷ rest) new
opens_redirection to form old new = opens_frame tag.Redirection (Redirection to form) old new tt

pub opens_here : (to : RedirectTo) (old new : List Frame) → new ≡ HereOperator to ∷ old → (rest : List Tag) → Fits rest old → Fits (tag.HereOperator ∷ rest) new
opens_here to old new = opens_frame tag.HereOperator (HereOperator to) old new tt

pub moves_redirected : (from to : ℕ) (n : Bool) (ps : List Piece) (rt : RedirectTo) (rf : RedirectForm) (old s1 s2 new : List Frame) → old ≡ Whole ps from to n ∷ s1
    → s1 ≡ Redirection rt rf ∷ s2 → new ≡ Redirected (redirection rt rf ps) ∷ s2
    → (rest : List Tag) → Fits (tag.AnyWhole ∷ tag.Redirection ∷ rest) old → Fits (tag.Redirected ∷ rest) new
moves_redirected from to n ps rt rf old s1 s2 new =
    two_for_one tag.AnyWhole tag.Redirection tag.Redirected (Whole ps from to n) (Redirection rt rf) (Redirected (redirection rt rf ps)) old s1 s2 new (λ p q. tt)

pub moves_here_word : (script : List ℕ) (from to : ℕ) (n : Bool) (ps : List Piece) (rt : RedirectTo) (old s1 s2 new : List Frame) → old ≡ Whole ps from to n ∷ s1
    → s1 ≡ HereOperator rt ∷ s2 → new ≡ HereWord rt (end_word (slice script from to)) ∷ s2
    → (rest : List Tag) → Fits (tag.AnyWhole ∷ tag.HereOperator ∷ rest) old → Fits (tag.HereWord ∷ rest) new
moves_here_word script from to n ps rt old s1 s2 new =
    two_for_one tag.AnyWhole tag.HereOperator tag.HereWord (Whole ps from to n) (HereOperator rt) (HereWord rt (end_word (slice script from to))) old s1 s2 new (λ p q. tt)

pub moves_here_body : (rt : RedirectTo) (end : List ℕ) (old s1 new : List Frame) → old ≡ HereWord rt end ∷ s1 → new ≡ HereBody rt end ∷ s1
    → (rest : List Tag) → Fits (tag.HereWord ∷ rest) old → Fits (tag.HereBody ∷ rest) new
moves_here_body rt end old s1 new = one_for_one tag.HereWord tag.HereBody (HereWord rt end) (HereBody rt end) old s1 new (λ p. tt)

pub moves_here_document : (rt : RedirectTo) (end : List ℕ) (ps : List Piece) (old s1 s2 new : List Frame) → old ≡ Text ps ∷ s1 → s1 ≡ HereBody rt end ∷ s2
    → new ≡ Redirected (redirection rt (HereDoc end) ps) ∷ s2 → (rest : List Tag) → Fits (tag.Text ∷ tag.HereBody ∷ rest) old → Fits (tag.Redirected ∷ rest) new
moves_here_document rt end ps old s1 s2 new =
    two_for_one tag.Text tag.HereBody tag.Redirected (Text ps) (HereBody rt end) (Redirected (redirection rt (HereDoc end) ps)) old s1 s2 new (λ p q. tt)

pub moves_simple_redirection : (at line : ℕ) (given : List Assign) (ws : List Argument) (rs : List (Redirect (List Piece))) (rd : Redirect (List Piece)) (old s1 s2 new : List Frame)
    → old ≡ Redirected rd ∷ s1 → s1 ≡ Simple at line given ws rs ∷ s2 → new ≡ Simple at line given ws (rs ++ rd ∷ []) ∷ s2
    → (rest : List Tag) → Fits (tag.Redirected ∷ tag.Simple ∷ rest) old → Fits (tag.Simple ∷ rest) new
moves_simple_redirection at line given ws rs rd old s1 s2 new =
    two_for_one tag.Redirected tag.Simple tag.Simple (Redirected rd) (Simple at line given ws rs) (Simple at line given ws (rs ++ rd ∷ [])) old s1 s2 new (λ p q. tt)

pub moves_compound_redirection : (line : ℕ) (c : Command) (rs : List (Redirect (List Piece))) (rd : Redirect (List Piece)) (old s1 s2 new : List Frame)
    → old ≡ Redirected rd ∷ s1 → s1 ≡ Compound line c rs ∷ s2 → new ≡ Compound line c (rs ++ rd ∷ []) ∷ s2
    → (rest : List Tag) → Fits (tag.Redirected ∷ tag.Compound ∷ rest) old → Fits (tag.Compound ∷ rest) new
moves_compound_redirection line c rs rd old s1 s2 new =
    two_for_one tag.Redirected tag.Compound tag.Compound (Redirected rd) (Compound line c rs) (Compound line c (rs ++ rd ∷ [])) old s1 s2 new (λ p q. q)

-- ---- whether a word is an assignment

none_by : (b1 b2 b3 n : Bool) (x y : Assign) → ((b1 || (b2 && b3)) && n) ≡ false
    → (if b1 then (if n then Some x else None) else (if b2 then (if b3 then (if n then Some y else None) else None) else None)) ≡ None
none_by true b2 b3 true x y h = absurd cc
none_by true b2 b3 false x y h = refl
none_by false true true true x y h = absurd cc
none_by false true true false x y h = refl
none_by false true false n x y h = refl
none_by false false b3 n x y h = refl

some_by : (b1 b2 b3 n : Bool) (x y : Assign) → ((b1 || (b2 && b3)) && n) ≡ true
    → (if b1 then (if n then Some x else None) else (if b2 then (if b3 then (if n then Some y else None) else None) else None)) ≡ None → ⊥
some_by true b2 b3 true x y h e = cc
some_by true b2 b3 false x y h e = cc
some_by false true true true x y h e = cc
some_by false true true false x y h e = cc
some_by false true false n x y h e = cc
some_by false false b3 n x y h e = cc

assigned_none : (path rest : List ℕ) (ps : List Piece) → (assigns rest && all_names (names_of path)) ≡ false → assigned path rest ps ≡ None
assigned_none path [] ps h = refl
assigned_none path (b ∷ []) ps h =
    none_by (b == 61) (b == 43) false (all_names (names_of path)) (assign (path_of path) false (literal [] false ++ ps)) (assign (path_of path) true ps) h
assigned_none path (b ∷ c ∷ cs) ps h =
    none_by (b == 61) (b == 43) (c == 61) (all_names (names_of path)) (assign (path_of path) false (literal (c ∷ cs) false ++ ps)) (assign (path_of path) true (literal cs false ++ ps)) h

assigned_some : (path rest : List ℕ) (ps : List Piece) → (assigns rest && all_names (names_of path)) ≡ true → assigned path rest ps ≡ None → ⊥
assigned_some path [] ps h e = cc
assigned_some path (b ∷ []) ps h e =
    some_by (b == 61) (b == 43) false (all_names (names_of path)) (assign (path_of path) false (literal [] false ++ ps)) (assign (path_of path) true ps) h e
assigned_some path (b ∷ c ∷ cs) ps h e =
    some_by (b == 61) (b == 43) (c == 61) (all_names (names_of path)) (assign (path_of path) false (literal (c ∷ cs) false ++ ps)) (assign (path_of path) true (literal cs false ++ ps)) h e

-- a word that is none
pub is_no_assignment : (ps : List Piece) → is_assigned ps ≡ false → assignment_of ps ≡ None
is_no_assignment [] h = refl
is_no_assignment (piece.Literal bytes false ∷ ps) h = assigned_none (path_front bytes) (drop (length (path_front bytes)) bytes) ps h
is_no_assignment _ h = refl

-- one that is
pub is_an_assignment : (ps : List Piece) → is_assigned ps ≡ true → assignment_of ps ≡ None → ⊥
is_an_assignment (piece.Literal bytes false ∷ ps) h e = assigned_some (path_front bytes) (drop (length (path_front bytes)) bytes) ps h e
is_an_assignment _ h e = cc

-- ---- the place of a frame that has a tag

-- of these tags it is known
abbrev pub has_place : Tag → Bool
has_place tag.WordStart = true
has_place tag.AssignmentStart = true
has_place tag.Element = true
has_place tag.Assigning = true
has_place tag.Simple = true
has_place tag.SimpleEmpty = true
has_place tag.ForWords = true
has_place tag.Case = true
has_place tag.Patterns = true
has_place tag.OperandsNone = true
has_place tag.OperandsOne = true
has_place tag.OperandsUnary = true
has_place tag.OperandsBinary = true
has_place tag.Value = true
has_place tag.ValueWord = true
has_place tag.Redirection = true
has_place tag.HereOperator = true
has_place tag.Compound = true
has_place _ = false

abbrev pub place_for : Tag → Place
place_for tag.WordStart = place.WordStart
place_for tag.AssignmentStart = place.WordStart
place_for tag.Element = place.Element
place_for tag.Assigning = place.Assigning
place_for tag.Simple = place.Simple
place_for tag.SimpleEmpty = place.Simple
place_for tag.ForWords = place.ForWords
place_for tag.Case = place.Case
place_for tag.Patterns = place.Patterns
place_for tag.OperandsNone = place.Operands
place_for tag.OperandsOne = place.Operands
place_for tag.OperandsUnary = place.Operands
place_for tag.OperandsBinary = place.Operands
place_for tag.Value = place.Value
place_for tag.ValueWord = place.Value
place_for tag.Redirection = place.Redirection
place_for tag.HereOperator = place.HereOperator
place_for _ = place.Other

stands_at : (t : Tag) (f : Frame) → has_place t ≡ true → Is t f → place_of f ≡ place_for t
stands_at tag.WordStart (Opened (opening.WordStart from n)) m h = refl
stands_at tag.WordStart f m h = absurd h
stands_at tag.AssignmentStart (Opened (opening.WordStart from n)) m h = refl
stands_at tag.AssignmentStart f m h = absurd h
stands_at tag.Element (Element from path) m h = refl
stands_at tag.Element f m h = absurd h
stands_at tag.Assigning (Assigning path n) m h = refl
stands_at tag.Assigning f m h = absurd h
stands_at tag.Simple (Simple at line given ws rs) m h = refl
stands_at tag.Simple f m h = absurd h
stands_at tag.SimpleEmpty (Simple at line given ws rs) m h = refl
stands_at tag.SimpleEmpty f m h = absurd h
stands_at tag.ForWords (ForWords line n name ws) m h = refl
stands_at tag.ForWords f m h = absurd h
stands_at tag.Case (Opened (opening.Case line)) m h = refl
stands_at tag.Case f m h = absurd h
stands_at tag.Patterns (Patterns ws) m h = refl
stands_at tag.Patterns f m h = absurd h
stands_at tag.OperandsNone (Operands ws) m h = refl
stands_at tag.OperandsNone f m h = absurd h
stands_at tag.OperandsOne (Operands ws) m h = refl
stands_at tag.OperandsOne f m h = absurd h
stands_at tag.OperandsUnary (Operands ws) m h = refl
stands_at tag.OperandsUnary f m h = absurd h
stands_at tag.OperandsBinary (Operands ws) m h = refl
stands_at tag.OperandsBinary f m h = absurd h
stands_at tag.Value (Value es) m h = refl
stands_at tag.Value f m h = absurd h
stands_at tag.ValueWord (Value es) m h = refl
stands_at tag.ValueWord f m h = absurd h
stands_at tag.Redirection (Redirection to form) m h = refl
stands_at tag.Redirection f m h = absurd h
stands_at tag.HereOperator (HereOperator to) m h = refl
stands_at tag.HereOperator f m h = absurd h
stands_at tag.Compound (Compound line c rs) m h = refl
stands_at tag.Compound f m h = absurd h
stands_at t f m h = absurd (false≢true m)

second_at : (a b : Tag) (ts : List Tag) (fs : List Frame) → has_place b ≡ true → Fits (a ∷ b ∷ ts) fs → place_at fs 1 ≡ place_for b
second_at a b ts [] m h = absurd h
second_at a b ts (f ∷ []) m h = absurd h.1
second_at a b ts (f ∷ g ∷ fs) m h = stands_at b g m h.1.0

-- another frame stands second than the row asks for
pub never_second : {A : Type 0} (a b : Tag) (more behind : List Tag) (q : Place) (old new : List Frame) (res : Result A Unbuilt) → has_place b ≡ true → q ≡ place_at old 1
    → (q ≡ place_for b → ⊥) → Moves (a ∷ b ∷ more, behind) old new res
never_second a b more behind q old new res m there other =
    never_fits (a ∷ b ∷ more, behind) old new res (λ rest h. other (there ∙ second_at a b (more ++ rest) old m h))

-- ---- whether the word on top is an assignment

assigns_first : (ts : List Tag) (fs : List Frame) → Fits (tag.WholeAssignment ∷ ts) fs → is_assignment_on_top fs ≡ true
assigns_first ts [] h = absurd h
assigns_first ts (Whole ps from to n ∷ fs) h = h.0
assigns_first ts (f ∷ fs) h = absurd h.0

assigns_not : (ts : List Tag) (fs : List Frame) → Fits (tag.Whole ∷ ts) fs → is_assignment_on_top fs ≡ false
assigns_not ts [] h = absurd h
assigns_not ts (Whole ps from to n ∷ fs) h = h.0
assigns_not ts (f ∷ fs) h = absurd h.0

name_assigns_not : (ts : List Tag) (fs : List Frame) → Fits (tag.WholeName ∷ ts) fs → is_assignment_on_top fs ≡ false
name_assigns_not ts [] h = absurd h
name_assigns_not ts (Whole ps from to n ∷ fs) h = h.0.0
name_assigns_not ts (f ∷ fs) h = absurd h.0

pub never_assignment : {A : Type 0} (more behind : List Tag) (n : Bool) (old new : List Frame) (res : Result A Unbuilt) → n ≡ is_assignment_on_top old → n ≡ false
    → Moves (tag.WholeAssignment ∷ more, behind) old new res
never_assignment more behind n old new res top is =
    never_fits (tag.WholeAssignment ∷ more, behind) old new res (λ rest h. false≢true (sym is ∙ top ∙ assigns_first (more ++ rest) old h))

pub never_whole : {A : Type 0} (more behind : List Tag) (n : Bool) (old new : List Frame) (res : Result A Unbuilt) → n ≡ is_assignment_on_top old → n ≡ true
    → Moves (tag.Whole ∷ more, behind) old new res
never_whole more behind n old new res top is =
    never_fits (tag.Whole ∷ more, behind) old new res (λ rest h. false≢true (sym (assigns_not (more ++ rest) old h) ∙ sym top ∙ is))

pub never_name : {A : Type 0} (more behind : List Tag) (n : Bool) (old new : List Frame) (res : Result A Unbuilt) → n ≡ is_assignment_on_top old → n ≡ true
    → Moves (tag.WholeName ∷ more, behind) old new res
never_name more behind n old new res top is =
    never_fits (tag.WholeName ∷ more, behind) old new res (λ rest h. false≢true (sym (name_assigns_not (more ++ rest) old h) ∙ sym top ∙ is))

-- ---- what was read as an assignment, or as a word

given_word_fits : (ts : List Tag) (fs : List Frame) → place_at fs 0 ≡ place.Whole → Fits (tag.Given ∷ ts) fs → Fits (tag.Whole ∷ ts) fs
given_word_fits ts [] e h = absurd h
given_word_fits ts (Whole ps from to n ∷ fs) e h = h
given_word_fits ts (Assigned a ∷ fs) e h = let clash : place.Other ≡ place.Whole = e in absurd cc
given_word_fits ts (f ∷ fs) e h = absurd h.0

given_assignment_fits : (ts : List Tag) (fs : List Frame) → (place_at fs 0 ≡ place.Whole → ⊥) → Fits (tag.Given ∷ ts) fs → Fits (tag.Assigned ∷ ts) fs
given_assignment_fits ts [] e h = absurd h
given_assignment_fits ts (Whole ps from to n ∷ fs) e h = absurd (e refl)
given_assignment_fits ts (Assigned a ∷ fs) e h = h
given_assignment_fits ts (f ∷ fs) e h = absurd h.0

-- a row that fits where another does
moves_as : {A : Type 0} (before before' behind : List Tag) (old new : List Frame) (res : Result A Unbuilt) → ((rest : List Tag) → Fits (before' ++ rest) old → Fits (before ++ rest) old)
    → Moves (before, behind) old new res → Moves (before', behind) old new res
moves_as before before' behind old new (Ok x) fits h = λ rest f. h rest (fits rest f)
moves_as before before' behind old new (Err unbuilt.Stray) fits h = λ rest f. h rest (fits rest f)
moves_as before before' behind old new (Err unbuilt.Memory) fits h = tt

pub given_word : {A : Type 0} (more behind : List Tag) (q : Place) (old new : List Frame) (res : Result A Unbuilt) → q ≡ place_at old 0 → q ≡ place.Whole
    → Moves (tag.Whole ∷ more, behind) old new res → Moves (tag.Given ∷ more, behind) old new res
given_word more behind q old new res there is =
    moves_as (tag.Whole ∷ more) (tag.Given ∷ more) behind old new res (λ rest h. given_word_fits (more ++ rest) old (sym there ∙ is) h)

pub given_assignment : {A : Type 0} (more behind : List Tag) (q : Place) (old new : List Frame) (res : Result A Unbuilt) → q ≡ place_at old 0 → (q ≡ place.Whole → ⊥)
    → Moves (tag.Assigned ∷ more, behind) old new res → Moves (tag.Given ∷ more, behind) old new res
given_assignment more behind q old new res there is =
    moves_as (tag.Assigned ∷ more) (tag.Given ∷ more) behind old new res (λ rest h. given_assignment_fits (more ++ rest) old (λ e. is (there ∙ e)) h)

-- ---- one step behind another

-- want of memory says nothing
pub says_nothing : (r : Row) (old new : List Frame) (e : Unbuilt) → e ≡ unbuilt.Memory → Moves {A = Unit {0}} r old new (Err e)
says_nothing r old new unbuilt.Memory h = tt
says_nothing r old new unbuilt.Stray h = absurd cc

-- the first of two fails
pub first_fails : (a b c : List Tag) (old new new' : List Frame) (e : Unbuilt) → Moves {A = Unit {0}} (a, b) old new (Err e) → Moves {A = Unit {0}} (a, c) old new' (Err e)
first_fails a b c old new new' unbuilt.Stray h = h
first_fails a b c old new new' unbuilt.Memory h = tt

-- where another frame stands below
pub one_fails : (a m : Tag) (b c : List Tag) (old new new' : List Frame) (e : Unbuilt) → Moves {A = Unit {0}} (a ∷ [], b) old new (Err e) → Moves {A = Unit {0}} (a ∷ m ∷ [], c) old new' (Err e)
one_fails a m b c old new new' unbuilt.Stray h = λ rest f. h (m ∷ rest) f
one_fails a m b c old new new' unbuilt.Memory h = tt

pub two_fail : (a b m : Tag) (c d : List Tag) (old new new' : List Frame) (e : Unbuilt) → Moves {A = Unit {0}} (a ∷ b ∷ [], c) old new (Err e) → Moves {A = Unit {0}} (a ∷ b ∷ m ∷ [], d) old new' (Err e)
two_fail a b m c d old new new' unbuilt.Stray h = λ rest f. h (m ∷ rest) f
two_fail a b m c d old new new' unbuilt.Memory h = tt

-- what two frames, or one, became is given to that below them
pub then_gives : {A : Type 0} (a b c m : Tag) (behind : List Tag) (old between new : List Frame) (r : Result A Unbuilt)
    → ((rest : List Tag) → Fits (a ∷ b ∷ rest) old → Fits (c ∷ rest) between) → Moves (c ∷ m ∷ [], behind) between new r → Moves (a ∷ b ∷ m ∷ [], behind) old new r
then_gives a b c m behind old between new (Ok y) first second = λ rest f. second rest (first (m ∷ rest) f)
then_gives a b c m behind old between new (Err unbuilt.Stray) first second = λ rest f. second rest (first (m ∷ rest) f)
then_gives a b c m behind old between new (Err unbuilt.Memory) first second = tt

pub then_settles : {A : Type 0} (a c m : Tag) (behind : List Tag) (old between new : List Frame) (r : Result A Unbuilt)
    → ((rest : List Tag) → Fits (a ∷ rest) old → Fits (c ∷ rest) between) → Moves (c ∷ m ∷ [], behind) between new r → Moves (a ∷ m ∷ [], behind) old new r
then_settles a c m behind old between new (Ok y) first second = λ rest f. second rest (first (m ∷ rest) f)
then_settles a c m behind old between new (Err unbuilt.Stray) first second = λ rest f. second rest (first (m ∷ rest) f)
then_settles a c m behind old between new (Err unbuilt.Memory) first second = tt
