-- Arithmetic, with parentheses where the tree needs them.
use Rattle.std.specs.Prelude.{ℕ, ◌-◌, nat_le, List, [], ◌∷◌, Bool, Option, Some, codes, decimal, if◌then◌else◌}
use Rattle.std.specs.Int.{w64, cast_unsigned}
use Rattle.arith_tree.specs.declared.expr.ArithExpr.{ArithExpr, fold-ArithExpr}
use Rattle.arith_tree.specs.declared.expr.ArithExpr.TheOpen.{ArithExpr-F, ArithLink-F}
use Rattle.arith_tree.specs.declared.expr.ArithLink.{ArithLink, fold-ArithLink}
use Rattle.arith_tree.specs.declared.expr.ArithPart.{ArithPart}
use Rattle.arith_tree.specs.declared.expr.ArithPart.TheVariants as part
use Rattle.arith_tree.specs.declared.expr.ArithPath.{ArithPath}
use Rattle.arith_tree.specs.declared.expr.BinaryOp.{BinaryOp}
use Rattle.arith_tree.specs.declared.expr.BinaryOp.TheVariants as binary
use Rattle.arith_tree.specs.declared.expr.ChainOp.{ChainOp}
use Rattle.arith_tree.specs.declared.expr.ChainOp.TheVariants as chain
use Rattle.arith_tree.specs.declared.expr.StepWay.{StepWay}
use Rattle.arith_tree.specs.declared.expr.UnaryOp.{UnaryOp}
use Rattle.arith_tree.specs.declared.expr.UnaryOp.TheVariants as unary
use Rattle.ksh_unparse.specs.Marks.{Put, say}

abbrev pub unary_bytes : UnaryOp → List ℕ
unary_bytes unary.Plus = codes "+ "
unary_bytes unary.Minus = codes "- "
unary_bytes unary.Not = codes "! "
unary_bytes unary.Complement = codes "~ "

abbrev pub binary_bytes : BinaryOp → List ℕ
binary_bytes binary.BitOr = codes " | "
binary_bytes binary.BitXor = codes " ^ "
binary_bytes binary.BitAnd = codes " & "
binary_bytes binary.Equal = codes " == "
binary_bytes binary.NotEqual = codes " != "
binary_bytes binary.Less = codes " < "
binary_bytes binary.LessEqual = codes " <= "
binary_bytes binary.Greater = codes " > "
binary_bytes binary.GreaterEqual = codes " >= "
binary_bytes binary.ShiftLeft = codes " << "
binary_bytes binary.ShiftRight = codes " >> "
binary_bytes binary.Add = codes " + "
binary_bytes binary.Subtract = codes " - "
binary_bytes binary.Multiply = codes " * "
binary_bytes binary.Divide = codes " / "
binary_bytes binary.Remainder = codes " % "

abbrev pub chain_bytes : ChainOp → List ℕ
chain_bytes chain.Comma = codes ", "
chain_bytes chain.Or = codes " || "
chain_bytes chain.And = codes " && "
chain_bytes (chain.Binary op) = binary_bytes op

abbrev pub assign_bytes : Option BinaryOp → List ℕ
assign_bytes (Some binary.BitOr) = codes " |= "
assign_bytes (Some binary.BitXor) = codes " ^= "
assign_bytes (Some binary.BitAnd) = codes " &= "
assign_bytes (Some binary.ShiftLeft) = codes " <<= "
assign_bytes (Some binary.ShiftRight) = codes " >>= "
assign_bytes (Some binary.Add) = codes " += "
assign_bytes (Some binary.Subtract) = codes " -= "
assign_bytes (Some binary.Multiply) = codes " *= "
assign_bytes (Some binary.Divide) = codes " /= "
assign_bytes (Some binary.Remainder) = codes " %= "
assign_bytes _ = codes " = "

abbrev pub step_bytes : Bool → List ℕ
step_bytes down = if down then codes "--" else codes "++"

-- How loosely an operator binds: 0 are those before an operand, 1 is `**`, 12 `?:`, 13 the assignments, 14 the comma.
abbrev pub binary_level : BinaryOp → ℕ
binary_level binary.Multiply = 2
binary_level binary.Divide = 2
binary_level binary.Remainder = 2
binary_level binary.Add = 3
binary_level binary.Subtract = 3
binary_level binary.ShiftLeft = 4
binary_level binary.ShiftRight = 4
binary_level binary.Less = 5
binary_level binary.LessEqual = 5
binary_level binary.Greater = 5
binary_level binary.GreaterEqual = 5
binary_level binary.Equal = 6
binary_level binary.NotEqual = 6
binary_level binary.BitAnd = 7
binary_level binary.BitXor = 8
binary_level binary.BitOr = 9

abbrev pub chain_level : ChainOp → ℕ
chain_level chain.And = 10
chain_level chain.Or = 11
chain_level chain.Comma = 14
chain_level (chain.Binary op) = binary_level op

-- an expression where operators of at most that level may stand without parentheses
abbrev pub Spread : Type 0
Spread = ℕ → Put

-- an operator and its operand
pub record Link : Type 0 where
  pub op : ChainOp
  pub operand : Spread

-- a parenthesis, unless the operator may stand bare
abbrev pub grouped_mark : Bool → List ℕ → Put
grouped_mark bare mark rest = if bare then rest else say mark rest

abbrev pub grouped : Bool → Put → Put
grouped bare put rest = grouped_mark bare (codes "(") (put (grouped_mark bare (codes ")") rest))

abbrev pub links_put : ℕ → List Link → Put
links_put level [] rest = rest
links_put level (l ∷ ls) rest = say (chain_bytes l.op) (l.operand level (links_put level ls rest))

-- all operators of a chain are of one level: its operands hold tighter ones alone
abbrev pub chain_put : ℕ → Spread → List Link → Put
chain_put level first [] rest = first level rest
chain_put level first (l ∷ ls) rest =
    grouped (nat_le (chain_level l.op) level) (λ more. first (chain_level l.op - 1) (links_put (chain_level l.op - 1) (l ∷ ls) more)) rest

abbrev pub arith_part_put : ArithPart → Put
arith_part_put (part.Member name) rest = say (codes ".") (say name rest)
arith_part_put (part.Sub text) rest = say (codes "[") (say text (say (codes "]") rest))

abbrev pub arith_parts_put : List ArithPart → Put
arith_parts_put [] rest = rest
arith_parts_put (p ∷ ps) rest = arith_part_put p (arith_parts_put ps rest)

abbrev pub arith_path_put : ArithPath → Put
arith_path_put path rest = say path.name (arith_parts_put path.parts rest)

abbrev pub step_put : StepWay → ArithPath → Put
step_put way path rest = if way.before then arith_path_put path (say (step_bytes way.down) rest) else say (step_bytes way.down) (arith_path_put path rest)

-- one level of an expression
abbrev pub expr_step : ArithExpr-F Spread Link → Spread
expr_step (ArithExpr-F.Number n) level rest = say (decimal (cast_unsigned w64 n)) rest
expr_step (ArithExpr-F.Variable path) level rest = arith_path_put path rest
expr_step (ArithExpr-F.Unary op e) level rest = say (unary_bytes op) (e 0 rest)
expr_step (ArithExpr-F.Step path way) level rest = step_put way path rest
expr_step (ArithExpr-F.Power a b) level rest = grouped (nat_le 1 level) (λ more. a 0 (say (codes " ** ") (b 1 more))) rest
expr_step (ArithExpr-F.Chain first links) level rest = chain_put level first links rest
expr_step (ArithExpr-F.Choice test a b) level rest = grouped (nat_le 12 level) (λ more. test 11 (say (codes " ? ") (a 14 (say (codes " : ") (b 12 more))))) rest
expr_step (ArithExpr-F.Assign path op e) level rest = grouped (nat_le 13 level) (λ more. arith_path_put path (say (assign_bytes op) (e 13 more))) rest

abbrev pub link_step : ArithLink-F Spread Link → Link
link_step l = record { op = l.op; operand = l.operand }

abbrev pub expr_put : ArithExpr → Spread
expr_put = fold-ArithExpr Spread Link expr_step link_step

abbrev pub link_put : ArithLink → Link
link_put = fold-ArithLink Spread Link expr_step link_step
