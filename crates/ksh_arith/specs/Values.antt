-- What the operators of arithmetic make of numbers from -2^63 to 2^63-1: all results wrap.
use Rattle.std.specs.Prelude.{ℕ, ◌%◌, Bool, true, false, not, if◌then◌else◌, Result, Ok, Err, ℤ, pos, negsuc, neg_ℤ, ◌+ℤ◌, ◌-ℤ◌, ◌*ℤ◌, int_lt, int_le, int_rem}
use Rattle.std.specs.Int.{w64, int_wrap, cast_unsigned, int_bit_and, int_bit_or, int_bit_xor, int_bit_not, int_shl, int_shr, int_wrapping_div, int_wrapping_pow}
use Rattle.std.specs.Ordering.{int_eq}
use Rattle.arith_tree.specs.declared.expr.UnaryOp.{UnaryOp}
use Rattle.arith_tree.specs.declared.expr.UnaryOp.TheVariants.{Plus, Minus, Not, Complement}
use Rattle.arith_tree.specs.declared.expr.BinaryOp.{BinaryOp}
use Rattle.arith_tree.specs.declared.expr.BinaryOp.TheVariants.{BitOr, BitXor, BitAnd, Equal, NotEqual, Less, LessEqual, Greater, GreaterEqual, ShiftLeft, ShiftRight, Add, Subtract, Multiply, Divide, Remainder}
use Rattle.arith_tree.specs.declared.expr.StepWay.{StepWay}
use Rattle.ksh_arith.specs.declared.fault.NumFault.{NumFault}
use Rattle.ksh_arith.specs.declared.fault.NumFault.TheVariants.{DivideByZero, NegativeExponent}

-- a value, or why there is none
abbrev pub Valued : Type 0
Valued = Result ℤ NumFault

-- what a test gives
abbrev pub truth : Bool → ℤ
truth true = pos 1
truth false = pos 0

abbrev pub is_zero : ℤ → Bool
is_zero v = int_eq v (pos 0)

abbrev pub unary_value : UnaryOp → ℤ → ℤ
unary_value Plus v = v
unary_value Minus v = int_wrap w64 (neg_ℤ v)
unary_value Not v = truth (is_zero v)
unary_value Complement v = int_bit_not w64 v

-- the value after `++` or `--`
abbrev pub stepped : StepWay → ℤ → ℤ
stepped way v = if way.down then int_wrap w64 (v -ℤ pos 1) else int_wrap w64 (v +ℤ pos 1)

-- the value of `++` or `--`, by the values before and after
abbrev pub step_value : StepWay → ℤ → ℤ → ℤ
step_value way before after = if way.before then before else after

-- a shift's count is taken modulo 64
abbrev pub shift_count : ℤ → ℕ
shift_count v = cast_unsigned w64 v % 64

-- the quotient is cut towards zero, and the remainder has the sign of the dividend
abbrev pub quotient : ℤ → ℤ → Valued
quotient a b = if is_zero b then Err DivideByZero else Ok (int_wrapping_div w64 a b)

abbrev pub remainder : ℤ → ℤ → Valued
remainder a b = if is_zero b then Err DivideByZero else Ok (int_rem a b)

abbrev pub binary_value : BinaryOp → ℤ → ℤ → Valued
binary_value BitOr a b = Ok (int_bit_or w64 a b)
binary_value BitXor a b = Ok (int_bit_xor w64 a b)
binary_value BitAnd a b = Ok (int_bit_and w64 a b)
binary_value Equal a b = Ok (truth (int_eq a b))
binary_value NotEqual a b = Ok (truth (not (int_eq a b)))
binary_value Less a b = Ok (truth (int_lt a b))
binary_value LessEqual a b = Ok (truth (int_le a b))
binary_value Greater a b = Ok (truth (int_lt b a))
binary_value GreaterEqual a b = Ok (truth (int_le b a))
binary_value ShiftLeft a b = Ok (int_shl w64 a (shift_count b))
binary_value ShiftRight a b = Ok (int_shr a (shift_count b))
binary_value Add a b = Ok (int_wrap w64 (a +ℤ b))
binary_value Subtract a b = Ok (int_wrap w64 (a -ℤ b))
binary_value Multiply a b = Ok (int_wrap w64 (a *ℤ b))
binary_value Divide a b = quotient a b
binary_value Remainder a b = remainder a b

-- a power; that of 0 by 0 is 1
abbrev pub power_value : ℤ → ℤ → Valued
power_value a (pos e) = Ok (int_wrapping_pow w64 a e)
power_value a (negsuc e) = Err NegativeExponent
