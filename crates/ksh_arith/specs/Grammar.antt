-- The grammar of arithmetic, level by level, over the bytes of a text. A fault tells how many bytes are left where it stands.
use Rattle.std.specs.Prelude.{◌≡◌, ℕ, zero, suc, ◌+◌, ◌-◌, ◌*◌, ◌^◌, ◌==◌, ◌&&◌, ◌||◌, Bool, true, false, not, nat_le, nat_lt, max, List, [], ◌∷◌, ◌++◌, take, drop, length, Option, Some, None, Result, Ok, Err, if◌then◌else◌}
use Rattle.std.specs.Int.{w64, cast_signed}
use Rattle.ksh_base.specs.Name.{starts_name, goes_on_in_name}
use Rattle.arith_tree.specs.declared.expr.ArithExpr.{ArithExpr}
use Rattle.arith_tree.specs.declared.expr.ArithExpr.TheVariants as expr
use Rattle.arith_tree.specs.declared.expr.ArithLink.{ArithLink}
use Rattle.arith_tree.specs.declared.expr.ArithPart.{ArithPart}
use Rattle.arith_tree.specs.declared.expr.ArithPart.TheVariants as part
use Rattle.arith_tree.specs.declared.expr.ArithPath.{ArithPath}
use Rattle.arith_tree.specs.declared.expr.BinaryOp.{BinaryOp}
use Rattle.arith_tree.specs.declared.expr.BinaryOp.TheVariants as binary
use Rattle.arith_tree.specs.declared.expr.ChainOp.{ChainOp}
use Rattle.arith_tree.specs.declared.expr.ChainOp.TheVariants as chain
use Rattle.arith_tree.specs.declared.expr.UnaryOp.{UnaryOp}
use Rattle.arith_tree.specs.declared.expr.UnaryOp.TheVariants as unary
use Rattle.ksh_arith.specs.declared.fault.ArithRefused.{ArithRefused}
use Rattle.ksh_arith.specs.declared.fault.ArithRefused.TheVariants as refused
use Rattle.ksh_arith.specs.declared.part.Part.{Part}
use Rattle.ksh_arith.specs.declared.part.Part.TheVariants as piece

-- a function failed as the grammar does, unless memory ran out
abbrev pub Fails : {B : Type 0} → ArithRefused → Result B ArithRefused → Type 0
Fails refused.Memory read = Unit {0}
Fails (refused.Bad at) read = read ≡ Err (refused.Bad at)
Fails (refused.TooDeep at) read = read ≡ Err (refused.TooDeep at)

-- what a function answered is what the grammar gives
abbrev pub Gives : {A B : Type 0} → (A → B) → Result A ArithRefused → Result B ArithRefused → Type 0
Gives view (Ok a) read = read ≡ Ok (view a)
Gives view (Err e) read = Fails e read

-- ---- bytes

-- blank, tab or newline
abbrev pub is_blank : ℕ → Bool
is_blank b = b == 32 || (b == 9 || b == 10)

-- the text without the blanks at its front
unfoldable pub skipped : List ℕ → List ℕ
skipped [] = []
skipped (b ∷ bs) = if is_blank b then skipped bs else b ∷ bs

-- the text begins with that byte
unfoldable pub begins : ℕ → List ℕ → Bool
begins b [] = false
begins b (x ∷ xs) = x == b

-- it begins with those two
abbrev pub begins_two : ℕ → ℕ → List ℕ → Bool
begins_two b c text = begins b text && begins c (drop 1 text)

-- it begins with the byte, and neither of those stands behind it
abbrev pub stands_alone : ℕ → ℕ → ℕ → List ℕ → Bool
stands_alone b c d text = begins b text && not (begins c (drop 1 text) || begins d (drop 1 text))

-- ---- operators: where a longer one stands, no shorter one does

abbrev pub Spelled : Type 0
Spelled = Option (ChainOp × ℕ)

abbrev pub op : BinaryOp → ℕ → Spelled
op o len = Some (chain.Binary o, len)

-- the operators of the levels that group from the left, from the tightest, with their lengths
abbrev pub multiplying : List ℕ → Spelled
multiplying text =
    if stands_alone 42 42 61 text then op binary.Multiply 1
    else (if stands_alone 47 61 61 text then op binary.Divide 1
    else (if stands_alone 37 61 61 text then op binary.Remainder 1 else None))

abbrev pub adding : List ℕ → Spelled
adding text =
    if stands_alone 43 43 61 text then op binary.Add 1
    else (if stands_alone 45 45 61 text then op binary.Subtract 1 else None)

abbrev pub shifting : List ℕ → Spelled
shifting text =
    if begins_two 60 60 text && not (begins 61 (drop 2 text)) then op binary.ShiftLeft 2
    else (if begins_two 62 62 text && not (begins 61 (drop 2 text)) then op binary.ShiftRight 2 else None)

abbrev pub comparing : List ℕ → Spelled
comparing text =
    if begins_two 60 61 text then op binary.LessEqual 2
    else (if stands_alone 60 60 61 text then op binary.Less 1
    else (if begins_two 62 61 text then op binary.GreaterEqual 2
    else (if stands_alone 62 62 61 text then op binary.Greater 1 else None)))

abbrev pub equating : List ℕ → Spelled
equating text =
    if begins_two 61 61 text then op binary.Equal 2
    else (if begins_two 33 61 text then op binary.NotEqual 2 else None)

abbrev pub bit_and : List ℕ → Spelled
bit_and text = if stands_alone 38 38 61 text then op binary.BitAnd 1 else None

abbrev pub bit_xor : List ℕ → Spelled
bit_xor text = if stands_alone 94 61 61 text then op binary.BitXor 1 else None

abbrev pub bit_or : List ℕ → Spelled
bit_or text = if stands_alone 124 124 61 text then op binary.BitOr 1 else None

abbrev pub both : List ℕ → Spelled
both text = if begins_two 38 38 text then Some (chain.And, 2) else None

abbrev pub either : List ℕ → Spelled
either text = if begins_two 124 124 text then Some (chain.Or, 2) else None

abbrev pub comma : List ℕ → Spelled
comma text = if begins 44 text then Some (chain.Comma, 1) else None

-- an operator of that level, 0 being the tightest
unfoldable pub operator_at : ℕ → List ℕ → Spelled
operator_at level text =
    if level == 0 then multiplying text
    else (if level == 1 then adding text
    else (if level == 2 then shifting text
    else (if level == 3 then comparing text
    else (if level == 4 then equating text
    else (if level == 5 then bit_and text
    else (if level == 6 then bit_xor text
    else (if level == 7 then bit_or text
    else (if level == 8 then both text
    else (if level == 9 then either text
    else comma text)))))))))

-- `=` and its kin: the operator that is done before, if any, and the length
abbrev pub Assigning : Type 0
Assigning = Option (Option BinaryOp × ℕ)

unfoldable pub assigning : List ℕ → Assigning
assigning text =
    if stands_alone 61 61 61 text then Some (None, 1)
    else (if begins_two 43 61 text then Some (Some binary.Add, 2)
    else (if begins_two 45 61 text then Some (Some binary.Subtract, 2)
    else (if begins_two 42 61 text then Some (Some binary.Multiply, 2)
    else (if begins_two 47 61 text then Some (Some binary.Divide, 2)
    else (if begins_two 37 61 text then Some (Some binary.Remainder, 2)
    else (if begins_two 38 61 text then Some (Some binary.BitAnd, 2)
    else (if begins_two 94 61 text then Some (Some binary.BitXor, 2)
    else (if begins_two 124 61 text then Some (Some binary.BitOr, 2)
    else (if begins_two 60 60 text && begins 61 (drop 2 text) then Some (Some binary.ShiftLeft, 3)
    else (if begins_two 62 62 text && begins 61 (drop 2 text) then Some (Some binary.ShiftRight, 3)
    else None))))))))))

-- `++` or `--`: whether it is down
unfoldable pub stepping : List ℕ → Option Bool
stepping text = if begins_two 43 43 text then Some false else (if begins_two 45 45 text then Some true else None)

-- `-` and its kin
unfoldable pub signing : List ℕ → Option UnaryOp
signing text =
    if begins 43 text then Some unary.Plus
    else (if begins 45 text then Some unary.Minus
    else (if begins 33 text then Some unary.Not
    else (if begins 126 text then Some unary.Complement else None)))

-- Where no token that may stand there does, the first bytes of one may: of `<<=` two, as of `<<`; of `+=`, `++`, `=` and `!` one.
abbrev pub is_common : ℕ → Bool
is_common b = b == 61 || (b == 33 || (b == 43 || (b == 45 || (b == 42 || (b == 47 || (b == 37 || (b == 38 || (b == 94 || b == 124))))))))

abbrev pub common_first : List ℕ → ℕ
common_first [] = 0
common_first (b ∷ bs) = if is_common b then 1 else 0

unfoldable pub common_bytes : List ℕ → ℕ
common_bytes text = if begins_two 60 60 text || begins_two 62 62 text then 2 else common_first text

-- nothing goes on there
abbrev pub dead : {A : Type 0} → List ℕ → Result A ArithRefused
dead text = Err (refused.Bad (length text))

abbrev pub deep : {A : Type 0} → List ℕ → Result A ArithRefused
deep text = Err (refused.TooDeep (length text))

abbrev pub dead_operator : {A : Type 0} → List ℕ → Result A ArithRefused
dead_operator text = dead (drop (common_bytes text) text)

-- ---- literals

-- what a letter or digit is worth as a digit, and 36 for any other byte
abbrev pub worth : ℕ → ℕ
worth b =
    if nat_le 48 b && nat_le b 57 then b - 48
    else (if nat_le 97 b && nat_le b 122 then b - 87
    else (if nat_le 65 b && nat_le b 90 then b - 55 else 36))

abbrev pub Number : Type 0
Number = Result (ℕ × List ℕ) ArithRefused

-- the digits of a base at the front, behind a number that was read already; at most 2^63
unfoldable pub digits_by : ℕ → ℕ → List ℕ → Number
digits_by base value [] = Ok (value, [])
digits_by base value (b ∷ bs) =
    if nat_lt (worth b) base
    then (if nat_le (value * base + worth b) (2 ^ 63) then digits_by base (value * base + worth b) bs else dead (b ∷ bs))
    else Ok (value, b ∷ bs)

-- at least one digit of the base
unfoldable pub some_digits : ℕ → List ℕ → Number
some_digits base [] = dead []
some_digits base (b ∷ bs) = if nat_lt (worth b) base then digits_by base 0 (b ∷ bs) else dead (b ∷ bs)

-- `base#digits`, where a base stands before the `#`
abbrev pub after_base : ℕ × List ℕ → Number
after_base read =
    if begins 35 read.1
    then (if nat_le 2 read.0 && nat_le read.0 36 then some_digits read.0 (drop 1 read.1) else dead read.1)
    else Ok read

abbrev pub with_base : Number → Number
with_base (Ok read) = after_base read
with_base (Err e) = Err e

-- a literal: `0x` and hexadecimal digits, `base#digits`, or decimal digits
unfoldable pub literal : List ℕ → Number
literal text =
    if begins_two 48 120 text || begins_two 48 88 text then some_digits 16 (drop 2 text)
    else with_base (digits_by 10 0 text)

-- ---- paths

-- how many bytes at the front go on in a name
unfoldable pub name_length : List ℕ → ℕ
name_length [] = 0
name_length (b ∷ bs) = if goes_on_in_name b then suc (name_length bs) else 0

-- whether a name begins there
unfoldable pub begins_name : List ℕ → Bool
begins_name [] = false
begins_name (b ∷ bs) = starts_name b

-- how many other brackets are open behind a byte, inside one that is open; nothing where the byte closes that one
abbrev pub one_less : ℕ → Option ℕ
one_less zero = None
one_less (suc inner) = Some inner

abbrev pub inner_after : ℕ → ℕ → Option ℕ
inner_after b inner = if b == 91 then Some (inner + 1) else (if b == 93 then one_less inner else Some inner)

abbrev pub one_on : Option ℕ → Option ℕ
one_on None = None
one_on (Some n) = Some (n + 1)

abbrev pub end_behind : (ℕ → Option ℕ) → Option ℕ → Option ℕ
end_behind go None = Some 0
end_behind go (Some inner) = one_on (go inner)

-- where the bracket closes that is open, so many others being open inside it
unfoldable pub bracket_end : List ℕ → ℕ → Option ℕ
bracket_end [] inner = None
bracket_end (b ∷ bs) inner = end_behind (bracket_end bs) (inner_after b inner)

-- what is read at the front, and the text behind it
abbrev pub Reads : Type 0 → Type 0
Reads A = Result (A × List ℕ) ArithRefused

abbrev pub then_read : {A B : Type 0} → Reads A → (A → List ℕ → Reads B) → Reads B
then_read (Ok r) k = k r.0 r.1
then_read (Err e) k = Err e

-- so many bytes, and the text behind them
abbrev pub cut : ℕ → List ℕ → Reads (List ℕ)
cut n text = Ok (take n text, drop n text)

-- a name, which begins there
unfoldable pub name_read : List ℕ → Reads (List ℕ)
name_read text = if begins_name text then cut (name_length text) text else dead text

-- `.sh`, whose dot stands there
unfoldable pub shell_name : List ℕ → Reads (List ℕ)
shell_name text =
    if begins 115 (drop 1 text)
    then (if begins 104 (drop 2 text) then cut 3 text else dead (drop 2 text))
    else dead (drop 1 text)

abbrev pub first_name : List ℕ → Reads (List ℕ)
first_name text = if begins 46 text then shell_name text else name_read text

abbrev pub member_read : List ℕ → Reads ArithPart
member_read text = then_read (name_read (drop 1 text)) (λ name rest. Ok (part.Member name, rest))

abbrev pub within_brackets : List ℕ → Option ℕ → Reads ArithPart
within_brackets text None = dead []
within_brackets text (Some n) = Ok (part.Sub (take n text), drop 1 (drop n text))

abbrev pub subscript_read : List ℕ → Reads ArithPart
subscript_read text = within_brackets (drop 1 text) (bracket_end (drop 1 text) 0)

abbrev pub some_part : Reads ArithPart → Result (Option (ArithPart × List ℕ)) ArithRefused
some_part (Ok r) = Ok (Some r)
some_part (Err e) = Err e

-- the part of a path that stands there, if any
unfoldable pub part_read : ℕ → List ℕ → Result (Option (ArithPart × List ℕ)) ArithRefused
part_read d text =
    if begins 46 text then some_part (member_read text)
    else (if begins 91 text then (if nat_lt d 2 then deep text else some_part (subscript_read text)) else Ok None)

-- a path is 2 levels high with a subscript, else 1
abbrev pub higher : ArithPart → ℕ → ℕ
higher (part.Member name) height = height
higher (part.Sub text) height = 2

abbrev pub parts_on : (List ArithPart → ℕ → List ℕ → Reads (List ArithPart × ℕ)) → List ArithPart → ℕ → List ℕ → Result (Option (ArithPart × List ℕ)) ArithRefused → Reads (List ArithPart × ℕ)
parts_on go parts height text (Err e) = Err e
parts_on go parts height text (Ok None) = Ok ((parts, height), text)
parts_on go parts height text (Ok (Some r)) = go (parts ++ r.0 ∷ []) (higher r.0 height) r.1

-- the parts of a path, behind those that were read already; there are no more than bytes
unfoldable pub parts_read : ℕ → ℕ → List ArithPart → ℕ → List ℕ → Reads (List ArithPart × ℕ)
parts_read zero d parts height text = Ok ((parts, height), text)
parts_read (suc n) d parts height text = parts_on (parts_read n d) parts height text (part_read d text)

unfoldable pub path_read : ℕ → List ℕ → Reads (ArithPath × ℕ)
path_read d text =
    then_read (first_name text) (λ name rest. then_read (parts_read (length rest) d [] 1 rest) (λ r rest. Ok ((record { name = name; parts = r.0 }, r.1), rest)))

-- ---- expressions: `d` levels may stand there

abbrev pub Reader : Type 0
Reader = List ℕ → Reads Part

abbrev pub as_part : ArithExpr → ℕ → Part
as_part e height = piece.Other e height

abbrev pub expr_of : Part → ArithExpr
expr_of (piece.Variable path height) = expr.Variable path
expr_of (piece.Other e height) = e

abbrev pub height_of : Part → ℕ
height_of (piece.Variable path height) = height
height_of (piece.Other e height) = height

-- whether a digit stands there
unfoldable pub begins_digit : List ℕ → Bool
begins_digit [] = false
begins_digit (b ∷ bs) = nat_le 48 b && nat_le b 57

-- `++v`
abbrev pub before_step : ℕ → Bool → List ℕ → Reads Part
before_step d down text =
    if nat_lt d 2 then deep text
    else then_read (path_read (d - 1) (skipped (drop 2 text))) (λ p rest. Ok (as_part (expr.Step p.0 (record { down = down; before = false })) (p.1 + 1), rest))

-- a path, with `++` or `--` behind it or not
abbrev pub maybe_step : ℕ → ArithPath × ℕ → List ℕ → Option Bool → Reads Part
maybe_step d p text None = Ok (piece.Variable p.0 p.1, text)
maybe_step d p text (Some down) =
    if nat_le d p.1 then deep text
    else Ok (as_part (expr.Step p.0 (record { down = down; before = true })) (p.1 + 1), drop 2 text)

abbrev pub variable : ℕ → List ℕ → Reads Part
variable d text = then_read (path_read d text) (λ p rest. maybe_step d p (skipped rest) (stepping (skipped rest)))

abbrev pub number_part : ℕ × List ℕ → Reads Part
number_part r = Ok (as_part (expr.Number (cast_signed w64 r.0)) 1, r.1)

abbrev pub number_read : Number → Reads Part
number_read (Ok r) = number_part r
number_read (Err e) = Err e

-- what closes an expression must stand there
abbrev pub closed_by : ℕ → Part → List ℕ → Reads Part
closed_by b p text = if begins b text then Ok (p, drop 1 text) else dead_operator text

-- Levels of the grammar: 0 is a signed operand, 1 `**`, then those of the operators that group from the left, the tightest
-- first, up to 11, then `? :`, then `=` and its kin, and 14 is the comma, which is a whole expression.
abbrev pub whole : ℕ
whole = 14

-- the first operand alone, or a chain
abbrev pub chain_part : Part → List ArithLink → ℕ → Part
chain_part first [] height = first
chain_part first (l ∷ ls) height = as_part (expr.Chain (expr_of first) (l ∷ ls)) (height + 1)

abbrev pub chain_read : Part → List ArithLink → ℕ → List ℕ → Reads Part
chain_read first links height text = Ok (chain_part first links height, text)

abbrev pub joins : ChainOp → Part → ArithLink
joins o p = record { op = o; operand = (expr_of p) }

-- `d` levels may stand there, and `below` reads a level of the grammar where one less may
module _ (d : ℕ) (below : ℕ → Reader) where
  abbrev pub in_parentheses : Reader
  in_parentheses text =
      if nat_lt d 2 then deep text
      else then_read (below whole (drop 1 text)) (λ p rest. then_read (closed_by 41 p (skipped rest)) (λ p rest. Ok (as_part (expr_of p) ((height_of p) + 1), rest)))

  unfoldable pub operand : Reader
  operand text =
      if begins 40 text then in_parentheses text
      else (if begins_digit text then number_read (literal text)
      else (if begins_name text || begins 46 text then variable d text else dead text))

  abbrev pub signed_by : Option UnaryOp → Reader
  signed_by None text = operand text
  signed_by (Some o) text =
      if nat_lt d 2 then deep text
      else then_read (below 0 (drop 1 text)) (λ p rest. Ok (as_part (expr.Unary o (expr_of p)) ((height_of p) + 1), rest))

  abbrev pub stepped_by : Option Bool → Reader
  stepped_by None text = signed_by (signing text) text
  stepped_by (Some down) text = before_step d down text

  unfoldable pub signed : Reader
  signed text = stepped_by (stepping text) text

  unfoldable pub power_behind : Part → Reader
  power_behind p text =
      if begins_two 42 42 text
      then (if nat_le d (height_of p) then deep text
      else then_read (below 1 (drop 2 text)) (λ q rest. Ok (as_part (expr.Power (expr_of p) (expr_of q)) (max (height_of p) (height_of q) + 1), rest)))
      else Ok (p, text)

  -- an operator of a chain and its operand, and then what goes on
  abbrev pub linked : ℕ → (List ArithLink → ℕ → Reader) → Part → List ArithLink → ℕ → Spelled → Reader
  linked tighter go first links height None text = chain_read first links height text
  linked tighter go first links height (Some o) text =
      if nat_le d height then deep text
      else then_read (below tighter (drop o.1 text)) (λ q rest. go (links ++ joins o.0 q ∷ []) (max height (height_of q)) rest)

  -- the links of a chain, behind those that were read already; there are no more than bytes
  unfoldable pub links_read : ℕ → ℕ → ℕ → Part → List ArithLink → ℕ → Reader
  links_read zero level tighter first links height text = chain_read first links height text
  links_read (suc n) level tighter first links height text = linked tighter (links_read n level tighter first) first links height (operator_at level (skipped text)) (skipped text)

  -- the second branch of a choice, behind its `:`
  abbrev pub chosen_by : Part → Part → Reader
  chosen_by p q text = then_read (below 12 text) (λ r rest. Ok (as_part (expr.Choice (expr_of p) (expr_of q) (expr_of r)) (max (height_of p) (max (height_of q) (height_of r)) + 1), rest))

  unfoldable pub choice_behind : Part → Reader
  choice_behind p text =
      if begins 63 text
      then (if nat_le d (height_of p) then deep text
      else then_read (below whole (drop 1 text)) (λ q rest. then_read (closed_by 58 q (skipped rest)) (λ q rest. chosen_by p q rest)))
      else Ok (p, text)

  -- a variable by itself may be assigned
  abbrev pub assigned_by : ArithPath → ℕ → Assigning → Reader
  assigned_by path height None text = Ok (piece.Variable path height, text)
  assigned_by path height (Some o) text =
      if nat_le d height then deep text
      else then_read (below 13 (drop o.1 text)) (λ q rest. Ok (as_part (expr.Assign path o.0 (expr_of q)) (max height (height_of q) + 1), rest))

  abbrev pub assign_behind : Part → Reader
  assign_behind (piece.Variable path height) text = assigned_by path height (assigning text) text
  assign_behind (piece.Other e height) text = Ok (piece.Other e height, text)

  -- what may follow what was read of the level before
  unfoldable pub behind : ℕ → Part → Reader
  behind n p text =
      if n == 0 then power_behind p text
      else (if nat_le n 10 then links_read (length text) (n - 1) n p [] (height_of p) text
      else (if n == 11 then choice_behind p text
      else (if n == 12 then assign_behind p text
      else links_read (length text) 10 13 p [] (height_of p) text)))

  unfoldable pub at_level : ℕ → Reader
  at_level zero text = signed (skipped text)
  at_level (suc n) text = then_read (at_level n text) (λ p rest. behind n p (skipped rest))

-- a level of the grammar at the front of a text, where so many levels of the tree may stand
unfoldable pub read_by : ℕ → ℕ → Reader
read_by zero level text = deep text
read_by (suc d) level text = at_level (suc d) (read_by d) level text

-- nothing may stand behind an expression
abbrev pub ended_by : Part → List ℕ → Result ArithExpr ArithRefused
ended_by p [] = Ok (expr_of p)
ended_by p (b ∷ bs) = dead_operator (b ∷ bs)

abbrev pub whole_read : Reads Part → Result ArithExpr ArithRefused
whole_read (Ok r) = ended_by r.0 (skipped r.1)
whole_read (Err e) = Err e

-- a fault at its place, counted from 0
abbrev pub placed : ℕ → Result ArithExpr ArithRefused → Result ArithExpr ArithRefused
placed len (Ok e) = Ok e
placed len (Err (refused.Bad left)) = Err (refused.Bad (len - left))
placed len (Err (refused.TooDeep left)) = Err (refused.TooDeep (len - left))
placed len (Err refused.Memory) = Err refused.Memory

-- the expression that a text is, of at most 256 levels, or where none goes on
unfoldable pub parsed : List ℕ → Result ArithExpr ArithRefused
parsed text = placed (length text) (whole_read (read_by 256 whole text))
