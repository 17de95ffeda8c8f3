-- What an expression means: what it asks of variables, one ask after another, and its value or its first fault.
use Rattle.std.specs.Prelude.{ℕ, zero, suc, ◌-◌, List, [], ◌∷◌, Option, Some, None, Result, Ok, Err, ℤ, pos, not, if◌then◌else◌}
use Rattle.arith_tree.specs.declared.expr.ArithExpr.{ArithExpr, out-ArithExpr}
use Rattle.arith_tree.specs.declared.expr.ArithExpr.TheOpen.{ArithExpr-F}
use Rattle.arith_tree.specs.declared.expr.ArithLink.{ArithLink}
use Rattle.arith_tree.specs.declared.expr.ArithPart.{ArithPart}
use Rattle.arith_tree.specs.declared.expr.ArithPath.{ArithPath}
use Rattle.arith_tree.specs.declared.expr.BinaryOp.{BinaryOp}
use Rattle.arith_tree.specs.declared.expr.ChainOp.{ChainOp}
use Rattle.arith_tree.specs.declared.expr.ChainOp.TheVariants as chain
use Rattle.arith_tree.specs.declared.expr.StepWay.{StepWay}
use Rattle.ksh_arith.specs.declared.ask.VarAsk.{VarAsk}
use Rattle.ksh_arith.specs.declared.ask.VarAsk.TheVariants as ask
use Rattle.ksh_arith.specs.declared.ask.VarAnswer.{VarAnswer}
use Rattle.ksh_arith.specs.declared.ask.VarAnswer.TheVariants as answer
use Rattle.ksh_arith.specs.declared.fault.NumFault.TheVariants.{NotANumber, TooDeep}
use Rattle.ksh_arith.specs.declared.fault.ArithFault.{ArithFault}
use Rattle.ksh_arith.specs.declared.fault.ArithFault.TheVariants as fault
use Rattle.ksh_arith.specs.declared.fault.ArithRefused.{ArithRefused}
use Rattle.ksh_arith.specs.declared.fault.ArithRefused.TheVariants as refused
use Rattle.ksh_arith.specs.Asks.{Asks, Ends, Ask, gives, then_by}
use Rattle.ksh_arith.specs.Grammar.{parsed}
use Rattle.ksh_arith.specs.Numerals.{number_of}
use Rattle.ksh_arith.specs.Values.{truth, is_zero, unary_value, binary_value, power_value, stepped, step_value}

unfoldable pub asked : ArithPath → VarAsk → ℕ → Asks VarAnswer
asked path what depth = Ask (record { path = path; ask = what; depth = depth }) gives

-- a variable's text: empty it is 0, and what is no number is read as an expression
abbrev pub number_or : (List ℕ → Asks ℤ) → List ℕ → Option ℤ → Asks ℤ
number_or reads text (Some n) = gives n
number_or reads text None = reads text

abbrev pub text_value : (List ℕ → Asks ℤ) → List ℕ → Asks ℤ
text_value reads [] = gives (pos 0)
text_value reads (b ∷ bs) = number_or reads (b ∷ bs) (number_of (b ∷ bs))

-- what a variable was told to have
abbrev pub told_value : (List ℕ → Asks ℤ) → VarAnswer → Asks ℤ
told_value reads (answer.Number n) = gives n
told_value reads (answer.Plain text) = text_value reads text
told_value reads (answer.Settled path) = gives (pos 0)

-- the path with its subscripts evaluated
abbrev pub told_path : ArithPath → VarAnswer → ArithPath
told_path path (answer.Settled settled) = settled
told_path path (answer.Number n) = path
told_path path (answer.Plain text) = path

abbrev pub settled_in : VarAnswer → Option ArithPath
settled_in (answer.Settled settled) = Some settled
settled_in (answer.Number n) = None
settled_in (answer.Plain text) = None

-- what a function answered, where nothing stands for the path as it was
abbrev pub settled_as : {E : Type 0} → ArithPath → Result (Option ArithPath) (ArithFault E) → Result ArithPath (ArithFault E)
settled_as path (Ok (Some settled)) = Ok settled
settled_as path (Ok None) = Ok path
settled_as path (Err e) = Err e

-- a text that is no expression, as the fault of its reader
abbrev pub fault_of : {E : Type 0} → ArithRefused → ArithFault E
fault_of (refused.Bad at) = fault.Value (NotANumber at)
fault_of (refused.TooDeep at) = fault.Value TooDeep
fault_of refused.Memory = fault.Memory

-- `reads` is what a text that is no number gives, and `depth` how many texts are being read
module _ (reads : List ℕ → Asks ℤ) (depth : ℕ) where
  unfoldable pub read : ArithPath → Asks ℤ
  read path = then_by (asked path ask.Read depth) (told_value reads)

  -- the number is written, and is the value
  unfoldable pub write : ArithPath → ℤ → Asks ℤ
  write path n = then_by (asked path (ask.Write n) depth) (λ _. gives n)

  -- the subscripts of a path are evaluated; a name alone has none
  abbrev pub settle_parts : ArithPath → List ArithPart → Asks ArithPath
  settle_parts path [] = gives path
  settle_parts path (p ∷ ps) = then_by (asked path ask.Settle depth) (λ told. gives (told_path path told))

  unfoldable pub settle : ArithPath → Asks ArithPath
  settle path = settle_parts path path.parts

  -- `v++` and its kin, where the subscripts are evaluated: the variable is read, then written
  unfoldable pub step_at : StepWay → ArithPath → Asks ℤ
  step_at way path = then_by (read path) (λ v. then_by (write path (stepped way v)) (λ w. gives (step_value way v w)))

  -- the subscripts are evaluated once
  unfoldable pub step_by : StepWay → ArithPath → Asks ℤ
  step_by way path = then_by (settle path) (step_at way)

  -- `v op= e`, where the subscripts are evaluated: v is read, then e is evaluated, then v is written
  unfoldable pub update_at : BinaryOp → Asks ℤ → ArithPath → Asks ℤ
  update_at op value path = then_by (read path) (λ v. then_by value (λ w. then_by (Ends (binary_value op v w)) (write path)))

  abbrev pub assign_by : ArithPath → Option BinaryOp → Asks ℤ → Asks ℤ
  assign_by path None value = then_by value (write path)
  assign_by path (Some op) value = then_by (settle path) (update_at op value)

  abbrev pub truth_of : ℤ → Asks ℤ
  truth_of v = gives (truth (not (is_zero v)))

  -- what an operator of a chain makes of the value before it and of the operand behind it, which it may leave unevaluated
  abbrev pub joined : ChainOp → ℤ → Asks ℤ → Asks ℤ
  joined chain.Comma v operand = operand
  joined chain.Or v operand = if is_zero v then then_by operand truth_of else gives (pos 1)
  joined chain.And v operand = if is_zero v then gives (pos 0) else then_by operand truth_of
  joined (chain.Binary op) v operand = then_by operand (λ w. Ends (binary_value op v w))

  -- the operands of a chain, from the left
  abbrev pub chain_from : (ArithExpr → Asks ℤ) → List ArithLink → ℤ → Asks ℤ
  chain_from value [] v = gives v
  chain_from value (l ∷ ls) v = then_by (joined l.op v (value l.operand)) (chain_from value ls)

  abbrev pub power_by : Asks ℤ → Asks ℤ → Asks ℤ
  power_by a b = then_by a (λ v. then_by b (λ w. Ends (power_value v w)))

  abbrev pub chosen : Asks ℤ → Asks ℤ → ℤ → Asks ℤ
  chosen first second v = if is_zero v then second else first

  -- one level of an expression, with the meaning of its parts
  abbrev pub form : (ArithExpr → Asks ℤ) → ArithExpr-F ArithExpr ArithLink → Asks ℤ
  form value (ArithExpr-F.Number n) = gives n
  form value (ArithExpr-F.Variable path) = read path
  form value (ArithExpr-F.Unary op e) = then_by (value e) (λ v. gives (unary_value op v))
  form value (ArithExpr-F.Step path way) = step_by way path
  form value (ArithExpr-F.Power a b) = power_by (value a) (value b)
  form value (ArithExpr-F.Chain first rest) = then_by (value first) (chain_from value rest)
  form value (ArithExpr-F.Choice test first second) = then_by (value test) (chosen (value first) (value second))
  form value (ArithExpr-F.Assign path op e) = assign_by path op (value e)

  -- an expression of at most so many levels
  unfoldable pub meaning : ℕ → ArithExpr → Asks ℤ
  meaning zero e = Ends (Err TooDeep)
  meaning (suc n) e = form (meaning n) (out-ArithExpr e)

-- how many levels an expression may have
abbrev pub most_levels : ℕ
most_levels = 256

-- how many texts may be read inside one another
abbrev pub most_texts : ℕ
most_texts = 16

abbrev pub parsed_value : (ArithExpr → Asks ℤ) → Result ArithExpr ArithRefused → Asks ℤ
parsed_value value (Ok e) = value e
parsed_value value (Err (refused.Bad at)) = Ends (Err (NotANumber at))
parsed_value value (Err (refused.TooDeep at)) = Ends (Err TooDeep)
parsed_value value (Err refused.Memory) = Ends (Err TooDeep)

-- a text that is no number, where so many texts more may be read
unfoldable pub reads_by : ℕ → List ℕ → Asks ℤ
reads_by zero text = Ends (Err TooDeep)
reads_by (suc n) text = parsed_value (meaning (reads_by n) (most_texts - n) most_levels) (parsed text)

-- what an expression of at most so many levels means while so many texts are being read
abbrev pub meaning_at : ℕ → ℕ → ArithExpr → Asks ℤ
meaning_at depth levels = meaning (reads_by (most_texts - depth)) depth levels

-- the value of an expression while so many texts are being read
abbrev pub value_at : ℕ → ArithExpr → Asks ℤ
value_at depth e = meaning_at depth most_levels e
