-- What a frame of a builder of trees is, as far as it decides what a token or a mark does to it. A frame may have several tags: what
-- is told of it may be less than is known.
use Rattle.std.specs.Prelude.{ℕ, Bool, ◌==◌}

pub data Tag : Type 0 where
  -- pieces of a text
  Text : Tag
  -- the `[` of a subscript
  Bracket : Tag
  -- its whole text
  Subscript : Tag
  -- `${`
  BracesValue : Tag
  -- `${#`
  BracesLength : Tag
  -- `${!`
  BracesTarget : Tag
  -- `${` and a path
  ParameterPath : Tag
  -- `${` and any parameter
  ParameterOther : Tag
  -- `${!` and a path
  TargetPath : Tag
  -- `${#` or `${!` and a path
  AskedPath : Tag
  -- `${#` or `${!` and any parameter
  AskedOther : Tag
  -- a parameter and a form of which no text was read
  FormedOnce : Tag
  -- the same, where the form may have a second text
  FormedTwice : Tag
  -- the same, of which the first text was read
  FormedLast : Tag
  -- `${` before a blank
  SubstitutionCurrent : Tag
  -- `$(` or a backquote
  SubstitutionFork : Tag
  -- `$((`
  Arithmetic : Tag
  -- the place where a word begins
  WordStart : Tag
  -- the same, where it begins with `path=` or `path+=`
  AssignmentStart : Tag
  -- a word that is no assignment
  Whole : Tag
  -- plain bytes that are names
  WholeName : Tag
  -- a word that is an assignment
  WholeAssignment : Tag
  -- any word
  AnyWhole : Tag
  -- the name of a test of one word
  WholeUnary : Tag
  -- that of a test of two words
  WholeBinary : Tag
  -- the path before a subscript of an assignment
  Target : Tag
  -- the same where no assignment goes on
  Element : Tag
  -- a path with its `=` or `+=`
  Assigning : Tag
  -- an assignment
  Assigned : Tag
  -- an assignment, or a word that is none
  Given : Tag
  -- the operator of a redirection
  Redirection : Tag
  -- the operator of a here-document
  HereOperator : Tag
  -- the same with its word
  HereWord : Tag
  -- the same where the body begins
  HereBody : Tag
  -- a redirection
  Redirected : Tag
  -- a simple command of which nothing was read
  SimpleEmpty : Tag
  -- one of which one word was read, plain bytes that are names
  SimpleName : Tag
  -- any simple command
  Simple : Tag
  -- a compound command and redirections
  Compound : Tag
  -- a whole command
  Finished : Tag
  -- a pipeline of which nothing was read
  StagesFirst : Tag
  -- any pipeline
  Stages : Tag
  -- a whole pipeline
  Piped : Tag
  -- a list of pipelines of which none was read
  NoLink : Tag
  -- pipelines, the last with `&&` or `||`
  Linked : Tag
  -- either
  Link : Tag
  -- a whole list of pipelines
  Chain : Tag
  -- commands of a list
  Lines : Tag
  -- a whole list
  Listed : Tag
  -- `{`
  Group : Tag
  -- `(`
  Subshell : Tag
  -- `((`
  ArithmeticCommand : Tag
  -- `if`, or arms and `elif`
  If : Tag
  -- the same with `then`
  Then : Tag
  -- arms and `else`
  Else : Tag
  -- `while` or `until`
  Loop : Tag
  -- the same with `do`
  LoopBody : Tag
  -- `for`
  ForLoop : Tag
  -- `select`
  ForSelect : Tag
  -- either with its name
  ForName : Tag
  -- the same with `in` and words
  ForWords : Tag
  -- the same behind the words
  ForReady : Tag
  -- the same with `do`
  ForBody : Tag
  -- `for ((`
  ForArithmeticNone : Tag
  -- the same with an expression
  ForArithmeticOne : Tag
  -- with two
  ForArithmeticTwo : Tag
  -- with three
  ForArithmeticThree : Tag
  -- the same with `do`
  ForArithmeticBody : Tag
  -- `case`
  Case : Tag
  -- the same with its word
  CaseWord : Tag
  -- the same with `in` and items
  Cases : Tag
  -- patterns of an item
  Patterns : Tag
  -- `function`
  Function : Tag
  -- a function with its name
  FunctionName : Tag
  -- a whole function
  Defined : Tag
  -- `[[`
  ConditionCommand : Tag
  -- `(` in a condition
  Nested : Tag
  -- terms of a condition
  Terms : Tag
  -- no word of a term
  OperandsNone : Tag
  -- one word
  OperandsOne : Tag
  -- one, which is the name of a test of one word
  OperandsUnary : Tag
  -- two, of which the last is the name of a test of two words
  OperandsBinary : Tag
  -- such names both
  OperandsBoth : Tag
  -- words that are a test
  Operands : Tag
  -- a term's test
  Tested : Tag
  -- entries of a value
  Value : Tag
  -- the same, of which the last is a word of plain bytes that are names
  ValueWord : Tag
  -- the same, of which the last two are such words
  ValueNamed : Tag
  -- the same, of which the last two are such a word and `typeset`
  ValueTypeset : Tag
  -- either with newlines or `;` behind
  ValueBroken : Tag
  -- the place before the `{` of a function among members
  MemberBody : Tag
  -- a pair's key
  Keyed : Tag

-- each tag has a number
abbrev pub tag_number : Tag → ℕ
tag_number Text = 0
tag_number Bracket = 1
tag_number Subscript = 2
tag_number BracesValue = 3
tag_number BracesLength = 4
tag_number BracesTarget = 5
tag_number ParameterPath = 6
tag_number ParameterOther = 7
tag_number TargetPath = 8
tag_number AskedPath = 9
tag_number AskedOther = 10
tag_number FormedOnce = 11
tag_number FormedTwice = 12
tag_number FormedLast = 13
tag_number SubstitutionCurrent = 14
tag_number SubstitutionFork = 15
tag_number Arithmetic = 16
tag_number WordStart = 17
tag_number AssignmentStart = 18
tag_number Whole = 19
tag_number WholeName = 20
tag_number WholeAssignment = 21
tag_number AnyWhole = 22
tag_number WholeUnary = 23
tag_number WholeBinary = 24
tag_number Target = 25
tag_number Element = 26
tag_number Assigning = 27
tag_number Assigned = 28
tag_number Given = 29
tag_number Redirection = 30
tag_number HereOperator = 31
tag_number HereWord = 32
tag_number HereBody = 33
tag_number Redirected = 34
tag_number SimpleEmpty = 35
tag_number SimpleName = 36
tag_number Simple = 37
tag_number Compound = 38
tag_number Finished = 39
tag_number StagesFirst = 40
tag_number Stages = 41
tag_number Piped = 42
tag_number NoLink = 43
tag_number Linked = 44
tag_number Link = 45
tag_number Chain = 46
tag_number Lines = 47
tag_number Listed = 48
tag_number Group = 49
tag_number Subshell = 50
tag_number ArithmeticCommand = 51
tag_number If = 52
tag_number Then = 53
tag_number Else = 54
tag_number Loop = 55
tag_number LoopBody = 56
tag_number ForLoop = 57
tag_number ForSelect = 58
tag_number ForName = 59
tag_number ForWords = 60
tag_number ForReady = 61
tag_number ForBody = 62
tag_number ForArithmeticNone = 63
tag_number ForArithmeticOne = 64
tag_number ForArithmeticTwo = 65
tag_number ForArithmeticThree = 66
tag_number ForArithmeticBody = 67
tag_number Case = 68
tag_number CaseWord = 69
tag_number Cases = 70
tag_number Patterns = 71
tag_number Function = 72
tag_number FunctionName = 73
tag_number Defined = 74
tag_number ConditionCommand = 75
tag_number Nested = 76
tag_number Terms = 77
tag_number OperandsNone = 78
tag_number OperandsOne = 79
tag_number OperandsUnary = 80
tag_number OperandsBinary = 81
tag_number OperandsBoth = 82
tag_number Operands = 83
tag_number Tested = 84
tag_number Value = 85
tag_number ValueWord = 86
tag_number ValueNamed = 87
tag_number ValueTypeset = 88
tag_number ValueBroken = 89
tag_number MemberBody = 90
tag_number Keyed = 91

abbrev pub same_tag : Tag → Tag → Bool
same_tag t u = tag_number t == tag_number u
