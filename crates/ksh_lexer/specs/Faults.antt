-- The kinds of fault, as they are told.
use Rattle.std.specs.Prelude.{ℕ, List, codes}
use Rattle.ksh_lexer.specs.declared.fault.SyntaxKind.{SyntaxKind}
use Rattle.ksh_lexer.specs.declared.fault.SyntaxKind.TheVariants.{UnexpectedToken, UnexpectedEnd, UnclosedQuote, UnclosedSubstitution, HereDocMissing, BadName, BadArithmetic, TooDeep, TooLong, NotInProfile}

abbrev pub kind_number : SyntaxKind → ℕ
kind_number UnexpectedToken = 1
kind_number UnexpectedEnd = 2
kind_number UnclosedQuote = 3
kind_number UnclosedSubstitution = 4
kind_number HereDocMissing = 5
kind_number BadName = 6
kind_number BadArithmetic = 7
kind_number TooDeep = 8
kind_number TooLong = 9
kind_number NotInProfile = 10

abbrev pub kind_name : SyntaxKind → List ℕ
kind_name UnexpectedToken = codes "UnexpectedToken"
kind_name UnexpectedEnd = codes "UnexpectedEnd"
kind_name UnclosedQuote = codes "UnclosedQuote"
kind_name UnclosedSubstitution = codes "UnclosedSubstitution"
kind_name HereDocMissing = codes "HereDocMissing"
kind_name BadName = codes "BadName"
kind_name BadArithmetic = codes "BadArithmetic"
kind_name TooDeep = codes "TooDeep"
kind_name TooLong = codes "TooLong"
kind_name NotInProfile = codes "NotInProfile"
