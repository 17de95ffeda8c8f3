-- Taking the body of the here-document that is awaited first.
use Rattle.std.specs.Prelude.{◌≡◌, ℕ, List, [], ◌∷◌, Option, Some, None}
use Rattle.ksh_lexer.specs.declared.fault.SyntaxFault.{SyntaxFault}
use Rattle.ksh_lexer.specs.declared.fault.SyntaxKind.TheVariants.{HereDocMissing}
use Rattle.ksh_lexer.specs.declared.here.HereDocument.{HereDocument}
use Rattle.ksh_lexer.specs.declared.here.Body.{Body}
use Rattle.ksh_lexer.specs.Bodies.{IsBehindLine, IsEnd, NoEnd}
use Rattle.ksh_lexer.specs.Place.{fault_at}

-- a text, the place to which it is read, and the here-documents that are awaited
abbrev pub Lexing : Type 0
Lexing = List ℕ × ℕ × List HereDocument

-- a body goes from a place to the line that ends it, and the text goes on behind that line
abbrev pub IsBody : List ℕ → HereDocument → ℕ → Body → ℕ → Type 0
IsBody text h from body behind = (body.from ≡ from) × (body.tabs ≡ h.tabs) × (body.expands ≡ h.expands) × IsEnd text h.word h.tabs from body.to × IsBehindLine text body.to behind

-- no line from a place on ends the body
abbrev pub HasNoBody : List ℕ → HereDocument → ℕ → SyntaxFault → Type 0
HasNoBody text h from f = NoEnd text h.word h.tabs from × (f ≡ fault_at text HereDocMissing h.operator)

abbrev pub TakesFrom : Lexing → Lexing → List HereDocument → Option Body → Type 0
TakesFrom old new (h ∷ more) (Some body) = IsBody old.0 h old.1 body new.1 × (new ≡ (old.0, new.1, more))
TakesFrom old new [] None = new ≡ old
TakesFrom old new _ _ = ⊥

-- the body that is awaited first; nothing where none is awaited, and then nothing changes
abbrev pub Takes : Lexing → Lexing → Option Body → Type 0
Takes old new body = TakesFrom old new old.2 body

abbrev pub MissesIn : Lexing → List HereDocument → SyntaxFault → Type 0
MissesIn old (h ∷ more) f = HasNoBody old.0 h old.1 f
MissesIn old [] f = ⊥

-- the body that is awaited first has no end
abbrev pub Misses : Lexing → SyntaxFault → Type 0
Misses old f = MissesIn old old.2 f

-- the fault of a text that ends before the body that is awaited first
abbrev pub missing : List ℕ → List HereDocument → Option SyntaxFault
missing text [] = None
missing text (h ∷ more) = Some (fault_at text HereDocMissing h.operator)
