-- What is seen, by what the lexer's call did.
use Rattle.std.specs.Prelude.{◌≡◌, Result, Err}
use Rattle.std.proofs.Common.{sym, ap, subst}
use Rattle.ksh_lexer.specs.declared.fault.SyntaxFault.{SyntaxFault}
use Rattle.ksh_lexer.specs.declared.kind.Token.{Token}
use Rattle.ksh_lexer.specs.declared.mode.LexMode.{LexMode}
use Rattle.ksh_lexer.specs.Awaited.{Lexing}
use Rattle.ksh_lexer.specs.Place.{fault_at}
use Rattle.ksh_lexer.specs.Tok.{IsFault, Tok}
use Rattle.ksh_syntax.specs.declared.kind.Mode.{Mode}
use Rattle.ksh_scan.specs.declared.see.Seen.{Seen}
use Rattle.ksh_scan.specs.declared.state.State.{State}
use Rattle.ksh_scan.specs.Seeing.{lex_mode, with_lexing, at_place, Sees, lexed, refused, role_of, SeesBy}

pub sees_lexed : (s : State) (m : Mode) (n : LexMode) (t : Token) (l : Lexing) (r : Result Seen SyntaxFault) (s' : State) → n ≡ lex_mode s.source m
    → Tok n s.source.lexer.0 s.source.lexer.1 t → l ≡ (s.source.lexer.0, t.to, s.source.lexer.2) → SeesBy (role_of t.kind) m (with_lexing s l) t r s' → Sees s m r s'
sees_lexed s m n t l r s' is_mode tok is_place by =
    lexed t (subst (λ k. Tok k s.source.lexer.0 s.source.lexer.1 t) is_mode tok) (subst (λ k. SeesBy (role_of t.kind) m (with_lexing s k) t r s') is_place by)

pub sees_refused : (s : State) (m : Mode) (n : LexMode) (f : SyntaxFault) (l : Lexing) → n ≡ lex_mode s.source m
    → IsFault n s.source.lexer.0 s.source.lexer.1 f.kind f.place.byte → f ≡ fault_at s.source.lexer.0 f.kind f.place.byte → l ≡ s.source.lexer
    → Sees s m (Err f) (with_lexing s l)
sees_refused s m n f l is_mode fault is_at same =
    subst (λ k. Sees s m (Err f) (with_lexing s k)) (sym same)
    (refused (subst (λ k. IsFault k s.source.lexer.0 s.source.lexer.1 f.kind f.place.byte) is_mode fault) is_at)
