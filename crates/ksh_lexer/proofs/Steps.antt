-- What a call on a lexer did, in the words of its contract.
use Rattle.std.proofs.Common.{◌≡◌, ℕ, List, [], ◌∷◌, Some, None, refl, sym, subst, Err}
use Rattle.ksh_lexer.specs.declared.fault.SyntaxFault.{SyntaxFault}
use Rattle.ksh_lexer.specs.declared.lex.LexFault.{LexFault}
use Rattle.ksh_lexer.specs.declared.here.HereDocument.{HereDocument}
use Rattle.ksh_lexer.specs.declared.here.Body.{Body}
use Rattle.ksh_lexer.specs.declared.mode.LexMode.{LexMode}
use Rattle.ksh_lexer.specs.Awaited.{Lexing, IsBody, HasNoBody, Takes, TakesFrom, Misses, MissesIn}
use Rattle.ksh_lexer.specs.Place.{fault_at}
use Rattle.ksh_lexer.specs.Tok.{Comes, IsFault}

pub fault_comes : (m : LexMode) (text : List ℕ) (at : ℕ) (e : LexFault) (f : SyntaxFault) → Comes m text at (Err e) → f ≡ fault_at text e.kind e.byte
    → IsFault m text at f.kind f.place.byte
fault_comes m text at e f comes is = subst (λ (g : SyntaxFault). IsFault m text at g.kind g.place.byte) (sym is) comes

pub takes_none : (old : Lexing) → old.2 ≡ [] → Takes old old None
takes_none old e = subst (λ here. TakesFrom old old here None) (sym e) refl

pub takes_one : (old new : Lexing) (h : HereDocument) (more : List HereDocument) (body : Body) → old.2 ≡ h ∷ more
    → IsBody old.0 h old.1 body new.1 → new ≡ (old.0, new.1, more) → Takes old new (Some body)
takes_one old new h more body e is same = subst (λ here. TakesFrom old new here (Some body)) (sym e) (is, same)

pub misses_one : (old : Lexing) (h : HereDocument) (more : List HereDocument) (f : SyntaxFault) → old.2 ≡ h ∷ more → HasNoBody old.0 h old.1 f → Misses old f
misses_one old h more f e is = subst (λ here. MissesIn old here f) (sym e) is

pub fault_comes_next : (m : LexMode) (old : Lexing) (text : List ℕ) (at : ℕ) (e : LexFault) (f : SyntaxFault) → old.0 ≡ text → old.1 ≡ at → Comes m text at (Err e)
    → f ≡ fault_at text e.kind e.byte → IsFault m old.0 old.1 f.kind f.place.byte
fault_comes_next m old text at e f is_text is_at comes is =
    let there : IsFault m text at f.kind f.place.byte = fault_comes m text at e f comes is in
    let here : IsFault m text old.1 f.kind f.place.byte = subst (λ k. IsFault m text k f.kind f.place.byte) (sym is_at) there in
    subst (λ (xs : List ℕ). IsFault m xs old.1 f.kind f.place.byte) (sym is_text) here
