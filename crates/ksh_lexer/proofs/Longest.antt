-- The longest operator wins.
use Rattle.std.proofs.Common.{◌≡◌, ◌≢◌, ℕ, ◌≤◌, Bool, true, false, length, Option, refl, subst, arith, if◌then◌else◌}
use Rattle.std.proofs.lemmas.Bool.Decides.{nat_tests}
use Rattle.ksh_lexer.specs.declared.outer.Begins.{Begins}
use Rattle.ksh_lexer.specs.declared.outer.Begins.TheVariants.{Take, Refuse}
use Rattle.ksh_lexer.specs.declared.kind.TokenKind.{TokenKind}
use Rattle.ksh_lexer.specs.declared.kind.Operator.{Operator}
use Rattle.ksh_lexer.specs.declared.kind.Operator.TheVariants.{DoubleSemicolon, SemicolonAmpersand, AndIf, OrIf, BarAmpersand, DoubleParenthesis, Semicolon, Ampersand, Bar, OpenParenthesis, CloseParenthesis}
use Rattle.ksh_lexer.specs.declared.kind.Redirection.{Redirection}
use Rattle.ksh_lexer.specs.declared.kind.Redirection.TheVariants.{HereTabs, HereString, HereDocument, ReadWrite, CopyInput, Input, Clobber, Append, CopyOutput, Output}
use Rattle.ksh_lexer.specs.declared.mode.LexMode.{LexMode}
use Rattle.ksh_lexer.specs.declared.mode.LexMode.TheVariants as mode
use Rattle.ksh_lexer.specs.Bytes.{is}
use Rattle.ksh_lexer.specs.Between.{between}
use Rattle.ksh_lexer.specs.Spelled.{LongestOperator, LongestRedirection, Stand, operator_bytes, redirection_bytes}

-- the width of a token, with none for a fault
abbrev wide : Begins → ℕ → Type 0
wide (Take k n) w = w ≤ n
wide (Refuse kind) w = Unit {0}
wide _ w = ⊥

taken : (b : Begins) (k : TokenKind) (n w : ℕ) → b ≡ Take k n → wide b w → w ≤ n
taken b k n w e h = subst (λ x. wide x w) e h

either : (t : Bool) (x y : Begins) (w : ℕ) → wide x w → wide y w → wide (if t then x else y) w
either true x y w a b = a
either false x y w a b = b

wide_one : (b : Option ℕ) (o p q : Operator × ℕ) (t u : Bool) → 1 ≤ o.1 → 1 ≤ p.1 → 1 ≤ q.1
    → (let x : Operator × ℕ = if t then o else if u then p else q in 1 ≤ x.1)
wide_one b o p q true u x y z = x
wide_one b o p q false true x y z = y
wide_one b o p q false false x y z = z

operator_wide : (m : LexMode) (a b c : Option ℕ) (o : Operator) → Stand (operator_bytes o) a b c → (m ≡ mode.Pattern → o ≢ DoubleParenthesis) → wide (between m a b c) (length (operator_bytes o))
operator_wide m a b c DoubleSemicolon s h = rw (s.0, s.1.0) (omega arith)
operator_wide m a b c SemicolonAmpersand s h = rw (s.0, s.1.0) (omega arith)
operator_wide m a b c AndIf s h = rw (s.0, s.1.0) (omega arith)
operator_wide m a b c OrIf s h = rw (s.0, s.1.0) (omega arith)
operator_wide m a b c BarAmpersand s h = rw (s.0, s.1.0) (omega arith)
operator_wide mode.Pattern a b c DoubleParenthesis s h = absurd (h refl refl)
operator_wide m a b c DoubleParenthesis s h = rw (s.0, s.1.0) (grind (arith, nat_tests))
operator_wide m a b c Semicolon s h = rw s.0 (wide_one b (DoubleSemicolon, 2) (SemicolonAmpersand, 2) (Semicolon, 1) (is 59 b) (is 38 b) (omega arith) (omega arith) (omega arith))
operator_wide m a b c Ampersand s h = rw s.0 (wide_one b (AndIf, 2) (AndIf, 2) (Ampersand, 1) (is 38 b) false (omega arith) (omega arith) (omega arith))
operator_wide m a b c Bar s h = rw s.0 (wide_one b (OrIf, 2) (BarAmpersand, 2) (Bar, 1) (is 124 b) (is 38 b) (omega arith) (omega arith) (omega arith))
operator_wide m a b c OpenParenthesis s h = rw s.0 (grind (arith, nat_tests))
operator_wide m a b c CloseParenthesis s h = rw s.0 (omega arith)

pub longest_operator : LongestOperator
longest_operator m a b c k n o e s h = taken (between m a b c) k n (length (operator_bytes o)) e (operator_wide m a b c o s h)

redirection_wide : (m : LexMode) (a b c : Option ℕ) (r : Redirection) → Stand (redirection_bytes r) a b c → wide (between m a b c) (length (redirection_bytes r))
redirection_wide m a b c HereTabs s = rw (s.0, s.1.0, s.1.1.0) (omega arith)
redirection_wide m a b c HereString s = rw (s.0, s.1.0, s.1.1.0) (omega arith)
redirection_wide m a b c HereDocument s = rw (s.0, s.1.0) (grind (arith, nat_tests))
redirection_wide m a b c ReadWrite s = rw (s.0, s.1.0) (omega arith)
redirection_wide m a b c CopyInput s = rw (s.0, s.1.0) (omega arith)
redirection_wide m a b c Input s = rw s.0 (grind (arith, nat_tests))
redirection_wide m a b c Clobber s = rw (s.0, s.1.0) (omega arith)
redirection_wide m a b c Append s = rw (s.0, s.1.0) (omega arith)
redirection_wide m a b c CopyOutput s = rw (s.0, s.1.0) (omega arith)
redirection_wide m a b c Output s = rw s.0 (grind (arith, nat_tests))

pub longest_redirection : LongestRedirection
longest_redirection m a b c k n r e s = taken (between m a b c) k n (length (redirection_bytes r)) e (redirection_wide m a b c r s)
