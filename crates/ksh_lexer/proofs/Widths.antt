-- A width that fits fewer bytes fits more.
use Rattle.std.proofs.Common.{◌≡◌, ℕ, ◌≤◌, Option, Some, None, sym, subst, arith}
use Rattle.ksh_lexer.specs.Bytes.{present}

more : (n b c : ℕ) (second third : Option ℕ) → n ≤ present (Some b) second None → n ≤ present (Some c) second third
more n b c None third h = h
more n b c (Some d) None h = h
more n b c (Some d) (Some e) h = omega (arith, h)

pub wider : (n b c : ℕ) (first second third : Option ℕ) → first ≡ Some c → n ≤ present (Some b) second None → n ≤ present first second third
wider n b c first second third e h = subst (λ f. n ≤ present f second third) (sym e) (more n b c second third h)

first_one : (n c : ℕ) (second third : Option ℕ) → n ≤ 1 → n ≤ present (Some c) second third
first_one n c None third h = h
first_one n c (Some d) None h = omega (arith, h)
first_one n c (Some d) (Some e) h = omega (arith, h)

pub one : (n c : ℕ) (first second third : Option ℕ) → first ≡ Some c → n ≤ 1 → n ≤ present first second third
one n c first second third e h = subst (λ f. n ≤ present f second third) (sym e) (first_one n c second third h)
