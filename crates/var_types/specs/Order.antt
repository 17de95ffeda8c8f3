-- The order of paths: by scope, by name, then step by step, a path before those that go on from it.
use Rattle.std.specs.Prelude.{ℕ, List, Bool, ◌&&◌, ◌==◌}
use Rattle.std.specs.declared.cmp.Ordering.{Ordering}
use Rattle.std.specs.declared.cmp.Ordering.TheVariants.{Less, Greater}
use Rattle.std.specs.Ordering.{nat_cmp, then_cmp, on, eq_by_cmp}
use Rattle.std.specs.Cmp.Lexicographic.{slice_cmp}
use Rattle.std.specs.List.{starts_with}
use Rattle.ksh_base.specs.Text.{same_numbers}
use Rattle.var_types.specs.declared.path.Step.{Step}
use Rattle.var_types.specs.declared.path.Step.TheVariants.{Index, Key, Member}
use Rattle.var_types.specs.declared.path.Path.{Path}

-- texts byte by byte, a text before those that go on from it
abbrev pub text_cmp : List ℕ → List ℕ → Ordering
text_cmp = slice_cmp nat_cmp

-- an index before a key before a member
abbrev pub step_cmp : Step → Step → Ordering
step_cmp (Index m) (Index n) = nat_cmp m n
step_cmp (Index m) (Key s) = Less
step_cmp (Index m) (Member s) = Less
step_cmp (Key r) (Index n) = Greater
step_cmp (Key r) (Key s) = text_cmp r s
step_cmp (Key r) (Member s) = Less
step_cmp (Member r) (Index n) = Greater
step_cmp (Member r) (Key s) = Greater
step_cmp (Member r) (Member s) = text_cmp r s

-- the same step
abbrev pub step_eq : Step → Step → Bool
step_eq = eq_by_cmp step_cmp

abbrev pub path_cmp : Path → Path → Ordering
path_cmp = then_cmp (on (λ p. p.scope) nat_cmp) (then_cmp (on (λ p. p.name) text_cmp) (on (λ p. p.steps) (slice_cmp step_cmp)))

-- the same path
abbrev pub path_eq : Path → Path → Bool
path_eq = eq_by_cmp path_cmp

-- the second path is the first one or goes on from it
abbrev pub is_front : Path → Path → Bool
is_front p q = (p.scope == q.scope) && (same_numbers p.name q.name && starts_with step_eq q.steps p.steps)
