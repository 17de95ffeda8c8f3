-- What a handle weighs in the counts of an open row.
use Rattle.std.proofs.Common.{◌≡◌, refl, ap, subst₂, ℕ, ◌+◌, ◌<◌, ◌≤◌, Bool, true, false, cond, ◌&&◌, List, Option, Some, None, arith, ◌==◌}
use Rattle.std.proofs.lemmas.Bool.Decides.{nat_tests}
use Rattle.ksh_base.specs.Text.{same_numbers}
use Rattle.kernel_objects.specs.declared.opened.Held.{Held}
use Rattle.kernel_objects.specs.declared.opened.Opened.{Opened}
use Rattle.kernel_objects.specs.declared.opened.Side.{Side}
use Rattle.kernel_objects.specs.declared.opened.Side.TheVariants.{Reads, Writes, Both}
use Rattle.kernel_objects.specs.declared.opened.Stream.{Stream}
use Rattle.kernel_core.specs.Handles.{is_reading, is_unheld, left_by, shared}
use Rattle.kernel_core.specs.Limits.{most_count}
use Rattle.kernel_core.specs.Open.{row_for}
use Rattle.kernel_laws.specs.Counts.{CountsAs, only_writes, stands}
use Rattle.kernel_laws.proofs.Names.{same_itself}

-- 1 where the handle stands for the row on such a side
abbrev pub weigh : (Side → Bool) → Held → List ℕ → ℕ
weigh good held row = cond (stands good row held) 1 0

-- of a side alone
abbrev pub one : (Side → Bool) → Side → ℕ
one good side = cond (good side) 1 0

pub weigh_own : (good : Side → Bool) (held : Held) → weigh good held held.row ≡ one good held.side
weigh_own good held = ap (λ b. cond (b && good held.side) 1 0) (same_itself held.row)

pub weigh_other : (good : Side → Bool) (held : Held) (row : List ℕ) → same_numbers held.row row ≡ false → weigh good held row ≡ 0
weigh_other good held row other = ap (λ b. cond (b && good held.side) 1 0) other

-- a handle reads or only writes
pub one_side : (side : Side) → one is_reading side + one only_writes side ≡ 1
one_side Reads = refl
one_side Writes = refl
one_side Both = refl

pub counts_as : (r r' w w' : ℕ) (o : Option Opened) → r ≡ r' → w ≡ w' → CountsAs r w o → CountsAs r' w' o
counts_as r r' w w' o e f c = subst₂ (λ a b. CountsAs a b o) e f c

-- a count is above what is weighed, so the row is open
pub open_by : (r w : ℕ) (o : Option Opened) → CountsAs r w o → 0 < r + w → (x : Opened) × (o ≡ Some x)
open_by r w None c h = absurd (omega (arith, c.0, c.1, h))
open_by r w (Some x) c h = (x, refl)

more_by : (side : Side) (o : Opened) (r w : ℕ) → o.readers ≡ r → o.writers ≡ w → r + one is_reading side ≤ most_count → w + one only_writes side ≤ most_count
    → ((shared side o).readers ≡ r + one is_reading side) × ((shared side o).writers ≡ w + one only_writes side)
more_by Reads o r w e f a b = (omega (arith, e, a), omega (arith, f))
more_by Writes o r w e f a b = (omega (arith, e), omega (arith, f, b))
more_by Both o r w e f a b = (omega (arith, e, a), omega (arith, f))

-- the row with one handle more
pub counts_more : (side : Side) (o : Opened) (r w : ℕ) → CountsAs r w (Some o) → r + one is_reading side ≤ most_count → w + one only_writes side ≤ most_count
    → CountsAs (r + one is_reading side) (w + one only_writes side) (Some (shared side o))
counts_more side o r w c a b = let m = more_by side o r w c.0 c.1 a b in (m.0, m.1, omega (arith, c.2))

pub less_by : (side : Side) (o : Opened) (r w : ℕ) → o.readers ≡ r + one is_reading side → o.writers ≡ w + one only_writes side
    → ((left_by side o).readers ≡ r) × ((left_by side o).writers ≡ w)
less_by Reads o r w e f = (omega (arith, e), omega (arith, f))
less_by Writes o r w e f = (omega (arith, e), omega (arith, f))
less_by Both o r w e f = (omega (arith, e), omega (arith, f))

-- a row for which no handle stands, and one for which some stands
pub unheld_by : (o : Opened) (r w : ℕ) → o.readers ≡ r → o.writers ≡ w → is_unheld o ≡ true → (r ≡ 0) × (w ≡ 0)
unheld_by o r w e f h =
    let z : (r == 0 && w == 0) ≡ true = rw (← e, ← f) h in
    let a : r ≡ 0 = grind (arith, nat_tests) in
    let b : w ≡ 0 = grind (arith, nat_tests) in
    (a, b)

pub held_by : (o : Opened) (r w : ℕ) → o.readers ≡ r → o.writers ≡ w → is_unheld o ≡ false → 0 < r + w
held_by o r w e f h =
    let z : (r == 0 && w == 0) ≡ false = rw (← e, ← f) h in
    grind (arith, nat_tests)

-- a new row with one handle
pub counts_new : (side : Side) (stream : Stream) → CountsAs (one is_reading side) (one only_writes side) (Some (row_for side stream))
counts_new Reads stream = (refl, refl, omega arith)
counts_new Writes stream = (refl, refl, omega arith)
counts_new Both stream = (refl, refl, omega arith)
