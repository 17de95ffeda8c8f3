-- One handle more is kept.
use Rattle.std.proofs.Common.{◌≡◌, refl, ℕ, ◌+◌, ◌<◌, List, length, get_or, drop, add-one}
use Rattle.std.proofs.Math.Seq.{drop-cons}
use Rattle.std.specs.declared.option.Option.TheVariants.{None, Some}
use Rattle.kernel_ask.specs.declared.ask.Handle.{Handle}
use Rattle.kernel_objects.specs.declared.opened.Held.{Held}
use Rattle.kernel_objects.specs.Rows.{at_number, put_number}
use Rattle.kernel_core.specs.Forks.{kept_from}

-- where the next handle isn't held, none are kept
pub kept_none : (held : List (ℕ × Held)) (keep : List Handle) (kept : List (ℕ × Held)) (i : ℕ) (d : Handle) → i < length keep
    → at_number (get_or keep i d).0 held ≡ None → kept_from held (drop i keep) kept ≡ None
kept_none held keep kept i d h none = rw (drop-cons keep i d h) (rw none refl)

-- where it is held, the child has it
pub kept_some : (held : List (ℕ × Held)) (keep : List Handle) (kept : List (ℕ × Held)) (i : ℕ) (d : Handle) (x : Held) → i < length keep
    → at_number (get_or keep i d).0 held ≡ Some x
    → kept_from held (drop (i + 1) keep) (put_number (get_or keep i d).0 x kept) ≡ kept_from held (drop i keep) kept
kept_some held keep kept i d x h some = rw (add-one i, drop-cons keep i d h) (rw some refl)
