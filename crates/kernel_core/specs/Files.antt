-- How many files a box has.
use Rattle.std.specs.Prelude.{◌+◌, Bool, nat_le, length}
use Rattle.kernel_core.specs.Limits.{most_files}
use Rattle.kernel_core.specs.declared.kernel.Stores.{Stores}

-- another file would bring the box above its limit
abbrev pub is_full : Stores → Bool
is_full d = nat_le most_files (length d.files + d.nameless)
