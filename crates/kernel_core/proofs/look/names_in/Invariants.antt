use Rattle.std.proofs.Common.{◌≡◌, ◌++◌}
use Rattle.std.specs.List.{filter_map}
use Rattle.kernel_core.specs.Look.{name_in, names_in}
use Rattle.kernel_core.proofs.look.names_in.Given as goal

-- the names so far, and those in the rows that are left
abbrev pub invariant-loop-path : goal.invariant-loop-path
invariant-loop-path l = l.names ++ filter_map (λ row. name_in l.front row.0) l.path-iterator ≡ names_in l.fn.files l.fn.folder
