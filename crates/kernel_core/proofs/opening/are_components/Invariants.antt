use Rattle.std.proofs.Common.{◌≡◌, drop, []}
use Rattle.std.specs.List.{list_all}
use Rattle.kernel_core.specs.Opening.{components_from, is_component}
use Rattle.kernel_core.proofs.opening.are_components.Given as goal

-- what is left decides as the whole
abbrev pub invariant-loop-byte : goal.invariant-loop-byte
invariant-loop-byte l = list_all is_component (components_from l.front (drop l.byte-index l.bytes)) ≡ list_all is_component (components_from [] l.fn.bytes)
