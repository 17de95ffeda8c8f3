use Rattle.std.proofs.Common.{◌≡◌, ◌||◌, drop, []}
use Rattle.std.specs.List.{list_any}
use Rattle.std.specs.Option.{is_none}
use Rattle.kernel_objects.specs.Paths.{prefixes_from, is_no_folder, node_at}
use Rattle.kernel_objects.proofs.files.refused_before.Given as goal

-- what is left to be looked at, and what was found missing, decide as the whole
abbrev pub invariant-loop-byte : goal.invariant-loop-byte
invariant-loop-byte l = record {
  folders : list_any (λ p. is_no_folder (node_at l.files p)) (prefixes_from l.front (drop l.byte-index l.byte-items)) ≡ list_any (λ p. is_no_folder (node_at l.files p)) (prefixes_from [] l.fn.path);
  missing : (l.missing || list_any (λ p. is_none (node_at l.files p)) (prefixes_from l.front (drop l.byte-index l.byte-items))) ≡ list_any (λ p. is_none (node_at l.files p)) (prefixes_from [] l.fn.path);
}
