-- A row that was put is found.
use Rattle.std.proofs.Common.{◌≡◌, ℕ, List}
use Rattle.std.specs.declared.option.Option.TheVariants.{Some}
use Rattle.std.specs.Cmp.Lexicographic.{slice_cmp, nat_list_cmp_total}
use Rattle.std.specs.Ordering.{nat_cmp}
use Rattle.kernel_objects.specs.Rows.{at_name, put_name}
use Rattle.kernel_tables.proofs.Undone.{put_found}

pub put_name_found : {X : Type 0} (name : List ℕ) (x : X) (rows : List (List ℕ × X)) → at_name name (put_name name x rows) ≡ Some x
put_name_found name x rows = put_found (slice_cmp nat_cmp) nat_list_cmp_total rows name x
