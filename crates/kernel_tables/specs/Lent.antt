-- What becomes of a table once a borrow of one of its values ends.
use Rattle.std.specs.Prelude.{List, Option}
use Rattle.std.specs.Borrow.{Fml, MutBor, LendsIf}
use Rattle.std.specs.declared.cmp.Ordering.{Ordering}
use Rattle.std.specs.Map.{set_value}
use Rattle.std.specs.BTreeMap.{is_at}
use Rattle.std.specs.BTreeMap.Lent.{OrdMembers}
use denote.RattleType.{RattleType}
use Rattle.kernel_tables.specs.contracts.table.Table.{the_row}

-- the row of a table
abbrev pub table_row : (K V : RattleType) → OrdMembers K.Denot → RattleType
table_row K V g = the_row K V (record { cmp = g.cmp }) (record { eq = g.eq }) (record { partial_cmp = g.partial_cmp })

-- the table behind t has, at the key that is found, the last value written through r, and is unchanged if r is `None`
abbrev pub lends_value : (K V : RattleType) (g : OrdMembers K.Denot) → MutBor (List (K.Denot × V.Denot)) → (K.Denot → Ordering) → Option (MutBor V.Denot) → Fml
lends_value K V g t compare r = LendsIf (table_row K V g) V t r (set_value (is_at compare) t.now) t.now
