use Rattle.std.proofs.Common.{rules, ◌≡◌, sym, ◌∙◌}
use Rattle.std.specs.declared.option.Option.TheVariants.{None, Some}
use Rattle.std.specs.Map.{lookup, set_value, remove_entry, keys_of}
use Rattle.std.specs.List.Sorted.{IsStrictlySortedBy}
use Rattle.std.specs.BTreeMap.{is_at}
use Rattle.kernel_tables.proofs.Undone.{removed, restored, put_found}
use Rattle.kernel_tables.proofs.table.Table.undo_put.Goals as goal

pub returns-in-None : goal.returns-in-None
returns-in-None g c = λ rows value put had.
    let none : None ≡ lookup (is_at (g.K.Ord.cmp c.args.key.now)) rows = sym c.in-None.is ∙ had in
    let left : c.remove.new.self.entries ≡ remove_entry (is_at (g.K.Ord.cmp c.args.key.now)) c.args.self.now = search rules in
    let gone = removed g.K.Ord.cmp g.met.K.Ord.total rows c.args.key.now value none in
    search (rules, left, put, gone)

pub returns-in-Some-get_mut : goal.returns-in-Some-get_mut
returns-in-Some-get_mut g c = λ rows value put had.
    let some : Some c.in-Some.value ≡ lookup (is_at (g.K.Ord.cmp c.args.key.now)) rows = sym c.in-Some.is ∙ had in
    let left : (c.get_mut.follows.lender c.in-Some.value).entries ≡ set_value (is_at (g.K.Ord.cmp c.args.key.now)) c.args.self.now c.in-Some.value = search rules in
    let sorted : IsStrictlySortedBy g.K.Ord.cmp (keys_of c.args.self.now) = search (rules, c.get_mut.ensures.ordered) in
    left ∙ rw put (restored g.K.Ord.cmp rows c.args.key.now value c.in-Some.value some (rw put at sorted))

pub returns-in_default : goal.returns-in_default
returns-in_default g c = λ rows value put had.
    let found : lookup (is_at (g.K.Ord.cmp c.args.key.now)) c.args.self.now ≡ Some value = rw put (put_found g.K.Ord.cmp g.met.K.Ord.total rows c.args.key.now value) in
    let none : None ≡ lookup (is_at (g.K.Ord.cmp c.args.key.now)) c.args.self.now = search rules in
    absurd (let no : None ≡ Some value = none ∙ found in cc)
