use Rattle.std.proofs.Common.{rules, ◌≡◌, [], ◌∷◌, ◌++◌, subst, sym, ◌∙◌, ap, append_assoc}
use Rattle.std.specs.Cmp.{IsEquivalence}
use Rattle.std.specs.Cmp.Rules.{comparing}
use Rattle.std.specs.Map.Iter.{deref_pair}
use Rattle.std.proofs.lemmas.Map.Iter.{rest_more}
use Rattle.ksh_base.specs.Text.{same_numbers}
use Rattle.ksh_alias.proofs.Ends.{insert_last}
use Rattle.ksh_alias.specs.Rows.{IsEachOnce, with_value}
use Rattle.ksh_alias.proofs.aliases.AliasTable.fork.Goals as goal

-- src/aliases.rt:100:9
pub loop-name-preserved : goal.loop-name-preserved
loop-name-preserved c =
    let o : IsEquivalence same_numbers = search (comparing, rules) in
    let k = c.in-Some.name.now in
    let v = c.in-Some.value.now in
    let rest : c.loop-name.name-iterator ≡ (k, v) ∷ c.next.new.self = rest_more deref_pair _ _ _ _ c.in-Some.is c.next.ensures.steps in
    let whole : c.loop-name.copy ++ (k, v) ∷ c.next.new.self ≡ c.args.self.now = ap (λ l. c.loop-name.copy ++ l) (sym rest) ∙ c.loop-name.invariant in
    let once : IsEachOnce (c.loop-name.copy ++ (k, v) ∷ c.next.new.self) = subst IsEachOnce (sym whole) (let s : IsEachOnce c.args.self.now = search (rules, c.self.invariant) in s) in
    let last = insert_last same_numbers o c.loop-name.copy c.next.new.self k v once in
    let name : c.in_ok-copy.field-0 ≡ k = search rules in
    let value : c.in_ok-copy-2.field-0 ≡ v = search rules in
    let put : c.set.new.self ≡ with_value k v c.loop-name.copy = rw (name, value) at c.in_ok-set.ensures.ok in
    rw (put, last) (append_assoc c.loop-name.copy ((k, v) ∷ []) c.next.new.self ∙ whole)
