use Rattle.std.proofs.Common.{rules, ◌≡◌, ◌+◌, ◌∷◌, drop, get_or, sym, ◌∙◌, ap}
use Rattle.std.proofs.lemmas.List.{drop_more}
use Rattle.tree_parts.proofs.Members.{stopped}
use Rattle.tree_parts.proofs.values.are_members.Goals as goal

pub returns-in-None : goal.returns-in-None
returns-in-None c =
    let rest = drop (c.loop-entry.entry-index + 1) c.args.entries.now in
    let entry : get_or c.args.entries.now c.loop-entry.entry-index c.entry-item.result ≡ c.entry-item.result = search rules in
    let front = drop_more c.args.entries.now c.loop-entry.entry-index c.entry-item.result c.loop-entry-test.true ∙ ap (λ e. e ∷ rest) entry in
    stopped _ _ rest (drop c.loop-entry.entry-index c.args.entries.now) c.args.entries.now (sym c.open_behind.ensures ∙ c.in-None.is) front c.loop-entry.invariant
