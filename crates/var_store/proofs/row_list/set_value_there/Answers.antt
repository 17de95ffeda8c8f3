use Rattle.var_store.proofs.Places.{set_found, rising_set}
use Rattle.var_store.proofs.row_list.set_value_there.Goals as goal

pub returns-clause-value : goal.returns-clause-value
returns-clause-value g c = λ p cell place h. set_found c.args.rows.now.items p c.args.at c.index_mut.result.now cell c.args.value place c.index_mut.ensures.value h

pub returns-clause-rising : goal.returns-clause-rising
returns-clause-rising g c = rising_set c.args.rows.now.items c.args.at c.index_mut.result.now _ c.requires.within c.index_mut.ensures.value c.requires.rising
