use Rattle.std.proofs.Common.{rules}
use Rattle.ksh_unparse.proofs.Levels.{value_pairs}
use Rattle.ksh_unparse.proofs.assigns.put_value.Goals as goal

pub returns-in_ok-put_pairs_between-in-Pairs : goal.returns-in_ok-put_pairs_between-in-Pairs
returns-in_ok-put_pairs_between-in-Pairs c = search (rules, value_pairs)
