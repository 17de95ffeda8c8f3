use Rattle.ksh_kinds.proofs.Spelling as proof
use Rattle.ksh_kinds.proofs.laws.no_fronts.Goals as goal

pub returns-clause-pattern : goal.returns-clause-pattern
returns-clause-pattern c = proof.no_fronts_pattern c.spells.ensures

pub returns-clause-condition : goal.returns-clause-condition
returns-clause-condition c = proof.no_fronts_condition c.spells.ensures
