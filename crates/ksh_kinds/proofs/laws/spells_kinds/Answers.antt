use Rattle.ksh_kinds.proofs.Spelling as proof
use Rattle.ksh_kinds.proofs.laws.spells_kinds.Goals as goal

pub returns-clause-tokens : goal.returns-clause-tokens
returns-clause-tokens c = proof.spells_kinds c.spells.ensures

pub returns-clause-starts : goal.returns-clause-starts
returns-clause-starts c = proof.starts
