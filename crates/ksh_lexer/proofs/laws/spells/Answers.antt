use Rattle.ksh_lexer.proofs.Spelling as proof
use Rattle.ksh_lexer.proofs.laws.spells.Goals as goal

pub returns : goal.returns
returns c = proof.spells
