use Rattle.ksh_unparse.proofs.Stack.{popped}
use Rattle.ksh_unparse.proofs.left.Left.pop.Goals as goal

pub returns : goal.returns
returns c = popped _ _ _ c.pop.ensures
