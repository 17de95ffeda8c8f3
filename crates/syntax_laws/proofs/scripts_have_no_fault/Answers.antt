use Rattle.syntax_laws.proofs.Exact.{not_both}
use Rattle.syntax_laws.proofs.Noted.{is_text}
use Rattle.syntax_laws.proofs.scripts_have_no_fault.Goals as goal

pub returns-clause-text : goal.returns-clause-text
returns-clause-text c = not_both

pub returns-clause-noted : goal.returns-clause-noted
returns-clause-noted c = λ text f s h. not_both text f (is_text text s.0 s.1) h

pub returns-clause-tree : goal.returns-clause-tree
returns-clause-tree c = λ text tree t. is_text text t.notes t.noted
