use Rattle.std.proofs.Common.{rules}
use Rattle.tree_parts.proofs.Pieces.{behind_last}
use Rattle.tree_parts.proofs.literals.add_literal.Goals as goal

pub returns-in_ok-add_behind-in-Some : goal.returns-in_ok-add_behind-in-Some
returns-in_ok-add_behind-in-Some c =
    behind_last c.args.pieces.now c.pop.new.self c.add_behind.new.pieces c.in-Some.last c.args.bytes.now c.args.quoted (search rules) (search rules) (search rules)
