use Rattle.std.proofs.Common.{rules}
use Rattle.tree_parts.proofs.Naming.{bad_byte, named}
use Rattle.tree_parts.proofs.names.name_of.Goals as goal

pub returns-in-Ok : goal.returns-in-Ok
returns-in-Ok c = (c.in-Ok.ensures.ok.0, named c.args.bytes.now c.in-Ok.ensures.ok.1)

pub returns-in-Err-BadByte : goal.returns-in-Err-BadByte
returns-in-Err-BadByte c =
    bad_byte c.args.bytes.now c.in-Err-BadByte.field-0-0 ((c.read.ensures.bad c.in-Err-BadByte.field-0-0).0 (search rules)).0
    ((c.read.ensures.bad c.in-Err-BadByte.field-0-0).0 (search rules)).1
