-- Each rule of the grammar does to the tags on top what its part does.
use Rattle.std.specs.Prelude.{◌≡◌, true}
use Rattle.std.proofs.Common.{refl}
use Rattle.std.specs.List.{list_all}
use Rattle.ksh_syntax.proofs.Everything.{parts}
use Rattle.tree_moves.proofs.Follows.{is_followed}

pub all_followed : list_all is_followed parts ≡ true
all_followed = refl
