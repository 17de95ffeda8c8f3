-- One token in hand decides which rule of the grammar is read.
use Rattle.std.specs.Prelude.{◌≡◌, true}
use Rattle.std.proofs.Common.{refl}
use Rattle.ksh_grammar.specs.Rules.{are_bounded, are_picked}
use Rattle.ksh_syntax.specs.Takes.{takes, takes_in, same_mode}
use Rattle.ksh_syntax.specs.Rules.{rules, mode_of}
use Rattle.ksh_syntax.specs.Bounds.{starts, follows, follows_in, empty}
use Rattle.ksh_syntax.proofs.Everything.{kinds, modes, parts}
use Rattle.ksh_syntax.specs.Pick.{pick}

pub kinds_bounded : are_bounded takes starts follows empty kinds rules parts ≡ true
kinds_bounded = refl

pub modes_bounded : are_bounded takes_in (λ p m. same_mode (mode_of p) m) follows_in empty modes rules parts ≡ true
modes_bounded = refl

pub kinds_picked : are_picked takes starts follows empty kinds rules pick parts ≡ true
kinds_picked = refl
