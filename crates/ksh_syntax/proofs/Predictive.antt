-- One token in hand, with its mode, decides which rule is read.
use Rattle.std.specs.Prelude.{ℕ, Bool}
use Rattle.ksh_grammar.specs.Modes.{with_mode, by_kind}
use Rattle.ksh_grammar.specs.Predict.{IsPredictive}
use Rattle.ksh_grammar.specs.Rules.{IsRuleOf, chosen_by}
use Rattle.ksh_grammar.proofs.Checked.{bounds, predictive}
use Rattle.ksh_grammar.proofs.Modes.{predictive_both}
use Rattle.ksh_syntax.specs.Takes.{takes, takes_in, same_mode}
use Rattle.ksh_syntax.specs.Rules.{rules, mode_of}
use Rattle.ksh_syntax.specs.Pick.{pick}
use Rattle.ksh_syntax.specs.Bounds.{starts, follows, follows_in, empty}
use Rattle.ksh_syntax.proofs.Decides.{kinds_bounded, modes_bounded, kinds_picked}
use Rattle.ksh_syntax.proofs.Everything.{kinds, all_kinds, modes, all_modes, parts, all_parts}

pub one_token : (may : ℕ → Bool) → IsPredictive (with_mode takes_in takes) (with_mode (λ p m. same_mode (mode_of p) m) starts) (with_mode follows_in follows) empty (IsRuleOf rules may) (by_kind (chosen_by rules may pick))
one_token may =
    predictive_both takes_in takes (λ p m. same_mode (mode_of p) m) follows_in starts follows empty (IsRuleOf rules may) (chosen_by rules may pick)
    (λ p d rule r. (bounds takes_in (λ q m. same_mode (mode_of q) m) follows_in empty modes all_modes rules parts all_parts may modes_bounded p d rule r).begins)
    (λ p d rule r. (bounds takes_in (λ q m. same_mode (mode_of q) m) follows_in empty modes all_modes rules parts all_parts may modes_bounded p d rule r).fits)
    (predictive takes starts follows empty kinds all_kinds rules parts all_parts may pick kinds_bounded kinds_picked)
