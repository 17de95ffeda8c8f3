use Rattle.std.proofs.Common.{rules}
use Rattle.tree_build.proofs.Names.{names_not_other}
use Rattle.tree_build.proofs.functions.literal_text.Goals as goal

pub returns-in_default-last : goal.returns-in_default-last
returns-in_default-last c = record {
  text = tt;
  none = λ e is. names_not_other c.args.word c.pop.new.self c.in-Some.last is (search rules) (λ text quoted l. c.in_default-last.not-Literal text quoted l);
}
