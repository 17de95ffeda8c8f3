use Rattle.std.proofs.Common.{rules}
use Rattle.tree_build.proofs.Names.{named_first, named_nothing, named_other, named_quoted, named_unnamed}
use Rattle.tree_build.proofs.functions.named_function.Goals as goal

pub returns-in_default-pop-clause-none : goal.returns-in_default-pop-clause-none
returns-in_default-pop-clause-none c = λ e. named_first c.args.entries.now c.before_breaks.new.entries c.in-Some.named (search rules) (search rules) (search rules)

pub returns-in_default-last : goal.returns-in_default-last
returns-in_default-last c = record {
  named = tt;
  none = λ e. named_other c.args.entries.now c.before_breaks.new.entries c.pop.new.self c.in-Some.named c.in-Some-pop.last (search rules) (search rules) (search rules) (λ word at l. c.in_default-last.not-Word word at l);
}

pub returns-in_default-2-clause-none : goal.returns-in_default-2-clause-none
returns-in_default-2-clause-none c = λ e. named_nothing c.args.entries.now c.before_breaks.new.entries c.in-Some.named (search rules) (search rules) (search rules)

pub returns-in_default-literal_text-clause-none : goal.returns-in_default-literal_text-clause-none
returns-in_default-literal_text-clause-none c = λ e. named_quoted c.args.entries.now c.before_breaks.new.entries c.pop.new.self c.in-Some.named c.in-Some-pop.last c.in-Word.word c.in-Word.from (search rules) (search rules) (search rules) (search rules) (search rules)

pub returns-in_default-3-clause-none : goal.returns-in_default-3-clause-none
returns-in_default-3-clause-none c = λ e. named_unnamed c.args.entries.now c.before_breaks.new.entries c.in-Some.named c.in-Some-2.name (search rules) (search rules) (search rules) (search rules)
