use Rattle.std.proofs.Common.{rules, arith}
use Rattle.ksh_lexer.specs.declared.outer.Begins.TheVariants.{Digit, Brace, Start, Single, Ansi, Expand, Special, Group, Name, Member}
use Rattle.ksh_lexer.proofs.Present.{here, behind, digit_there, redirection_there}
use Rattle.ksh_lexer.proofs.lex.stands.Goals as goal

pub digit-requires-clause-digit : goal.digit-requires-clause-digit
digit-requires-clause-digit c = digit_there c.args.mode c.args.text.now c.args.from (search rules)

pub digit-requires-clause-order : goal.digit-requires-clause-order
digit-requires-clause-order c = behind _ _ _ _ c.args.begins Digit (search rules) (omega arith) c.requires.fits

pub digit-requires-clause-there : goal.digit-requires-clause-there
digit-requires-clause-there c = redirection_there c.args.mode c.args.text.now c.args.from (search rules)

pub brace-requires-clause-place : goal.brace-requires-clause-place
brace-requires-clause-place c = here _ _ _ _ c.args.begins Brace (search rules) (omega arith) c.requires.fits

pub word-requires : goal.word-requires
word-requires c = here _ _ _ _ c.args.begins Start (search rules) (omega arith) c.requires.fits

pub single-requires-clause-place : goal.single-requires-clause-place
single-requires-clause-place c = here _ _ _ _ c.args.begins Single (search rules) (omega arith) c.requires.fits

pub ansi-requires-clause-place : goal.ansi-requires-clause-place
ansi-requires-clause-place c = behind _ _ _ _ c.args.begins Ansi (search rules) (omega arith) c.requires.fits

pub expand-requires : goal.expand-requires
expand-requires c = behind _ _ _ _ c.args.begins Expand (search rules) (omega arith) c.requires.fits

pub special-requires : goal.special-requires
special-requires c = behind _ _ _ _ c.args.begins Special (search rules) (omega arith) c.requires.fits

pub group-requires-clause-from : goal.group-requires-clause-from
group-requires-clause-from c = here _ _ _ _ c.args.begins Group (search rules) (omega arith) c.requires.fits

pub group-requires-clause-open : goal.group-requires-clause-open
group-requires-clause-open c = behind _ _ _ _ c.args.begins Group (search rules) (omega arith) c.requires.fits

pub parameter_name-requires-clause-place : goal.parameter_name-requires-clause-place
parameter_name-requires-clause-place c = here _ _ _ _ c.args.begins Name (search rules) (omega arith) c.requires.fits

pub member-requires : goal.member-requires
member-requires c = behind _ _ _ _ c.args.begins Member (search rules) (omega arith) c.requires.fits
