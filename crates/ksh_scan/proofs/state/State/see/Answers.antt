use Rattle.std.proofs.Common.{rules}
use Rattle.ksh_scan.proofs.Sees.{sees_lexed, sees_refused}
use Rattle.ksh_scan.proofs.state.State.see.Goals as goal

pub returns-in-Err-clause-sees : goal.returns-in-Err-clause-sees
returns-in-Err-clause-sees c = sees_refused c.args.self.now c.args.mode c.lex_mode-lex_mode.result c.in-Err.fault c.next.new.self (search rules) (search rules) (search rules) (search rules)

pub returns-in-Ok-clause-sees : goal.returns-in-Ok-clause-sees
returns-in-Ok-clause-sees c = sees_lexed c.args.self.now c.args.mode c.lex_mode-lex_mode.result c.in-Ok.token c.next.new.self c.see_token.result c.see_token.new.self (search rules) (search rules) (search rules) (search rules)
