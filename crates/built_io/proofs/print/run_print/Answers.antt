use Rattle.std.proofs.Common.{rules, ◌≡◌, ◌++◌}
use Rattle.ksh_meaning.specs.Print.{print, joined}
use Rattle.ksh_meaning.specs.Texts.{newline}
use Rattle.ksh_meaning.specs.Tasks.{no_memory}
use Rattle.built_io.proofs.print.run_print.Goals as goal

pub returns-in_default-clause-served : goal.returns-in_default-clause-served
returns-in_default-clause-served g c = no_memory

pub returns-then-is_err-clause-served : goal.returns-then-is_err-clause-served
returns-then-is_err-clause-served g c = no_memory

pub returns-clause-served : goal.returns-clause-served
unfolding print
returns-clause-served g c =
    let t : c.bytes.result.now ≡ joined c.args.words.now ++ newline = search rules in
    rw t at c.put_out.ensures.served
