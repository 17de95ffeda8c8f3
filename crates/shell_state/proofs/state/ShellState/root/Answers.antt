use Rattle.std.proofs.Common.{◌≡◌, refl, [], codes, rules, Ok}
use Rattle.var_store.specs.Calls.{put_of}
use Rattle.shell_state.specs.Names.{named}
use Rattle.shell_state.proofs.Root.{put_first}
use Rattle.shell_state.proofs.state.ShellState.root.Goals as goal

pub returns : goal.returns
returns c =
    let made : c.in_ok-vars.vars ≡ ([], 0) = c.in_ok-vars.ensures in
    let name : c.in_ok-name.name ≡ codes "OPTIND" = search rules in
    let path : c.in_ok-path.path ≡ named (codes "OPTIND") = rw name at c.in_ok-path.ensures in
    let put : put_of c.in_ok-vars.vars c.in_ok-path.path (codes "1") ≡ Ok c.put_text.new.vars = c.in-Ok.ensures in
    let budget : c.new-2.result ≡ c.args.budget = search rules in
    rw (put_first (codes "OPTIND") (codes "1") c.put_text.new.vars (rw (made, path) at put), budget) refl
