-- The root's variables.
use Rattle.std.proofs.Common.{◌≡◌, sym, ap, ℕ, List, [], ◌∷◌, Result, Ok, Err}
use Rattle.var_store.specs.Calls.{put_of}
use Rattle.shell_state.specs.Names.{Vars, named, holding}

abbrev ok_or : {A E : Type 0} → A → Result A E → A
ok_or a (Ok x) = x
ok_or a (Err e) = a

-- a text that is put where no row is makes one row
pub put_first : (name text : List ℕ) (vars : Vars) → put_of ([], 0) (named name) text ≡ Ok vars → vars ≡ ((named name, holding text) ∷ [], 0)
put_first name text vars h = sym (ap (ok_or vars) h)
