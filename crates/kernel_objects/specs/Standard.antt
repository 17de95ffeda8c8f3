-- The usual box.
use Rattle.std.specs.Prelude.{ℕ, List, [], ◌∷◌, ◌++◌, None, codes}
use Rattle.kernel_objects.specs.declared.plan.BoxEntry.{BoxEntry}
use Rattle.kernel_objects.specs.declared.plan.BoxEntry.TheVariants.{Folder, Program, Null}
use Rattle.kernel_objects.specs.declared.plan.BoxPlan.{BoxPlan}

-- `hello` puts out its name and a newline; `fail` ends with 3
abbrev pub standard_entries : List (List ℕ × BoxEntry)
standard_entries =
    (codes "/", Folder) ∷ (codes "/bin", Folder) ∷ (codes "/dev", Folder) ∷ (codes "/tmp", Folder) ∷ (codes "/dev/null", Null)
    ∷ (codes "/bin/hello", Program (codes "hello" ++ 10 ∷ []) 0) ∷ (codes "/bin/fail", Program [] 3) ∷ []

abbrev pub standard_plan : BoxPlan
standard_plan = record { entries = standard_entries; input = []; refusals = []; patience = None }
