-- Shells and their handles.
use Rattle.std.specs.Prelude.{ℕ, ◌+◌}
use Rattle.kernel_objects.specs.Rows.{put_number}
use Rattle.kernel_objects.specs.declared.opened.Held.{Held}
use Rattle.kernel_objects.specs.declared.shell.Shell.{Shell}

-- the shell with one handle more
abbrev pub given : Shell → Held → Shell
given s held = record s { next = s.next + 1; handles = put_number s.next held s.handles }

-- the shell with one program more, of that status
abbrev pub with_program : Shell → ℕ → Shell
with_program s status = record s { started = s.started + 1; programs = put_number (s.started + 1) status s.programs }
