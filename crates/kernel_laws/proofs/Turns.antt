-- Each call leads from such a kernel to one.
use Rattle.std.proofs.Common.{◌≡◌, refl, sym, ap, ◌∙◌, ℕ, ◌+◌, ◌<◌, ◌||◌, ◌&&◌, Bool, true, false, List, [], ◌++◌, length, Option, Some, None, Result, Ok, Err, arith, is_none, true≢false, if◌then◌else◌, nat_le, nat_lt, ◌==◌, take, drop}
use Rattle.std.proofs.lemmas.Bool.Decides.{nat_tests}
use Rattle.kernel_ask.specs.declared.ask.Answer.TheVariants as answer
use Rattle.kernel_ask.specs.declared.ask.Handle.{Handle}
use Rattle.kernel_ask.specs.declared.ask.Mode.{Mode}
use Rattle.kernel_ask.specs.declared.ask.Mode.TheVariants as mode
use Rattle.kernel_ask.specs.declared.ask.Program.{Program}
use Rattle.kernel_ask.specs.declared.ask.Refusal.{Refusal}
use Rattle.kernel_ask.specs.declared.ask.Refusal.TheVariants.{BadHandle, Broken}
use Rattle.kernel_objects.specs.declared.files.Node.{Node}
use Rattle.kernel_objects.specs.declared.files.Node.TheVariants as node
use Rattle.kernel_objects.specs.declared.opened.Held.{Held}
use Rattle.kernel_objects.specs.declared.opened.Opened.{Opened}
use Rattle.kernel_objects.specs.declared.opened.Stream.{Stream}
use Rattle.kernel_objects.specs.declared.opened.Stream.TheVariants.{Input, Output, Errors, Null, File, Pipe, Scratch}
use Rattle.kernel_objects.specs.declared.shell.Forked.{Forked}
use Rattle.kernel_objects.specs.declared.shell.Shell.{Shell}
use Rattle.kernel_objects.specs.Paths.{node_at, prefix_refusal}
use Rattle.kernel_objects.specs.Rows.{at_name, at_number, drop_number, set_name}
use Rattle.kernel_objects.specs.Shells.{with_program}
use Rattle.kernel_core.specs.declared.kernel.Kernel.{Kernel}
use Rattle.kernel_core.specs.declared.kernel.Stores.{Stores}
use Rattle.kernel_core.specs.declared.programs.Run.{Run}
use Rattle.kernel_core.specs.Files.{is_full}
use Rattle.kernel_core.specs.Forks.{has_begun, lives, lives_in, poll_fork, poll_turn}
use Rattle.kernel_core.specs.Handles.{close_held, close_turn, dup_held, dup_turn, is_reading, is_writing, lacks_handles}
use Rattle.kernel_core.specs.Limits.{most_held, most_number}
use Rattle.kernel_core.specs.Look.{list_refusal, list_turn, stat_node, stat_turn}
use Rattle.kernel_core.specs.Open.{node_refusal, open_by, open_node, open_turn, pipe_by, pipe_turn, scratch_by, side_of, stream_of, too_many}
use Rattle.kernel_core.specs.Programs.{are_given, on_output, output_of, run_of, start_output, start_refusal, start_row, start_run, start_turn, wait_program_turn, wait_status}
use Rattle.kernel_core.specs.Transfer.{RowTurn, Says, Holds, Written, Wrote, Unwritten, by_held, by_row, file_written, held_for, on_row, read_file, read_stream, read_turn, gives, taken, scratch_written, write_bytes, write_file, write_node, write_stream, write_turn}
use Rattle.kernel_core.specs.Turn.{Turn, Answers, Waits, by_shell, unless}
use Rattle.kernel_laws.proofs.Moves.{close_sound, dup_sound, entered_one, entered_two, room_for}
use Rattle.kernel_laws.proofs.Sound.{Sound, SoundShell, same_handles, shell_sound, stream_changed}

abbrev pub Keeps : Turn → Type 0
Keeps (Answers a k) = Sound k.shells k.opens
Keeps Waits = Unit {0}

choice_keeps : (b : Bool) (x y : Turn) → (b ≡ true → Keeps x) → (b ≡ false → Keeps y) → Keeps (if b then x else y)
choice_keeps true x y h g = h refl
choice_keeps false x y h g = g refl

pub by_shell_keeps : (o : Option Shell) (f : Shell → Turn) → ((s : Shell) → o ≡ Some s → Keeps (f s)) → Keeps (by_shell o f)
by_shell_keeps None f h = tt
by_shell_keeps (Some s) f h = h s refl

pub room : (b : Bool) → too_many b ≡ None → b ≡ false
room true h = absurd cc
room false h = refl

first_false : (a b : Bool) → (a || b) ≡ false → a ≡ false
first_false true b h = absurd (true≢false h)
first_false false b h = refl

-- the handles for an open row stay as many
abbrev pub KeepsCounts : Opened → RowTurn → Type 0
KeepsCounts o (Says a o' d) = (o'.readers ≡ o.readers) × (o'.writers ≡ o.writers)
KeepsCounts o Holds = Unit {0}

row_choice : (o : Opened) (b : Bool) (x y : RowTurn) → KeepsCounts o x → KeepsCounts o y → KeepsCounts o (if b then x else y)
row_choice o true x y h g = h
row_choice o false x y h g = g

read_file_keeps : (n : Option Node) (path : List ℕ) (place : ℕ) (appends : Bool) (max : ℕ) (o : Opened) (d : Stores) → KeepsCounts o (read_file n path place appends max o d)
read_file_keeps None path place appends max o d = (refl, refl)
read_file_keeps (Some node.Folder) path place appends max o d = (refl, refl)
read_file_keeps (Some (node.File bytes writable)) path place appends max o d = (refl, refl)
read_file_keeps (Some (node.Program output status)) path place appends max o d = (refl, refl)
read_file_keeps (Some node.Null) path place appends max o d = (refl, refl)

read_keeps : (s : Stream) (max : ℕ) (o : Opened) (d : Stores) → KeepsCounts o (read_stream s max o d)
read_keeps (Input place) max o d = (refl, refl)
read_keeps Output max o d = (refl, refl)
read_keeps Errors max o d = (refl, refl)
read_keeps Null max o d = (refl, refl)
read_keeps (File path place appends) max o d = read_file_keeps (node_at d.files path) path place appends max o d
read_keeps (Pipe held) max o d = row_choice o (nat_le max (length held) || o.writers == 0) (gives (take max held) (Pipe (drop max held)) o d) Holds (refl, refl) tt
read_keeps (Scratch bytes read_at write_at) max o d = (refl, refl)

file_written_keeps : (path : List ℕ) (appends : Bool) (o : Opened) (d : Stores) (x : Written Node) → KeepsCounts o (file_written path appends o d x)
file_written_keeps path appends o d (Wrote n place) = (refl, refl)
file_written_keeps path appends o d (Unwritten why) = (refl, refl)

write_file_keeps : (n : Option Node) (path : List ℕ) (place : ℕ) (appends : Bool) (piece : List ℕ) (o : Opened) (d : Stores) → KeepsCounts o (write_file n path place appends piece o d)
write_file_keeps None path place appends piece o d = (refl, refl)
write_file_keeps (Some n) path place appends piece o d = file_written_keeps path appends o d (write_node appends place piece n)

scratch_keeps : (read_at : ℕ) (o : Opened) (d : Stores) (x : Written (List ℕ)) → KeepsCounts o (scratch_written read_at o d x)
scratch_keeps read_at o d (Wrote bytes place) = (refl, refl)
scratch_keeps read_at o d (Unwritten why) = (refl, refl)

write_keeps : (s : Stream) (piece : List ℕ) (o : Opened) (d : Stores) → KeepsCounts o (write_stream s piece o d)
write_keeps (Input place) piece o d = (refl, refl)
write_keeps Output piece o d = (refl, refl)
write_keeps Errors piece o d = (refl, refl)
write_keeps Null piece o d = (refl, refl)
write_keeps (File path place appends) piece o d = write_file_keeps (node_at d.files path) path place appends piece o d
write_keeps (Pipe held) piece o d =
    row_choice o (o.readers == 0) (Says (answer.Refused Broken) o d) (if nat_lt most_held (length held + length piece) then Holds else taken (Pipe (held ++ piece)) o d) (refl, refl)
    (row_choice o (nat_lt most_held (length held + length piece)) Holds (taken (Pipe (held ++ piece)) o d) tt (refl, refl))
write_keeps (Scratch bytes read_at write_at) piece o d = scratch_keeps read_at o d (write_bytes false write_at piece bytes)

-- a program is started only where its number isn't past the last
few_started : (s : Shell) (p : Program) → start_refusal s p ≡ None → s.started < 4294967295
few_started s p e = by (are_given s p) e
  where
    by : (b : Bool) → (if b then too_many (nat_le most_number s.started) else Some BadHandle) ≡ None → s.started < 4294967295
    by true e = let h : nat_le 4294967295 s.started ≡ false = room (nat_le most_number s.started) e in grind (arith, nat_tests)
    by false e = absurd cc

module _ (k : Kernel) (sound : Sound k.shells k.opens) where
  pub unless_keeps : (why : Option Refusal) (turn : Turn) → (why ≡ None → Keeps turn) → Keeps (unless k why turn)
  unless_keeps (Some why) turn h = sound
  unless_keeps None turn h = h refl

  on_row_keeps : (row : List ℕ) (o : Opened) (turn : RowTurn) → at_name row k.opens ≡ Some o → KeepsCounts o turn → Keeps (on_row k row turn)
  on_row_keeps row o (Says a o' d) there h = stream_changed k.shells k.opens row o o' sound there h.0 h.1
  on_row_keeps row o Holds there h = tt

  by_row_keeps : (row : List ℕ) (x : Option Opened) (f : Opened → RowTurn) → at_name row k.opens ≡ x → ((o : Opened) → KeepsCounts o (f o)) → Keeps (by_row k row x f)
  by_row_keeps row None f there h = sound
  by_row_keeps row (Some o) f there h = on_row_keeps row o (f o) there (h o)

  by_held_keeps : (x : Option Held) (f : Opened → RowTurn) → ((o : Opened) → KeepsCounts o (f o)) → Keeps (by_held k x f)
  by_held_keeps None f h = sound
  by_held_keeps (Some held) f h = by_row_keeps held.row (at_name held.row k.opens) f refl h

  stat_node_keeps : (n : Option Node) → Keeps (stat_node k n)
  stat_node_keeps None = sound
  stat_node_keeps (Some n) = sound

  pub stat_keeps : (who path : List ℕ) → Keeps (stat_turn k who path)
  stat_keeps who path = by_shell_keeps (at_name who k.shells) _ (λ s there. unless_keeps (prefix_refusal k.stores.files path) _ (λ e. stat_node_keeps (node_at k.stores.files path)))

  pub list_keeps : (who path : List ℕ) → Keeps (list_turn k who path)
  list_keeps who path = by_shell_keeps (at_name who k.shells) _ (λ s there. unless_keeps (list_refusal (prefix_refusal k.stores.files path) (node_at k.stores.files path)) _ (λ e. sound))

  poll_fork_keeps : (f : Option Forked) → Keeps (poll_fork k f)
  poll_fork_keeps None = sound
  poll_fork_keeps (Some f) = choice_keeps (has_begun f.phase) _ _ (λ e. sound) (λ e. sound)

  pub poll_keeps : (who : List ℕ) (child : ℕ) → Keeps (poll_turn k who child)
  poll_keeps who child = by_shell_keeps (at_name who k.shells) _ (λ s there. poll_fork_keeps (at_number child s.forks))

  pub read_turn_keeps : (who : List ℕ) (h : Handle) (max : ℕ) → Keeps (read_turn k who h max)
  read_turn_keeps who h max = by_shell_keeps (at_name who k.shells) _ (λ s there. by_held_keeps (held_for is_reading (at_number h.0 s.handles)) _ (λ o. read_keeps o.stream max o k.stores))

  pub write_turn_keeps : (who : List ℕ) (h : Handle) (piece : List ℕ) → Keeps (write_turn k who h piece)
  write_turn_keeps who h piece = by_shell_keeps (at_name who k.shells) _ (λ s there. by_held_keeps (held_for is_writing (at_number h.0 s.handles)) _ (λ o. write_keeps o.stream piece o k.stores))

  -- ---- what changes the shell

  module _ (who : List ℕ) (live : lives k who ≡ true) where
    lives_there : (s : Shell) → at_name who k.shells ≡ Some s → s.live ≡ true
    lives_there s there = sym (ap lives_in there) ∙ live

    pipe_by_keeps : (s : Shell) → at_name who k.shells ≡ Some s → Keeps (pipe_by k who s)
    pipe_by_keeps s there = unless_keeps (too_many (lacks_handles s 2)) _ (λ e. entered_two k.shells k.opens sound who s there (lives_there s there) (Pipe []) (room_for s 2 (room (lacks_handles s 2) e)))

    pub pipe_keeps : Keeps (pipe_turn k who)
    pipe_keeps = by_shell_keeps (at_name who k.shells) _ pipe_by_keeps

    scratch_by_keeps : (s : Shell) → at_name who k.shells ≡ Some s → Keeps (scratch_by k who s)
    scratch_by_keeps s there = unless_keeps (too_many (lacks_handles s 2 || is_full k.stores)) _ (λ e. entered_two k.shells k.opens sound who s there (lives_there s there) (Scratch [] 0 0)
        (room_for s 2 (first_false (lacks_handles s 2) (is_full k.stores) (room (lacks_handles s 2 || is_full k.stores) e))))

    open_node_keeps : (s : Shell) (path : List ℕ) (m : Mode) (n : Option Node) → at_name who k.shells ≡ Some s → Keeps (open_node k who s path m n)
    open_node_keeps s path m n there =
        unless_keeps (prefix_refusal k.stores.files path) _ (λ a.
        unless_keeps (node_refusal m n) _ (λ b.
        unless_keeps (too_many (lacks_handles s 1 || (is_none n && is_full k.stores))) _ (λ e.
        entered_one k.shells k.opens sound who s there (lives_there s there) (side_of m) (stream_of path m n)
        (room_for s 1 (first_false (lacks_handles s 1) (is_none n && is_full k.stores) (room (lacks_handles s 1 || (is_none n && is_full k.stores)) e))))))

    open_by_keeps : (s : Shell) (path : List ℕ) (m : Mode) → at_name who k.shells ≡ Some s → Keeps (open_by k who s path m)
    open_by_keeps s path mode.Read there = open_node_keeps s path mode.Read (node_at k.stores.files path) there
    open_by_keeps s path mode.Write there = open_node_keeps s path mode.Write (node_at k.stores.files path) there
    open_by_keeps s path mode.Append there = open_node_keeps s path mode.Append (node_at k.stores.files path) there
    open_by_keeps s path mode.ReadWrite there = open_node_keeps s path mode.ReadWrite (node_at k.stores.files path) there
    open_by_keeps s path mode.New there = open_node_keeps s path mode.New (node_at k.stores.files path) there
    open_by_keeps s path mode.Scratch there = scratch_by_keeps s there

    pub open_keeps : (path : List ℕ) (m : Mode) → Keeps (open_turn k who path m)
    open_keeps path m = by_shell_keeps (at_name who k.shells) _ (λ s there. open_by_keeps s path m there)

    dup_held_keeps : (s : Shell) (n : ℕ) (x : Option Held) → at_name who k.shells ≡ Some s → at_number n s.handles ≡ x → Keeps (dup_held k who s x)
    dup_held_keeps s n None there has = sound
    dup_held_keeps s n (Some held) there has =
        choice_keeps (lacks_handles s 1) _ _ (λ e. sound) (λ e. dup_sound k.shells k.opens sound who s there (lives_there s there) n held has (room_for s 1 e))

    pub dup_keeps : (h : Handle) → Keeps (dup_turn k who h)
    dup_keeps h = by_shell_keeps (at_name who k.shells) _ (λ s there. dup_held_keeps s h.0 (at_number h.0 s.handles) there refl)

    close_held_keeps : (s : Shell) (n : ℕ) (x : Option Held) → at_name who k.shells ≡ Some s → at_number n s.handles ≡ x → Keeps (close_held k who s n x)
    close_held_keeps s n None there has = sound
    close_held_keeps s n (Some held) there has = close_sound k.shells k.opens sound who s there (lives_there s there) n held has k.stores

    pub close_keeps : (h : Handle) → Keeps (close_turn k who h)
    close_keeps h = by_shell_keeps (at_name who k.shells) _ (λ s there. close_held_keeps s h.0 (at_number h.0 s.handles) there refl)

    -- ---- programs

    noted : (s : Shell) (status : ℕ) → at_name who k.shells ≡ Some s → s.started < 4294967295 → SoundShell (with_program s status)
    noted s status there low =
        let own = shell_sound k.shells who s sound.each there in
        record { handles_rise = own.handles_rise; handles_below = own.handles_below; next_low = own.next_low; held_few = own.held_few; started_low = omega arith; forks_below = own.forks_below; ended = own.ended }

    started : (s : Shell) (status : ℕ) → at_name who k.shells ≡ Some s → s.started < 4294967295 → Sound (set_name who (with_program s status) k.shells) k.opens
    started s status there low = same_handles k.shells k.opens sound who s (with_program s status) there (noted s status there low) refl refl (omega arith)

    taken_keeps : (s : Shell) (status : ℕ) (row : List ℕ) (o o' : Opened) → at_name who k.shells ≡ Some s → s.started < 4294967295 → at_name row k.opens ≡ Some o → o'.readers ≡ o.readers → o'.writers ≡ o.writers
        → Sound (set_name who (with_program s status) k.shells) (set_name row o' k.opens)
    taken_keeps s status row o o' there low is_open readers writers = stream_changed (set_name who (with_program s status) k.shells) k.opens row o o' (started s status there low) is_open readers writers

    on_output_keeps : (s : Shell) (status : ℕ) (row : List ℕ) (o : Opened) (turn : RowTurn) → at_name who k.shells ≡ Some s → s.started < 4294967295 → at_name row k.opens ≡ Some o → KeepsCounts o turn → Keeps (on_output k who s status row turn)
    on_output_keeps s status row o (Says answer.Taken o' d) there low is_open h = taken_keeps s status row o o' there low is_open h.0 h.1
    on_output_keeps s status row o (Says a o' d) there low is_open h = stream_changed k.shells k.opens row o o' sound is_open h.0 h.1
    on_output_keeps s status row o Holds there low is_open h = tt

    start_row_keeps : (s : Shell) (run : Run) (row : List ℕ) (x : Option Opened) → at_name who k.shells ≡ Some s → s.started < 4294967295 → at_name row k.opens ≡ x → Keeps (start_row k who s run row x)
    start_row_keeps s run row None there low is_open = sound
    start_row_keeps s run row (Some o) there low is_open = on_output_keeps s run.status row o (write_stream o.stream run.output o k.stores) there low is_open (write_keeps o.stream run.output o k.stores)

    start_output_keeps : (s : Shell) (run : Run) (x : Option Held) → at_name who k.shells ≡ Some s → s.started < 4294967295 → Keeps (start_output k who s run x)
    start_output_keeps s run None there low = started s run.status there low
    start_output_keeps s run (Some held) there low = start_row_keeps s run held.row (at_name held.row k.opens) there low refl

    start_run_keeps : (s : Shell) (p : Program) (x : Result Run Refusal) → at_name who k.shells ≡ Some s → Keeps (start_run k who s p x)
    start_run_keeps s p (Err why) there = sound
    start_run_keeps s p (Ok run) there = unless_keeps (start_refusal s p) _ (λ e. start_output_keeps s run (output_of s p.output) there (few_started s p e))

    pub start_keeps : (p : Program) → Keeps (start_turn k who p)
    start_keeps p = by_shell_keeps (at_name who k.shells) _ (λ s there. unless_keeps (prefix_refusal k.stores.files p.path) _ (λ e. start_run_keeps s p (run_of (node_at k.stores.files p.path)) there))

    wait_status_keeps : (s : Shell) (n : ℕ) (x : Option ℕ) → at_name who k.shells ≡ Some s → Keeps (wait_status k who s n x)
    wait_status_keeps s n None there = sound
    wait_status_keeps s n (Some status) there =
        let own = shell_sound k.shells who s sound.each there in
        same_handles k.shells k.opens sound who s (record s { programs = drop_number n s.programs }) there
        (record { handles_rise = own.handles_rise; handles_below = own.handles_below; next_low = own.next_low; held_few = own.held_few; started_low = own.started_low; forks_below = own.forks_below; ended = own.ended }) refl refl (omega arith)

    pub wait_program_keeps : (n : ℕ) → Keeps (wait_program_turn k who n)
    wait_program_keeps n = by_shell_keeps (at_name who k.shells) _ (λ s there. wait_status_keeps s n (at_number n s.programs) there)
