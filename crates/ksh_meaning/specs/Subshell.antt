-- ( list ): the list runs in a shell of its own, which begins with a deep copy of the state, and is waited for.
use Rattle.std.specs.Prelude.{ℕ, List, [], ◌∷◌, codes, nat_le, if◌then◌else◌}
use Rattle.kernel_ask.specs.declared.ask.Ask.TheVariants.{Fork, Begin, WaitShell}
use Rattle.kernel_ask.specs.declared.ask.Answer.{Answer}
use Rattle.kernel_ask.specs.declared.ask.Answer.TheVariants.{Forked, Refused, Begun, ShellEnded}
use Rattle.kernel_ask.specs.declared.ask.Handle.{Handle}
use Rattle.kernel_ask.specs.declared.ask.Refusal.{Refusal}
use Rattle.kernel_ask.specs.declared.ask.Refusal.TheVariants.{Io}
use Rattle.ksh_script.specs.declared.tree.Item.{Item}
use Rattle.shell_state.specs.State.{forked_state}
use Rattle.shell_state.specs.declared.start.Start.{Start}
use Rattle.shell_state.specs.declared.state.ShellState.{ShellState}
use Rattle.shell_state.specs.declared.state.Flow.TheVariants.{Next}
use Rattle.ksh_meaning.specs.Prog.{Prog, and_then}
use Rattle.ksh_meaning.specs.Units.{End, ends, with_status, units, put, asked}
use Rattle.ksh_meaning.specs.Texts.{refused_words}
use Rattle.ksh_meaning.specs.Faults.{goes_on, tell, fail}

-- what a forked shell begins with
abbrev pub copy_of : List Item → ShellState → Start
copy_of list s = record { state = forked_state s; body = list }

-- the handles of the descriptors 0, 1 and 2, which every shell has
abbrev pub standard : List Handle
standard = record { 0 = 0 } ∷ record { 0 = 1 } ∷ record { 0 = 2 } ∷ []

-- the child has ended with this status
abbrev pub waited : ShellState × Answer → Prog End
waited (s, ShellEnded v) = ends (with_status s v) Next
waited (s, _) = ends (with_status s 1) Next

unfoldable pub wait : ℕ → ShellState → Prog End
wait k s = and_then (asked (WaitShell k) s) waited

-- without a thread the status is 254, and nothing is waited for
abbrev pub begun : ℕ → ShellState × Answer → Prog End
begun k (s, Begun) = wait k s
begun k (s, _) = ends (with_status s 254) Next

unfoldable pub begin : ℕ → ShellState → Prog End
begin k s = and_then (put (Begin k) s) (begun k)

-- a refused fork has its text and the status 1
unfoldable pub not_forked : ℕ → Refusal → ShellState → Prog End
not_forked line r s = and_then (tell line (refused_words (codes "fork") r) s) (goes_on (λ s. ends (with_status s 1) Next))

abbrev pub forked : ℕ → ShellState × Answer → Prog End
forked line (s, Forked k) = begin k s
forked line (s, Refused r) = not_forked line r s
forked line (s, _) = not_forked line Io s

unfoldable pub fork : ℕ → List Item → ShellState → Prog End
fork line list s = and_then (put (Fork (copy_of list s) standard) s) (forked line)

-- at level 64 no shell is forked, which is a fault
unfoldable pub subshell : ℕ → List Item → ShellState → Prog End
subshell line list s = if nat_le 64 s.level then fail line (codes "too deep") s else and_then (units 2 s) (fork line list)
