use Rattle.shell_state.proofs.variables.put_text.Given as goal

-- the ledger of the blank
abbrev pub ghosts-put_counted : goal.ghosts-put_counted
ghosts-put_counted a = record { name = a.blank.name; parts = a.blank.parts }
