use Rattle.word_expand.proofs.tests.declared.Given as goal

-- the ledger of the blank
abbrev pub ghosts-declare : goal.ghosts-declare
ghosts-declare a = record { name = a.blank.name; parts = a.blank.parts }
