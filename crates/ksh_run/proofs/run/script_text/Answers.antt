use Rattle.ksh_run.proofs.run.script_text.Goals as goal

pub returns-in-File-clause-text : goal.returns-in-File-clause-text
returns-in-File-clause-text g c = rw c.in-File.is c.read_script.ensures.text
