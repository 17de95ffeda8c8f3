use Rattle.std.proofs.Common.{◌≡◌, take}
use Rattle.os_world.specs.Words.{IfTold}
use Rattle.os_world.proofs.words.program_words.Given as goal

-- the words up to this place
abbrev pub invariant-loop-place : goal.invariant-loop-place
invariant-loop-place g l = IfTold (g.G.ProgramWords.told l.given) (λ told. l.words ≡ take l.place told)
