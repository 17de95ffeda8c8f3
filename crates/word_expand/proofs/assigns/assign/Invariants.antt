use Rattle.std.proofs.Common.{◌≡◌, drop}
use Rattle.ksh_meaning.specs.Assign.{assigned}
use Rattle.word_expand.proofs.assigns.assign.Given as goal

-- the assignments that are left do the rest
abbrev pub invariant-loop-one : goal.invariant-loop-one
invariant-loop-one l = record {
  rest : assigned (drop l.one-index l.fn.assigns) l.state ≡ assigned l.fn.assigns l.fn.state;
  level : l.state.level ≡ l.fn.state.level;
  budget : l.state.budget ≡ l.fn.state.budget;
}
