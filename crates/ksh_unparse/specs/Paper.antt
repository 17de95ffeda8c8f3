-- The text that a paper has with the marks that follow.
use Rattle.std.specs.Prelude.{ℕ, List, reverse}
use Rattle.ksh_unparse.specs.Layout.{Mark, laid}
use Rattle.ksh_unparse.specs.declared.paper.Paper.{Paper}

-- the innermost text around it is the last
abbrev pub paper_text : Paper → List Mark → List ℕ
paper_text p marks = laid marks p.text p.awaited (reverse p.outer)
