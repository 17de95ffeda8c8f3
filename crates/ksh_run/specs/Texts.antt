-- The texts of what is refused before a script runs.
use Rattle.std.specs.Prelude.{ℕ, List, ◌++◌, codes, decimal}
use Rattle.ksh_base.specs.declared.words.UsageFault.{UsageFault}
use Rattle.ksh_lexer.specs.Faults.{kind_number, kind_name}
use Rattle.ksh_lexer.specs.declared.fault.SyntaxFault.{SyntaxFault}
use Rattle.ksh_meaning.specs.Texts.{newline}

abbrev pub usage_line : UsageFault → List ℕ
usage_line f = codes "kshtree: usage fault " ++ decimal f.kind ++ codes " at word " ++ decimal f.word ++ newline

abbrev pub source_line : List ℕ
source_line = codes "kshtree: cannot read the script" ++ newline

abbrev pub syntax_line : SyntaxFault → List ℕ
syntax_line f =
    codes "kshtree: syntax fault " ++ decimal (kind_number f.kind) ++ codes " at line " ++ decimal f.place.line ++ codes ", byte " ++ decimal f.place.byte ++ codes ": "
    ++ kind_name f.kind ++ newline
