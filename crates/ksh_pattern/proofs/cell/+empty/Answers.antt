use Rattle.std.proofs.Common.{[], ap, sym, ◌∙◌}
use Rattle.ksh_pattern.specs.Match.{one_matches, has_empty}
use Rattle.ksh_pattern.proofs.Levels.{group_empty}
use Rattle.ksh_pattern.proofs.cell.+empty.Goals as goal

pub empty_part-returns-in-Group : goal.empty_part-returns-in-Group
empty_part-returns-in-Group t c =
    c.has_empty.ensures
    ∙ ap (has_empty c.in-Group.kind) (c.empty_some.ensures ∙ ap (λ a. one_matches a []) (c.as_slice.ensures ∙ c.get.ensures))
    ∙ sym (group_empty _ _ _ c.in-Group.is)
