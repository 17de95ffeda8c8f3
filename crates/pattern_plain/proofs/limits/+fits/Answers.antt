use Rattle.std.proofs.Common.{ap, sym, ◌∙◌}
use Rattle.std.specs.List.{list_all}
use Rattle.pattern_plain.specs.Limits.{fits, all_fit}
use Rattle.pattern_plain.proofs.Weights.{group_fits}
use Rattle.pattern_plain.proofs.limits.+fits.Goals as goal

pub fits-returns-in-Group : goal.fits-returns-in-Group
fits-returns-in-Group t c =
    c.some_fit.ensures ∙ ap (list_all all_fit) (c.as_slice.ensures ∙ c.get.ensures) ∙ sym (ap fits c.in-Group.is ∙ group_fits c.in-Group.field-0 c.in-Group.alternatives)
