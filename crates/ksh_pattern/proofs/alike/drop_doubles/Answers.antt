use Rattle.std.proofs.Common.{rules, refl, ap, sym, ◌∙◌, ◌≡◌, ◌-◌, ◌<◌, length, get_or}
use Rattle.std.specs.Global.{Vec}
use Rattle.ksh_pattern.specs.Cells.{rest_some}
use Rattle.ksh_pattern.specs.declared.cell.Cell.{Cell}
use Rattle.ksh_pattern.proofs.Doubles.{copy_dropped}
use Rattle.ksh_pattern.proofs.alike.drop_doubles.Goals as goal

pub loop-at-preserved-then-same_some : goal.loop-at-preserved-then-same_some
loop-at-preserved-then-same_some c =
    let a : Vec (Vec Cell) = c.index.result.now in
    let b : Vec (Vec Cell) = c.index-in-loop-at.result.now in
    let l : c.loop-at.at < length c.loop-at.copies.items = search rules in
    let ea : a ≡ get_or c.loop-at.copies.items (c.loop-at.at - 1) a = search rules in
    let eb : b ≡ get_or c.loop-at.copies.items c.loop-at.at b = search rules in
    record {
      begun = c.loop-at.invariant.begun;
      same = λ w.
          copy_dropped c.loop-at.copies.items c.remove.new.self.items c.loop-at.at a b w c.loop-at.invariant.begun l ea eb c.remove.ensures.items
          (ap (λ cs. rest_some cs w) (sym c.deref.ensures.value) ∙ c.if-same_some.ensures.rest refl w ∙ ap (λ cs. rest_some cs w) c.deref-in-loop-at.ensures.value)
          ∙ c.loop-at.invariant.same w;
    }
