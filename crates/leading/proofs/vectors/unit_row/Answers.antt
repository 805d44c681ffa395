use Rattle.std.proofs.Common.{◌≡◌, sym, ap, ◌∙◌, arith}
use Rattle.field.proofs.Rows.{filled_more}
use Rattle.leading.specs.Units.{unit}
use Rattle.leading.proofs.UnitRows.{unit_here, unit_other}
use Rattle.leading.proofs.vectors.unit_row.Goals as goal
use Rattle.leading.proofs.vectors.unit_row.Goals.{then-j-place, else-j-place}

pub loop-j-preserved : goal.loop-j-preserved
loop-j-preserved g c =
    let K = g.F.Field.field in let v = g.F.Field.value in
    let j = c.loop-j.j in
    let place = c.args.place in
    let is : v c.if-j-place.x ≡ unit K place j =
    elim c.if-j-place.branch [
      | then-j-place w ↦ ap v w.x-is ∙ w.one.ensures.is_one ∙ sym (ap (unit K place) {x = j} {y = place} (omega arith) ∙ unit_here K place)
      | else-j-place w ↦ ap v w.x-is ∙ w.zero.ensures.is_zero ∙ sym (unit_other K place j (omega arith))
    ] in
    filled_more K v c.if-j-place.x c.loop-j.invariant (omega arith) is
