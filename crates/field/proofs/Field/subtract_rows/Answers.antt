use Rattle.std.proofs.Common.{ℕ, ◌+◌, ◌*◌, length, get_or, ap, ap₂, ◌∙◌, arith}
use Rattle.std.proofs.lemmas.Nat.{mul-le}
use Rattle.field.specs.Rows.{at, square_at}
use Rattle.field.specs.Sums.{less_rows}
use Rattle.field.proofs.Rows.{at_read, at_part, less_rows_more}
use Rattle.field.proofs.Field.subtract_rows.Goals as goal

pub loop-b-preserved : goal.loop-b-preserved
loop-b-preserved g c =
    let K = g.Self.Field.field in let v = g.Self.Field.value in
    let a = c.args in
    let n = length a.row.now in
    let count = length a.pivots.now in
    let ys = c.loop-b.row in
    let b = c.loop-b.b in
    let w = c.loop-b.invariant in
    let p : ℕ → ℕ = λ b. get_or a.pivots.now b 0 in
    let q = square_at K v a.rows.now 0 n in
    let x = less_rows K b q p (at K v a.row.now) in
    let room = mul-le (b + 1) n count n (omega arith) (omega arith) in
    let read = at_read K v ys (p b) c.index-row-pivot.result (omega (arith, w.len, c.requires.pivots_within b (omega arith))) c.index-row-pivot.is ∙ w.same (p b) (c.requires.pivots_within b (omega arith)) in
    let less = c.subtract_multiple.ensures.difference_written in
    record {
      len = less.len ∙ w.len;
      same = λ j l.
          less.same j (omega (arith, w.len))
          ∙ ap₂ (λ e f. K.plus e (K.opposite f)) (w.same j l)
          (ap₂ K.times read (at_part K v (b * n) (b * n + n) a.rows.now j (omega arith) ∙ ap (at K v a.rows.now) (omega arith)))
          ∙ ap (λ r. r j) (less_rows_more K b q p (at K v a.row.now));
    }
