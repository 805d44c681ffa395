use Rattle.std.proofs.Common.{◌≡◌, ℕ, ◌*◌, ◌++◌, length, drop, get_or, refl, ap, ◌∙◌, arith}
use Rattle.field.specs.Rows.{at, square_at}
use Rattle.field.proofs.Rows.{at_read}
use Rattle.rows.proofs.Splits.{at_front, at_back}
use Rattle.elimination.proofs.Remainders.{echelon_same, remainder_same, remainder_nothing, remainder_room, rows_before}
use Rattle.elimination.proofs.echelon.keep_row.Goals as goal

pub reduce_row-requires-clause-echelon_form : goal.reduce_row-requires-clause-echelon_form
reduce_row-requires-clause-echelon_form g c =
    let K = g.F.Field.field in let v = g.F.Field.value in
    let a = c.args in
    let n = length a.row.now in
    let split = c.split_at_mut-basis in
    rw c.copy_row.ensures.very_elements
    (echelon_same K n (length a.pivots.now) (square_at K v a.echelon.now 0 n) (square_at K v split.result.0.now 0 n) (λ b. get_or a.pivots.now b 0)
    (rows_before K v n (length a.pivots.now) a.echelon.now split.result.0.now split.result.1.now split.ensures.value split.ensures.front_len) c.requires.echelon_form)

pub reduce_row-requires-clause-ones_at_pivots : goal.reduce_row-requires-clause-ones_at_pivots
reduce_row-requires-clause-ones_at_pivots g c =
    let K = g.F.Field.field in let v = g.F.Field.value in
    let a = c.args in
    let n = length a.row.now in
    let split = c.split_at_mut-basis in
    rw c.copy_row.ensures.very_elements
    (λ b h.
    rows_before K v n (length a.pivots.now) a.echelon.now split.result.0.now split.result.1.now split.ensures.value split.ensures.front_len b h (get_or a.pivots.now b 0) (c.requires.echelon_form.within b h)
    ∙ c.requires.ones_at_pivots b h)

pub returns-in_err-pivot-clause-nothing_left_or_new_row : goal.returns-in_err-pivot-clause-nothing_left_or_new_row
returns-in_err-pivot-clause-nothing_left_or_new_row g c =
    let K = g.F.Field.field in let v = g.F.Field.value in
    let a = c.args in
    let n = length a.row.now in
    let p : ℕ → ℕ = λ b. get_or a.pivots.now b 0 in
    let split = c.split_at_mut-basis in
    let q = square_at K v a.echelon.now 0 n in
    let x = at K v a.row.now in
    let y = at K v c.reduce_row.new.row in
    let before = rows_before K v n (length a.pivots.now) a.echelon.now split.result.0.now split.result.1.now split.ensures.value split.ensures.front_len in
    let left = remainder_same K n (length a.pivots.now) q (square_at K v split.result.0.now 0 n) p x x y before (λ i l. refl) (rw c.copy_row.ensures.very_elements at c.reduce_row.ensures.remainder) in
    let kept : length c.reduce_row.new.row ≡ n = c.reduce_row.auto.row ∙ ap length c.copy_row.ensures.very_elements in
    rw c.from_residual.ensures
    (remainder_nothing K n (length a.pivots.now) q p x y left (λ i l. c.in_err-pivot.ensures.first_or_all_zero i (rw kept l)))

pub returns-clause-nothing_left_or_new_row : goal.returns-clause-nothing_left_or_new_row
returns-clause-nothing_left_or_new_row g c =
    let K = g.F.Field.field in let v = g.F.Field.value in
    let a = c.args in
    let n = length a.row.now in
    let p : ℕ → ℕ = λ b. get_or a.pivots.now b 0 in
    let split = c.split_at_mut-basis in
    let q = square_at K v a.echelon.now 0 n in
    let x = at K v a.row.now in
    let y = at K v c.reduce_row.new.row in
    let z = c.scale_row.new.row in
    let behind = drop n split.result.1.now in
    let before = rows_before K v n (length a.pivots.now) a.echelon.now split.result.0.now split.result.1.now split.ensures.value split.ensures.front_len in
    let left = remainder_same K n (length a.pivots.now) q (square_at K v split.result.0.now 0 n) p x x y before (λ i l. refl) (rw c.copy_row.ensures.very_elements at c.reduce_row.ensures.remainder) in
    let f = c.in_ok-pivot.ensures.first_or_all_zero in
    let within = f.within in
    let read = at_read K v c.reduce_row.new.row c.in_ok-pivot.pivot c.index-new-pivot.result (omega arith) c.index-new-pivot.is in
    let kept : length c.reduce_row.new.row ≡ n = c.reduce_row.auto.row ∙ ap length c.copy_row.ensures.very_elements in
    let scaled = c.scale_row.ensures.multiple_written in
    let long : length z ≡ n = scaled.len ∙ kept in
    record {
      rest = y;
      remainder = left;
      within = omega arith;
      apart = f.apart;
      scaled = λ j l.
          at_back K v split.result.0.now (z ++ behind) (length a.pivots.now * n) j split.ensures.front_len ∙ at_front K v z behind j (omega arith)
          ∙ scaled.same j (omega arith) ∙ ap (λ e. K.times e (y j)) (c.in_ok-factor.ensures.is_inverse_unless_zero.1 ∙ ap K.inverse read);
      room = remainder_room K n (length a.pivots.now) q p x y c.requires.echelon_form left c.in_ok-pivot.pivot (omega arith) f.apart;
    }
