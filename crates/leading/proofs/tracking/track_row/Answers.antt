use Rattle.std.proofs.Common.{◌≡◌, ℕ, ◌+◌, ◌<◌, ◌≢◌, length, take, get_or, set, sym, ap, ◌∙◌, subst, arith}
use Rattle.std.proofs.lemmas.List.{length-take-le}
use Rattle.field.specs.Rows.{at, square_at}
use Rattle.field.proofs.Rows.{at_read, at_set_same, at_set_other}
use Rattle.rows.proofs.Parts.{at_first}
use Rattle.elimination.specs.Elimination.{Remainder}
use Rattle.leading.proofs.TrackedRows.{combination, new_room, new_tracked}
use Rattle.leading.proofs.tracking.track_row.Goals as goal

pub returns-in_err-pivot : goal.returns-in_err-pivot
returns-in_err-pivot g c =
    let K = g.F.Field.field in let v = g.F.Field.value in
    let a = c.args in
    let p : ℕ → ℕ = λ b. get_or a.pivots.now b 0 in
    let count = length a.pivots.now in
    let q = square_at K v a.tracked.now 0 32 in
    let ys = c.reduce_row.new.row in
    let left = subst (λ m. Remainder K m count (square_at K v a.tracked.now 0 m) p (at K v a.row.now) (at K v ys)) c.requires.wide c.reduce_row.ensures.remainder in
    let few : length (take a.d ys) ≡ a.d = length-take-le a.d ys (omega arith) in
    rw c.from_residual.ensures
    record {
      combination_or_new_row = λ ps t. combination K a.d count ps q p (omega arith) (omega arith) t (at K v a.row.now) (at K v ys) left c.requires.no_coefficients (λ i l. sym (at_first K v a.d ys i l) ∙ c.in_err-pivot.ensures.first_or_all_zero i (omega arith));
      pivot_and_room = omega arith;
    }

pub returns-in_err-factor : goal.returns-in_err-factor
returns-in_err-factor g c =
    let K = g.F.Field.field in let v = g.F.Field.value in
    let ys = c.reduce_row.new.row in
    let f = c.in_ok-pivot.ensures.first_or_all_zero in
    let few : length (take c.args.d ys) ≡ c.args.d = length-take-le c.args.d ys (omega arith) in
    let within = f.within in
    let read = at_read K v ys _ c.index-row-pivot.result (omega arith) c.index-row-pivot.is in
    absurd (f.apart (at_first K v c.args.d ys c.in_ok-pivot.pivot (omega arith) ∙ sym read ∙ c.in_err-factor.ensures.is_inverse_unless_zero))

pub bounds-row-pivots : goal.bounds-row-pivots
bounds-row-pivots g c =
    let K = g.F.Field.field in let v = g.F.Field.value in
    let a = c.args in
    let p : ℕ → ℕ = λ b. get_or a.pivots.now b 0 in
    let count = length a.pivots.now in
    let q = square_at K v a.tracked.now 0 32 in
    let ys = c.reduce_row.new.row in
    let b = c.in_ok-pivot.pivot in
    let f = c.in_ok-pivot.ensures.first_or_all_zero in
    let few : length (take a.d ys) ≡ a.d = length-take-le a.d ys (omega arith) in
    let within = f.within in
    let left = subst (λ m. Remainder K m count (square_at K v a.tracked.now 0 m) p (at K v a.row.now) (at K v ys)) c.requires.wide c.reduce_row.ensures.remainder in
    let room = new_room K a.d count q p (at K v a.row.now) (at K v ys) (omega arith) c.requires.echelon left b (omega arith) (λ e. f.apart (at_first K v a.d ys b (omega arith) ∙ e)) in
    omega arith

pub returns : goal.returns
returns g c =
    let K = g.F.Field.field in let v = g.F.Field.value in
    let a = c.args in
    let p : ℕ → ℕ = λ b. get_or a.pivots.now b 0 in
    let count = length a.pivots.now in
    let q = square_at K v a.tracked.now 0 32 in
    let x = at K v a.row.now in
    let ys = c.reduce_row.new.row in
    let zs = c.scale_row.new.row in
    let y = at K v ys in
    let f = c.in_ok-pivot.ensures.first_or_all_zero in
    let b = c.in_ok-pivot.pivot in
    let few : length (take a.d ys) ≡ a.d = length-take-le a.d ys (omega arith) in
    let within = f.within in
    let inside : b < a.d = omega arith in
    let apart : y b ≢ K.zero = λ e. f.apart (at_first K v a.d ys b inside ∙ e) in
    let factor = c.in_ok-factor.factor in
    let left = subst (λ m. Remainder K m count (square_at K v a.tracked.now 0 m) p x y) c.requires.wide c.reduce_row.ensures.remainder in
    let room = new_room K a.d count q p x y (omega arith) c.requires.echelon left b inside apart in
    let read = at_read K v ys b c.index-row-pivot.result (omega arith) c.index-row-pivot.is in
    let is : v factor ≡ K.inverse (y b) = c.in_ok-factor.ensures.is_inverse_unless_zero.1 ∙ ap K.inverse read in
    let scaled = c.scale_row.ensures.multiple_written in
    let place = 16 + count in
    let z = at K v (set zs place factor) in
    let kept : (j : ℕ) → j < 32 → j ≢ place → z j ≡ K.times (K.inverse (y b)) (y j) = λ j l u. at_set_other K v zs place j factor u ∙ scaled.same j (omega arith) ∙ ap (λ e. K.times e (y j)) is in
    record {
      combination_or_new_row = λ ps t.
          new_tracked K a.d count ps q p (omega arith) (omega arith) t x y left c.requires.no_coefficients b z c.requires.echelon inside apart
          (λ j l. kept j (omega arith) (omega arith)) (λ j l u. kept (16 + j) (omega arith) (omega arith)) (at_set_same K v zs place factor (omega arith) ∙ is);
      pivot_and_room = (inside, room);
    }
