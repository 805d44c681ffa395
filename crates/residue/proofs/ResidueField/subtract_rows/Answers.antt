use Rattle.std.proofs.Common.{ℕ, ◌≡◌, ◌+◌, ◌-◌, ◌*◌, length, get_or, ap, ap₂, ◌∙◌, sym, arith}
use Rattle.std.proofs.lemmas.List.{length-take-le}
use Rattle.std.proofs.lemmas.Nat.{mul-le}
use Rattle.field.specs.Below.{same_below}
use Rattle.field.specs.Rows.{at, square_at}
use Rattle.field.specs.Sums.{less_rows}
use Rattle.field.proofs.Rows.{at_read, at_part, less_rows_more}
use Rattle.residue.specs.Residues.{residues}
use Rattle.residue.specs.Sums.{value_of}
use Rattle.residue.proofs.Late.{zeros, up_to_start, at_number, stand_zero, stand_start, stand_less, stand_kept}
use Rattle.residue.proofs.ResidueField.subtract_rows.Goals as goal

pub loop-b-preserved : goal.loop-b-preserved
loop-b-preserved g c =
    let K = residues g.row.P g.bound-1.prime in
    let a = c.args in
    let n = length a.row.now in
    let count = length a.pivots.now in
    let ys = c.loop-b.row in
    let b = c.loop-b.b in
    let w = c.loop-b.invariant in
    let p : ℕ → ℕ = λ b. get_or a.pivots.now b 0 in
    let q = square_at K value_of a.rows.now 0 n in
    let room = mul-le (b + 1) n count n (omega arith) (omega arith) in
    let read = at_read K value_of ys (p b) c.index-row-pivot.result (omega (arith, w.len, c.requires.pivots_within b (omega arith))) c.index-row-pivot.is ∙ w.same (p b) (c.requires.pivots_within b (omega arith)) in
    let less = c.subtract_multiple.ensures.difference_written in
    record {
      len = less.len ∙ w.len;
      same = λ j l.
          less.same j (omega (arith, w.len))
          ∙ ap₂ (λ e f. K.plus e (K.opposite f)) (w.same j l)
          (ap₂ K.times read (at_part K value_of (b * n) (b * n + n) a.rows.now j (omega arith) ∙ ap (at K value_of a.rows.now) (omega arith)))
          ∙ ap (λ r. r j) (less_rows_more K b q p (at K value_of a.row.now));
    }

pub add_multiple-requires : goal.add_multiple-requires
add_multiple-requires g c =
    let n = length c.args.row.now in
    (omega arith, (sym (length-take-le n (zeros 32) (omega arith)), (omega arith, λ j. omega (arith, up_to_start n 32 j))))

pub loop-b-2-init : goal.loop-b-2-init
loop-b-2-init g c =
    let pr = g.bound-1.prime in let K = residues g.row.P pr in
    let n = length c.args.row.now in
    let u = up_to_start n 32 in
    record {
      stand = stand_start pr n (at K value_of c.args.row.now) _ _ (stand_zero pr n _ (length-take-le n (zeros 32) (omega arith)) u) c.add_multiple.ensures.multiple_added;
      small = λ j. omega (arith, c.add_multiple.ensures.grown_by_one_product 0 u j);
    }

pub loop-b-2-preserved : goal.loop-b-2-preserved
loop-b-2-preserved g c =
    let pr = g.bound-1.prime in let K = residues g.row.P pr in
    let a = c.args in
    let n = length a.row.now in
    let count = length a.pivots.now in
    let b = c.loop-b-2.b in
    let w = c.loop-b-2.invariant in
    let p : ℕ → ℕ = λ b. get_or a.pivots.now b 0 in
    let q = square_at K value_of a.rows.now 0 n in
    let x = at K value_of a.row.now in
    let room = mul-le (b + 1) n count n (omega arith) (omega arith) in
    let inside = c.requires.pivots_within b (omega arith) in
    let factor : value_of c.residue-factor.result ≡ less_rows K b q p x (p b) =
    c.residue-factor.ensures.is_residue ∙ at_number pr c.loop-b-2.sums (p b) (omega (arith, w.stand.len, inside)) ∙ w.stand.same (p b) inside in
    let more = c.add_multiple-in-loop-b-2.ensures.grown_by_one_product ((b + 1) * (65537 * 65537)) w.small in
    record {
      stand = stand_less pr n b (g.row.P - c.residue-factor.result.n) q p x _ c.loop-b-2.sums _ w.stand c.add_multiple-in-loop-b-2.ensures.multiple_added
          (ap K.opposite factor)
          (λ j l. at_part K value_of (b * n) (b * n + n) a.rows.now j (omega arith) ∙ ap (at K value_of a.rows.now) (omega arith));
      small = λ j. omega (arith, more j);
    }

pub loop-b-2-preserved-then-factor-eq0 : goal.loop-b-2-preserved-then-factor-eq0
loop-b-2-preserved-then-factor-eq0 g c =
    let pr = g.bound-1.prime in let K = residues g.row.P pr in
    let a = c.args in
    let n = length a.row.now in
    let b = c.loop-b-2.b in
    let w = c.loop-b-2.invariant in
    let p : ℕ → ℕ = λ b. get_or a.pivots.now b 0 in
    let q = square_at K value_of a.rows.now 0 n in
    let x = at K value_of a.row.now in
    let inside = c.requires.pivots_within b (omega arith) in
    let factor : value_of c.residue-factor.result ≡ less_rows K b q p x (p b) =
    c.residue-factor.ensures.is_residue ∙ at_number pr c.loop-b-2.sums (p b) (omega (arith, w.stand.len, inside)) ∙ w.stand.same (p b) inside in
    record {
      stand = stand_kept pr n b q p x c.loop-b-2.sums w.stand (sym factor ∙ same_below _ _ c.if-factor-eq0.true);
      small = λ j. omega (arith, w.small j);
    }
