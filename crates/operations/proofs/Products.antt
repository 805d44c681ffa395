-- The products of two rows. Assumes nothing.
use Rattle.std.proofs.Common.{◌≡◌, ℕ, ◌*◌, ◌/◌, ◌%◌, List, length, ap, ap₂, ◌∙◌, arith}
use Rattle.field.specs.FiniteField.{FiniteField}
use Rattle.series.specs.Operations.{crossed}
use Rattle.field.specs.Rows.{at, RowOf}
use Rattle.rows.proofs.Layouts.{matrix_row}

pub products_of : {F V : Type 0} (K : FiniteField V) (v : F → V) {n m : ℕ} {x y : ℕ → V} {xs ys zs : List F} → RowOf K v n x xs → RowOf K v m y ys
    → RowOf K v (length xs * length ys) (crossed K (length ys) (at K v xs) (at K v ys)) zs → RowOf K v (n * m) (crossed K m x y) zs
products_of K v {n} {m} {x} {y} {xs} {ys} {zs} e f r =
    let size : length xs * length ys ≡ n * m = ap₂ (λ a b. a * b) e.len f.len in
    record {
      len = r.len ∙ size;
      same = λ p l.
          let at' = matrix_row n m p l in
          r.same p (omega arith)
          ∙ ap (λ q. K.times (at K v xs (p / q)) (at K v ys (p % q))) f.len
          ∙ ap₂ K.times (e.same (p / m) (omega (arith, at'.letter))) (f.same (p % m) at'.state);
    }
