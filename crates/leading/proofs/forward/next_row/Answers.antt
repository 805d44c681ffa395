use Rattle.std.proofs.Common.{◌≡◌, ◌++◌, length, drop, take, sym, refl, ap, ◌∙◌, ◌+◌, ◌-◌, subst, arith}
use Rattle.std.proofs.lemmas.List.{length-append}
use Rattle.field.specs.Sums.{dot, move}
use Rattle.field.specs.Rows.{at, row_at, square_at, RowOf}
use Rattle.rows.specs.Memory.{Written}
use Rattle.field.proofs.Rows.{dot_same}
use Rattle.rows.proofs.Parts.{row_product, row_before, written_behind}
use Rattle.spanning.specs.Places.{vector_at}
use Rattle.spanning.specs.Views.{columns_of}
use Rattle.leading.specs.Forward.{viewed}
use Rattle.leading.proofs.forward.next_row.Goals as goal

pub returns : goal.returns
returns g c =
    let K = g.F.Field.field in let v = g.F.Field.value in
    let a = c.args in
    let view = a.view.now in
    let T = viewed K v view in
    let n = view.table.shape.states in
    let rs = a.rows.now in
    let split = c.split_at_mut-found in
    let front = split.result.0.now in
    let back = split.result.1.now in
    let next = c.row_times_matrix.new.to in
    let x = row_at K v rs (vector_at a.i) in
    let told = c.states-n.ensures.told in
    let short = view.table.shape.few_states in
    let long : length front ≡ vector_at a.count = split.ensures.front_len in
    let product = subst (λ m. let r = take (vector_at a.i + m - vector_at a.i) (drop (vector_at a.i) front) in RowOf K v (length r) (move K (length r) (square_at K v c.matrix.result.now 0 (length r)) (at K v r)) next) told c.row_times_matrix.ensures.product_written in
    let made : RowOf K v n (move K n (T.step a.letter) x) next = row_product K v c.matrix.ensures.matrix_of_letter (row_before K v (vector_at a.count) n front back split.ensures.value long (vector_at a.i) (omega arith) (λ j l. refl)) product in
    let len = ap length split.ensures.value ∙ length-append front back in
    let w : Written K v (vector_at a.count) n (move K n (T.step a.letter) x) rs (front ++ (next ++ drop c.states-n.result back)) =
    subst (λ m. Written K v (vector_at a.count) n (move K n (T.step a.letter) x) rs (front ++ (next ++ drop m back))) (sym told) (written_behind K v (vector_at a.count) n front back split.ensures.value long next (omega arith) made) in
    record {
      row_written = w;
      products_written = λ j l. subst (λ m. at K v c.see_row.new.seen j ≡ dot K m (at K v next) (columns_of K v view.columns.now j)) made.len (c.see_row.ensures.products_written j l) ∙ dot_same K n (λ i h. made.same i h ∙ sym (w.done i h)) (λ i h. refl);
      no_coefficients = c.see_row.ensures.no_coefficients;
    }
