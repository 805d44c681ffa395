use Rattle.std.proofs.Common.{◌≡◌, ◌≤◌, ◌++◌, length, drop, ◌∙◌, ap₂, arith}
use Rattle.std.proofs.lemmas.List.{length-take-le, length-append}
use Rattle.rows.specs.Layout.{table_size}
use Rattle.rows.specs.Seen.{table_of}
use Rattle.reduction.specs.Result.{form_of}
use Rattle.reduction.proofs.Forms.{table_front}
use Rattle.reduction.proofs.ReducedTables.{reduced_written}
use Rattle.reduction.proofs.reduce_into.Goals as goal

pub returns-clause-reduced_form : goal.returns-clause-reduced_form
returns-clause-reduced_form g c = λ behind.
    let K = g.F.Field.field in let v = g.F.Field.value in
    let a = c.args in
    let T = table_of K v a.table in
    let n = c.leading_words-found.result in
    let rs = c.leading_words-found.new.rows in
    let ks = c.leading_words-found.new.coefficients in
    let xs = c.write_form.new.form in
    let rest = drop c.size.result a.form.now in
    let size = c.size.result in
    let len : length xs ≡ size = c.write_form.auto.form ∙ length-take-le size a.form.now (omega arith) in
    let sized : size ≡ table_size n T.letters = c.size.ensures.is_table_size ∙ ap₂ table_size c.new-shape.ensures.of_states (c.new-shape.ensures.of_letters ∙ c.letters.ensures.told) in
    let whole : table_size n T.letters ≤ length xs = omega (arith, len, sized) in
    reduced_written K v _ n 0 rs ks (xs ++ rest ++ behind) c.leading_words-found.ensures.finished
    (table_front K v n T.letters (form_of K v T n rs ks) (xs ++ rest) behind (omega (arith, whole, length-append xs rest)) (table_front K v n T.letters (form_of K v T n rs ks) xs rest whole (rw (c.new-shape.ensures.of_states) at c.write_form.ensures.form_written)))
