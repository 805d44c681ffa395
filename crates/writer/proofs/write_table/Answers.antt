use Rattle.std.proofs.Common.{◌≡◌, ◌+◌, ◌-◌, [], ◌∷◌, ◌++◌, length, ap, ◌∙◌, arith}
use Rattle.std.proofs.lemmas.List.{length-append, take_at}
use Rattle.rows.specs.Layout.{table_size, table_at}
use Rattle.columns.specs.Lines.{line}
use Rattle.text.specs.Texts.{body_of}
use Rattle.writer.proofs.Puts.{text_written}
use Rattle.writer.proofs.write_table.Goals as goal

pub returns-clause-written : goal.returns-clause-written
returns-clause-written g c =
    let K = g.F.Field.field in
    let v = g.F.Field.value in
    let t = c.args.table in
    let n = t.shape.states in
    let k = t.shape.letters in
    let p = c.put_table_line.new.out in
    let q = c.put_body.new.out in
    let long : length (p ++ q) ≡ c.text_size-size.result =
    omega (arith, length-append p q, c.put_table_line.auto.out, c.put_body.auto.out, c.split_at_mut-table_line.ensures.front_len, c.split_at_mut-table_line.ensures.back_len, c.split_at_mut-text.ensures.front_len) in
    take_at (p ++ q) _ _ long
    ∙ text_written K v t.memory.now t.base n k (t.base + table_size n k - t.base) p q (omega arith) t.within
    (c.put_table_line.ensures.written ∙ ap (λ z. line 84 (z.states ∷ z.letters ∷ K.q ∷ [])) c.shape-shape.ensures.told)
    (c.put_body.ensures.written ∙ ap (λ z. body_of K (table_at K v c.elements.result.now 0 z.states z.letters)) c.shape-shape.ensures.told ∙ ap (λ l. body_of K (table_at K v l 0 n k)) c.elements.ensures.very_elements)
