use Rattle.std.proofs.Common.{◌≡◌, ◌++◌, length, sym, ap, ◌∙◌, arith}
use Rattle.rows.specs.Layout.{table_at}
use Rattle.text.specs.Texts.{body_of}
use Rattle.text.proofs.Laid.{parts_laid}
use Rattle.text.proofs.Limits.{parts_fit}
use Rattle.writer.proofs.put_body.Goals as goal

pub returns : goal.returns
returns g c =
    let K = g.F.Field.field in
    let value = g.F.Field.value in
    let n = c.args.shape.states in
    let k = c.args.shape.letters in
    let xs = c.args.elements.now in
    let start = c.split_at.result.0.now in
    let rows = c.split_at-2.result.0.now in
    let end = c.split_at-2.result.1.now in
    let whole : xs ≡ start ++ (rows ++ end) = c.split_at.ensures.by_index.0 ∙ ap (λ l. start ++ l) c.split_at-2.ensures.by_index.0 in
    let last : length end ≡ n = omega (arith, c.split_at.ensures.back_len, c.split_at-2.ensures.back_len, parts_fit n k (length xs) c.requires.all) in
    record {
      written =
          (λ i. c.put_codes_line.ensures.written i ++ (c.put_matrices.ensures.written i ++ (c.put_codes_line-2.ensures.written i ++ c.put_codes_line-3.ensures.written i)))
          ∙ sym (parts_laid K value start rows end n k c.split_at.ensures.front_len c.split_at-2.ensures.front_len last)
          ∙ ap (λ l. body_of K (table_at K value l 0 n k)) (sym whole);
    }
