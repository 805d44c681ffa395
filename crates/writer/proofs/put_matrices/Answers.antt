use Rattle.std.proofs.Common.{◌+◌, ◌-◌, ◌*◌, ◌/◌, ◌%◌, ◌∷◌, ◌++◌, take, drop, ap, ◌∙◌, arith}
use Rattle.columns.specs.Lines.{line}
use Rattle.text.specs.Rows.{codes_of}
use Rattle.text.proofs.Joins.{rows_fit, part_length}
use Rattle.writer.proofs.Puts.{cut_codes, lines_next}
use Rattle.writer.proofs.put_matrices.Goals as goal

pub slice_bounds-row-end : goal.slice_bounds-row-end
slice_bounds-row-end g c = let h = rows_fit c.loop-j.j (c.args.shape.letters * c.args.shape.states) c.args.shape.states c.loop-j-test.true in omega (arith, c.requires.all)

pub loop-j-preserved : goal.loop-j-preserved
loop-j-preserved g c =
    let K = g.F.Field.field in
    let value = g.F.Field.value in
    let j = c.loop-j.j in
    let n = c.args.shape.states in
    let h = rows_fit j (c.args.shape.letters * n) (24 + 11 * n) c.loop-j-test.true in
    let a = part_length (j * (24 + 11 * n)) (24 + 11 * n) c.loop-j.out (omega (arith, c.requires.room)) in
    lines_next n j (24 + 11 * n) _ c.loop-j.out (codes_of K value c.args.elements.now) c.put_codes_line.new.out (omega (arith, c.requires.room)) (c.put_codes_line.auto.out ∙ a)
    (c.put_codes_line.ensures.written ∙ ap (λ hs. line 77 (hs ++ codes_of K value (take (j * n + n - j * n) (drop (j * n) c.args.elements.now)))) c.heads.ensures.numbered ∙ ap (λ l. line 77 ((j / n + 1) ∷ (j % n + 1) ∷ l)) (cut_codes K value (j * n + n - j * n) (j * n) c.args.elements.now)) c.loop-j.invariant
