use Rattle.std.proofs.Common.{◌+◌, ◌*◌, refl, arith}
use Rattle.rows.proofs.Slices.{row_part}
use Rattle.rows.proofs.table.TableRef.end.Goals as goal

pub returns : goal.returns
returns g c =
    let t = c.args.self in
    let n = t.shape.states in
    let from = t.base + n + t.shape.letters * (n * n) in
    record { very_elements = refl; end_column = row_part g.F.Field.field g.F.Field.value from (from + n) n _ t.memory.now refl (omega (arith, t.within)) (λ i l. refl) }
