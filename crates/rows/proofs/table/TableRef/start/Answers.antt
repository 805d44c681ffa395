use Rattle.std.proofs.Common.{◌+◌, refl, arith}
use Rattle.rows.proofs.Slices.{row_part}
use Rattle.rows.proofs.table.TableRef.start.Goals as goal

pub returns : goal.returns
returns g c =
    let t = c.args.self in
    record { very_elements = refl; start_row = row_part g.F.Field.field g.F.Field.value t.base (t.base + t.shape.states) t.shape.states _ t.memory.now refl (omega (arith, t.within)) (λ i l. refl) }
