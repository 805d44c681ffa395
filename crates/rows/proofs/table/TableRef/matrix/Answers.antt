use Rattle.std.proofs.Common.{◌+◌, ◌-◌, ◌*◌, refl, arith}
use Rattle.rows.proofs.Slices.{square_part}
use Rattle.rows.proofs.Layouts.{matrix_within}
use Rattle.rows.proofs.table.TableRef.matrix.Goals as goal

pub returns : goal.returns
returns g c =
    let t = c.args.self in
    let n = t.shape.states in
    let from = t.base + n + (c.args.letter - 1) * (n * n) in
    record { very_elements = refl; matrix_of_letter = square_part g.F.Field.field g.F.Field.value from (from + n * n) n _ t.memory.now refl (omega (arith, t.within, matrix_within c.args.letter t.shape.letters (n * n) (omega arith) (omega arith))) (λ i p j q. refl) }
