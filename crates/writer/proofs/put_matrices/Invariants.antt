use Rattle.std.proofs.Common.{◌≡◌, ◌+◌, ◌*◌, take}
use Rattle.text.specs.Rows.{codes_of, row_lines}
use Rattle.writer.proofs.put_matrices.Given as goal

abbrev pub invariant-loop-j : goal.invariant-loop-j
invariant-loop-j g l = take (l.j * (24 + 11 * l.shape.states)) l.out ≡ row_lines l.shape.states (codes_of g.F.Field.field g.F.Field.value l.elements) l.j
