use Rattle.std.proofs.Common.{length}
use Rattle.field.specs.Sums.{dot}
use Rattle.field.specs.Rows.{at}
use Rattle.field.proofs.Rows.{Filled}
use Rattle.spanning.specs.Views.{columns_of}
use Rattle.leading.proofs.vectors.project_row.Given as goal

abbrev pub invariant-loop-j : goal.invariant-loop-j
invariant-loop-j g l =
    let K = g.F.Field.field in let v = g.F.Field.value in
    Filled K v l.j (λ j. dot K (length l.row) (at K v l.row) (columns_of K v l.columns j)) l.initial.to l.to
