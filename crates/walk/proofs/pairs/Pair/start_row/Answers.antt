use Rattle.std.proofs.Common.{[], ◌++◌, refl}
use Rattle.series.specs.Tables.{row}
use Rattle.walk.specs.Pairs.{left_table, right_table}
use Rattle.walk.proofs.PairRows.{beside_written}
use Rattle.walk.proofs.pairs.Pair.start_row.Goals as goal

pub returns : goal.returns
returns g c =
    let K = g.F.Field.field in let v = g.F.Field.value in
    let S = left_table K v c.args.self in
    let T = right_table K v c.args.self in
    rw (c.copy_from_slice.ensures.after, c.copy_from_slice-2.ensures.after)
    record {
      pair_row_of_empty_word =
          beside_written K v S.states T.states (row K S []) (row K T []) (c.start.result.now ++ c.start-2.result.now) c.start.result.now c.start-2.result.now refl
          c.start.ensures.start_row c.start-2.ensures.start_row;
    }
