use Rattle.std.proofs.Common.{◌++◌}
use Rattle.rows.specs.Layout.{table_at}
use Rattle.rows.specs.Seen.{table_of}
use Rattle.reduction.proofs.ReducedTables.{reduced_weighs, reduced_smallest, reduced_none}
use Rattle.reduction.proofs.reduce.Goals as goal

pub returns : goal.returns
returns g c =
    let K = g.F.Field.field in let v = g.F.Field.value in
    let T = table_of K v c.args.table in
    let ys = c.reduce_into.new.rest in
    let R = table_at K v (c.reduce_into.new.form ++ ys) 0 c.reduce_into.result T.letters in
    let reduced = c.reduce_into.ensures.reduced_form ys in
    record {
      reduced_form = reduced;
      no_more_states = c.reduce_into.ensures.no_more_states;
      same_weights = reduced_weighs K T R reduced;
      least = reduced_smallest K T R reduced;
      no_states_for_zero = reduced_none K T R reduced;
    }
