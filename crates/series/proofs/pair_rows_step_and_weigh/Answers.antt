use Rattle.series.proofs.PairRows.{pair_push, left_weighs, right_weighs}
use Rattle.series.proofs.pair_rows_step_and_weigh.Goals as goal

pub returns : goal.returns
returns g c = let K = g.F.Field.field in record { step = pair_push K; left = left_weighs K; right = right_weighs K }
