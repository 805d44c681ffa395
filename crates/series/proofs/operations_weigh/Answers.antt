use Rattle.series.proofs.Operations.{after_weight, scaled_weight, sum_weight, turned_weight}
use Rattle.series.proofs.ProductTables.{product_weight}
use Rattle.series.proofs.operations_weigh.Goals as goal

pub returns : goal.returns
returns g c = record {
  sum = sum_weight g.F.Field.field;
  scale = scaled_weight g.F.Field.field;
  multiply = product_weight g.F.Field.field;
  after = after_weight g.F.Field.field;
  turn = turned_weight g.F.Field.field;
}
