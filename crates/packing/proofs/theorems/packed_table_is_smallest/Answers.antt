use Rattle.packing.proofs.Forms.{smallest}
use Rattle.packing.proofs.theorems.packed_table_is_smallest.Goals as goal

pub returns : goal.returns
returns g c = record { no_fewer_states = smallest g.F.Field.field }
