use Rattle.packing.proofs.Forms.{canonical_text}
use Rattle.packing.proofs.theorems.packed_text_is_canonical.Goals as goal

pub returns : goal.returns
returns g c = record { exactly = canonical_text g.F.Field.field c.one_text_one_table.ensures.told_apart c.reduced_form_is_canonical.ensures.exactly }
