use Rattle.command.specs.declared.field_choice.FieldChoice.TheVariants as fields
use Rattle.scripting.proofs.Shelves.{if_ok, by_field}
use Rattle.scripting.proofs.performing.Opening.perform.Goals as goal

pub returns-in-Bits-clause-performs : goal.returns-in-Bits-clause-performs
returns-in-Bits-clause-performs c = if_ok c.perform_over.result c.perform_over.ensures.performs (λ close performs. by_field fields.Bits close c.in-Bits.is (performs fields.Bits (λ m tasks text made. made)))

pub returns-in-Bytes-clause-performs : goal.returns-in-Bytes-clause-performs
returns-in-Bytes-clause-performs c = if_ok c.perform_over-in-Bytes.result c.perform_over-in-Bytes.ensures.performs (λ close performs. by_field fields.Bytes close c.in-Bytes.is (performs fields.Bytes (λ m tasks text made. made)))

pub returns-in-Fermat-clause-performs : goal.returns-in-Fermat-clause-performs
returns-in-Fermat-clause-performs c = if_ok c.perform_over-in-Fermat.result c.perform_over-in-Fermat.ensures.performs (λ close performs. by_field fields.Fermat close c.in-Fermat.is (performs fields.Fermat (λ m tasks text made. made)))
