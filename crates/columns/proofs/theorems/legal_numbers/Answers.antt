use Rattle.columns.proofs.Lengths.{legal_is}
use Rattle.columns.proofs.theorems.legal_numbers.Goals as goal

pub returns : goal.returns
returns c = record { legal = legal_is }
