use Rattle.std.proofs.Common.{refl}
use Rattle.byte.specs.Product.{product}
use Rattle.figures.proofs.Worked.{worked}
use Rattle.figures.proofs.worked_figures.Goals as goal

pub returns : goal.returns
unfolding product
returns c = record {
  figures = worked refl refl tt refl
      (record { one_letter = refl; reached = tt; told_apart = tt }) (record { one_letter = refl; inside = tt; ones = tt; zeros = tt; next = tt }) tt
      (record { one_letter = refl; inside = tt; ones = tt; zeros = tt; next = tt }) refl;
}
