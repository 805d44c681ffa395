-- The residues modulo a prime, as a field. The residue is the code. Assumes nothing.
use Rattle.std.specs.Prelude.{ℕ, refl}
use Rattle.std.proofs.Common.{mod-eq_of_lt}
use Rattle.field.specs.Below.{Below}
use Rattle.field.specs.FiniteField.{FiniteField}
use Rattle.residue.specs.Prime.{Prime}
use Rattle.residue.specs.Operations.{residue_of, residue_zero, residue_one, sum_of, opposite_of, product_of, inverse_of}
use Rattle.residue.specs.Proofs.Laws as laws

abbrev pub residues : (p : ℕ) → Prime p → FiniteField (Below p)
residues p pr = record {
  q = p;
  zero = residue_zero p pr;
  one = residue_one p pr;
  plus = sum_of p pr;
  opposite = opposite_of p pr;
  times = product_of p pr;
  inverse = inverse_of p pr;
  code = λ x. x.n;
  decode = residue_of p pr;
  q_low = pr.low;
  q_high = laws.q_high p pr;
  plus_assoc = laws.plus_assoc p pr;
  plus_comm = laws.plus_comm p pr;
  plus_zero = laws.plus_zero p pr;
  plus_opposite = laws.plus_opposite p pr;
  times_assoc = laws.times_assoc p pr;
  times_comm = laws.times_comm p pr;
  times_one = laws.times_one p pr;
  times_plus = laws.times_plus p pr;
  one_not_zero = laws.one_not_zero p pr;
  times_inverse = laws.times_inverse p pr;
  code_below = λ x. x.below;
  code_zero = refl;
  code_one = refl;
  code_decode = λ n h. mod-eq_of_lt h;
  decode_code = laws.decode_code p pr;
}
