-- What the loop of `inverse` ends with is the inverse. Assumes nothing.
use Rattle.std.proofs.Common.{◌≡◌, ℕ, ◌*◌, ◌%◌, ◌≢◌, ap, ◌∙◌, mul_comm}
use Rattle.field.proofs.Laws.{not_zero, inverse_only}
use Rattle.field.specs.Below.{Below, same_below}
use Rattle.residue.specs.Prime.{Prime}
use Rattle.residue.specs.Operations.{residue_zero, residue_one, product_of, inverse_of}
use Rattle.residue.specs.Residues.{residues}

pub inverse_found : {p : ℕ} (pr : Prime p) (x y : Below p) → (y.n * x.n) % p ≡ 1
    → (x ≢ residue_zero p pr) × (y ≡ inverse_of p pr x)
inverse_found {p} pr x y e =
    let one : product_of p pr x y ≡ residue_one p pr = same_below _ _ (ap (λ z. z % p) (mul_comm x.n y.n) ∙ e) in
    (not_zero (residues p pr) x y one, inverse_only (residues p pr) x y one)
