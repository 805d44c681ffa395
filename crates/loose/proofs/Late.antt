-- What is known of an element from its reduced form x, which stands for the same value. Assumes nothing.
use Rattle.std.proofs.Common.{◌≡◌, ℕ, ◌%◌, sym, ap, ◌∙◌, mod-eq_of_lt}
use native.Mathlib.Nat.{mod-mod}
use Rattle.field.specs.Below.{Below, same_below}
use Rattle.residue.specs.Prime.{Prime}
use Rattle.residue.specs.Operations.{residue_of, residue_zero, inverse_of}

module _ {p : ℕ} (pr : Prime p) (n : ℕ) (x : Below p) (code : ℕ) (is : code ≡ n % p) (read : x ≡ residue_of p pr code) where
  pub reads : residue_of p pr n ≡ x
  reads = same_below _ _ (sym (mod-mod n p) ∙ ap (λ m. m % p) (sym is)) ∙ sym read

  pub no_inverse : x ≡ residue_zero p pr → residue_of p pr n ≡ residue_zero p pr
  no_inverse z = reads ∙ z

  pub same_inverse : (i : Below p) (k : ℕ) → k ≡ i.n → (x ≡ residue_zero p pr → ⊥) × (i ≡ inverse_of p pr x) → (residue_of p pr n ≡ residue_zero p pr → ⊥) × (residue_of p pr k ≡ inverse_of p pr (residue_of p pr n))
  same_inverse i k e h = (λ z. h.0 (sym reads ∙ z), same_below _ _ (ap (λ m. m % p) e ∙ mod-eq_of_lt i.below) ∙ h.1 ∙ ap (inverse_of p pr) (sym reads))
