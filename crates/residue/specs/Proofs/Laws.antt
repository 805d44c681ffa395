-- The laws of the field of residues modulo a prime. Assumes nothing.
use Rattle.std.specs.Prelude.{◌≡◌, ℕ, zero, suc, ◌+◌, ◌-◌, ◌*◌, ◌%◌, ◌<◌, ◌≤◌, ◌≢◌, Bool, true, if◌then◌else◌, ◌==◌}
use Rattle.std.proofs.Common.{sym, ap, ◌∙◌, ⊎_elim, mul_comm, mul_assoc, mul-add, mul-one, add_comm, add_assoc, mod-eq_of_lt, add-zero, add-sub_of_le, le_of_lt, arith}
use Rattle.std.proofs.Math.Nat.{add-mod, add-mod-mod, mod-add-mod, mod_self}
use Rattle.std.proofs.lemmas.Bool.{cases_Bool, true≢false, eqb-true, eq-eqb}
use Rattle.std.proofs.lemmas.Nat.{mul-mod_first, mul-mod_second}
use Rattle.field.specs.Below.{Below, same_below}
use Rattle.residue.specs.Prime.{Prime}
use Rattle.residue.specs.Operations.{last_below, residue_of, residue_zero, residue_one, sum_of, opposite_of, product_of, inverse_of}
use Rattle.residue.specs.Proofs.Inverses.{has_inverse}

-- where some number below n passes the test, the last one does
last_passes : (n : ℕ) (test : ℕ → Bool) (y : ℕ) → y < n → test y ≡ true
    → test (last_below n test) ≡ true
last_passes zero test y h e = absurd (omega arith)
last_passes (suc n) test y h e =
    ⊎_elim
    (λ here. ap (λ b. test (if b then n else last_below n test)) here ∙ here)
    (λ past.
    let other : y ≡ n → ⊥ = λ z. true≢false (sym e ∙ ap test z ∙ past) in
    ap (λ b. test (if b then n else last_below n test)) past ∙ last_passes n test y (omega arith) e)
    (cases_Bool (test n))

module _ (p : ℕ) (pr : Prime p) where
  pub q_high : p ≤ 9999999999
  q_high = omega (arith, pr.high)

  pub plus_assoc : (x y z : Below p)
      → sum_of p pr (sum_of p pr x y) z ≡ sum_of p pr x (sum_of p pr y z)
  plus_assoc x y z =
      same_below _ _
      (mod-add-mod (x.n + y.n) p z.n ∙ ap (λ m. m % p) (add_assoc x.n y.n z.n)
      ∙ sym (add-mod-mod x.n (y.n + z.n) p))

  pub plus_comm : (x y : Below p) → sum_of p pr x y ≡ sum_of p pr y x
  plus_comm x y = ap (residue_of p pr) (add_comm x.n y.n)

  pub plus_zero : (x : Below p) → sum_of p pr x (residue_zero p pr) ≡ x
  plus_zero x = same_below _ _ (ap (λ m. m % p) (add-zero x.n) ∙ mod-eq_of_lt x.below)

  pub plus_opposite : (x : Below p) → sum_of p pr x (opposite_of p pr x) ≡ residue_zero p pr
  plus_opposite x =
      same_below _ _
      (add-mod-mod x.n (p - x.n) p ∙ ap (λ m. m % p) (add-sub_of_le (le_of_lt x.below))
      ∙ mod_self p)

  pub times_assoc : (x y z : Below p)
      → product_of p pr (product_of p pr x y) z ≡ product_of p pr x (product_of p pr y z)
  times_assoc x y z =
      same_below _ _
      (mul-mod_first (x.n * y.n) z.n p ∙ ap (λ m. m % p) (mul_assoc x.n y.n z.n)
      ∙ sym (mul-mod_second x.n (y.n * z.n) p))

  pub times_comm : (x y : Below p) → product_of p pr x y ≡ product_of p pr y x
  times_comm x y = ap (residue_of p pr) (mul_comm x.n y.n)

  pub times_one : (x : Below p) → product_of p pr x (residue_one p pr) ≡ x
  times_one x = same_below _ _ (ap (λ m. m % p) (mul-one x.n) ∙ mod-eq_of_lt x.below)

  pub times_plus : (x y z : Below p)
      → product_of p pr x (sum_of p pr y z)
      ≡ sum_of p pr (product_of p pr x y) (product_of p pr x z)
  times_plus x y z =
      same_below _ _
      (mul-mod_second x.n (y.n + z.n) p ∙ ap (λ m. m % p) (mul-add x.n y.n z.n)
      ∙ add-mod (x.n * y.n) (x.n * z.n) p)

  pub one_not_zero : residue_one p pr ≢ residue_zero p pr
  one_not_zero e = let z : ◌≡◌ {A = ℕ} 1 0 = ap (λ x. x.n) e in omega arith

  -- a number whose product with x leaves 1
  inverse_passes : (x : Below p) → x.n ≢ 0 → last_below p (λ y. y * x.n % p == 1) * x.n % p ≡ 1
  inverse_passes x some =
      let found = has_inverse p pr x.n (omega arith) x.below in
      let test : ℕ → Bool = λ y. y * x.n % p == 1 in
      let passes : test found.0 ≡ true = eq-eqb (found.0 * x.n % p) 1 found.2 in
      eqb-true (last_below p test * x.n % p) 1 (last_passes p test found.0 found.1 passes)

  pub times_inverse : (x : Below p) → x ≢ residue_zero p pr
      → product_of p pr x (inverse_of p pr x) ≡ residue_one p pr
  unfolding inverse_of
  times_inverse x h =
      let y : ℕ = last_below p (λ y. y * x.n % p == 1) in
      same_below _ _
      (mul-mod_second x.n y p ∙ ap (λ m. m % p) (mul_comm x.n y)
      ∙ inverse_passes x (λ z. h (same_below _ _ z)))

  pub decode_code : (x : Below p) → residue_of p pr x.n ≡ x
  decode_code x = same_below _ _ (mod-eq_of_lt x.below)
