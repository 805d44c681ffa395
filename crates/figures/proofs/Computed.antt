-- Equations between values, shown by tests that the checker computes: at numerals each test is `tt`. Assumes nothing.
use Rattle.std.proofs.Common.{◌≡◌, ℕ, ◌<◌, Bool, T as Passes, eqb, sym, subst}
use Rattle.std.proofs.lemmas.Bool.{eqb-true}
use Rattle.field.specs.FiniteField.{FiniteField}
use Rattle.field.proofs.Laws.{code_only}
use Rattle.field.proofs.Tests.{all, all_at}

module _ {V : Type 0} (K : FiniteField V) where
  -- the first n values have the same codes
  abbrev pub same_codes : ℕ → (ℕ → V) → (ℕ → V) → Bool
  same_codes n x y = all n (λ i. eqb (K.code (x i)) (K.code (y i)))

  pub same_values : (n : ℕ) (x y : ℕ → V) → Passes (same_codes n x y) → (i : ℕ) → i < n → x i ≡ y i
  same_values n x y t i l = code_only K (x i) (y i) (eqb-true (K.code (x i)) (K.code (y i)) (all_at n (λ j. eqb (K.code (x j)) (K.code (y j))) t i l))

  -- so in each of n rows, of which row i is as wide as `width` says
  abbrev pub same_rows : ℕ → (ℕ → ℕ) → (ℕ → ℕ → V) → (ℕ → ℕ → V) → Bool
  same_rows n width x y = all n (λ i. same_codes (width i) (x i) (y i))

  pub same_entries : (n : ℕ) (width : ℕ → ℕ) (x y : ℕ → ℕ → V) → Passes (same_rows n width x y) → (i : ℕ) → i < n → (j : ℕ) → j < width i → x i j ≡ y i j
  same_entries n width x y t i l = same_values (width i) (x i) (y i) (subst Passes (sym (all_at n (λ m. same_codes (width m) (x m) (y m)) t i l)) tt)
