-- Sums of a field's values. Assumes nothing.
use Rattle.std.specs.Prelude.{ℕ, zero, suc}
use Rattle.field.specs.FiniteField.{FiniteField}

module _ {V : Type 0} (K : FiniteField V) where
  -- f 0 + .. + f (n - 1)
  abbrev pub sum_below : ℕ → (ℕ → V) → V
  sum_below zero f = K.zero
  sum_below (suc n) f = K.plus (sum_below n f) (f n)

  -- a row times a column
  abbrev pub dot : ℕ → (ℕ → V) → (ℕ → V) → V
  dot n x y = sum_below n (λ i. K.times (x i) (y i))

  -- a row times a matrix
  abbrev pub move : ℕ → (ℕ → ℕ → V) → (ℕ → V) → ℕ → V
  move n m x j = sum_below n (λ i. K.times (x i) (m i j))

  -- the row x less c times the row y
  abbrev pub less_multiple : (ℕ → V) → V → (ℕ → V) → ℕ → V
  less_multiple x c y j = K.plus (x j) (K.opposite (K.times c (y j)))

  -- the row x less the first n rows of q in turn: row b as often as what is left has at p b
  abbrev pub less_rows : ℕ → (ℕ → ℕ → V) → (ℕ → ℕ) → (ℕ → V) → ℕ → V
  less_rows zero q p x = x
  less_rows (suc n) q p x = less_multiple (less_rows n q p x) (less_rows n q p x (p n)) (q n)
