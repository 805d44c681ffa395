-- The weight of the table that multiply defines. Assumes nothing.
use Rattle.std.proofs.Common.{◌≡◌, ℕ, zero, suc, ◌+◌, ◌*◌, ◌/◌, ◌%◌, ◌<◌, [], ◌∷◌, refl, ap, ◌∙◌, ap₂, mod-eq_of_lt, suc-mul, zero-mul, arith}
use native.Mathlib.Nat.{div-eq_of_lt-le, mul-add-mod_self_right}
use Rattle.field.specs.FiniteField.{FiniteField}
use Rattle.field.proofs.Laws.{ring}
use Rattle.field.specs.Sums.{sum_below, dot, move}
use Rattle.series.specs.Words.{Word}
use Rattle.series.specs.Tables.{Table, after, row, weight}
use Rattle.series.specs.Operations.{crossed, product_table}
use Rattle.field.proofs.Rows.{sum_same}
use Rattle.series.proofs.SumLaws.{sum_times, sum_split}

module _ {V : Type 0} (K : FiniteField V) where
  infixl 65 ◌⊕◌
  infixl 70 ◌⊗◌
  open K use {plus as ◌⊕◌, times as ◌⊗◌}

  pub sum_rows : (n m : ℕ) (f : ℕ → V) → sum_below K (n * m) f ≡ sum_below K n (λ i. sum_below K m (λ j. f (i * m + j)))
  sum_rows zero m f = rw zero-mul refl
  sum_rows (suc n) m f = rw suc-mul (sum_split K (n * m) m f ∙ ap (λ v. v ⊕ sum_below K m (λ j. f (n * m + j))) (sum_rows n m f))

  crossed_at : (m : ℕ) (x y : ℕ → V) (i j : ℕ) → j < m → crossed K m x y (i * m + j) ≡ x i ⊗ y j
  crossed_at m x y i j l = ap₂ (λ p q. x p ⊗ y q) whole (mul-add-mod_self_right i m j ∙ mod-eq_of_lt l)
    where
      whole : (i * m + j) / m ≡ i
      whole = div-eq_of_lt-le {k = i} m {m = i * m + j} (omega arith) (omega arith)

  pub dot_crossed : (n m : ℕ) (x x' y y' : ℕ → V) → dot K (n * m) (crossed K m x y) (crossed K m x' y') ≡ dot K n x x' ⊗ dot K m y y'
  dot_crossed n m x x' y y' =
      sum_rows n m (λ p. crossed K m x y p ⊗ crossed K m x' y' p)
      ∙ sum_same K n (λ i. sum_below K m (λ j. crossed K m x y (i * m + j) ⊗ crossed K m x' y' (i * m + j))) (λ i. dot K m y y' ⊗ (x i ⊗ x' i)) (λ i l.
      sum_same K m (λ j. crossed K m x y (i * m + j) ⊗ crossed K m x' y' (i * m + j)) (λ j. x i ⊗ x' i ⊗ (y j ⊗ y' j))
      (λ j h. ap₂ ◌⊗◌ (crossed_at m x y i j h) (crossed_at m x' y' i j h) ∙ simp (ring, K))
      ∙ sum_times K m (x i ⊗ x' i) (λ j. y j ⊗ y' j) ∙ K.times_comm (x i ⊗ x' i) (dot K m y y'))
      ∙ sum_times K n (dot K m y y') (λ i. x i ⊗ x' i) ∙ K.times_comm (dot K m y y') (dot K n x x')

  product_after : (S T : Table V) (w : Word) (x y z : ℕ → V) → ((p : ℕ) → p < S.states * T.states → z p ≡ crossed K T.states x y p) → (p : ℕ) → p < S.states * T.states
      → after K (product_table K S T) z w p ≡ crossed K T.states (after K S x w) (after K T y w) p
  product_after S T [] x y z e = e
  product_after S T (a ∷ w) x y z e = product_after S T w (move K S.states (S.step a) x) (move K T.states (T.step a) y) (move K (S.states * T.states) ((product_table K S T).step a) z) (λ q l.
      sum_same K (S.states * T.states) (λ p. z p ⊗ (product_table K S T).step a p q) (λ p. crossed K T.states x y p ⊗ (product_table K S T).step a p q)
      (λ p h. ap (λ v. v ⊗ (product_table K S T).step a p q) (e p h))
      ∙ dot_crossed S.states T.states x (λ i. S.step a i (q / T.states)) y (λ j. T.step a j (q % T.states)))

  pub product_weight : (S T : Table V) (w : Word) → weight K (product_table K S T) w ≡ weight K S w ⊗ weight K T w
  product_weight S T w =
      sum_same K (S.states * T.states) (λ p. row K (product_table K S T) w p ⊗ (product_table K S T).end p)
      (λ p. crossed K T.states (row K S w) (row K T w) p ⊗ (product_table K S T).end p)
      (λ p l. ap (λ v. v ⊗ (product_table K S T).end p) (product_after S T w S.start T.start (product_table K S T).start (λ q h. refl) p l))
      ∙ dot_crossed S.states T.states (row K S w) S.end (row K T w) T.end
