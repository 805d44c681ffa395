-- Reads of a slice, parts of it, and what loops that write one element after another leave. Assumes nothing.
use Rattle.std.proofs.Common.{◌≡◌, ℕ, zero, suc, ◌+◌, ◌-◌, ◌*◌, ◌<◌, ◌≤◌, ◌≢◌, List, [], ◌∷◌, map, length, take, drop, get_or, set, sym, refl, ap, ◌∙◌, ap₂, arith, below_more}
use Rattle.std.proofs.lemmas.List.{get_or-map, get_or-set_same, get_or-set_other, length-set, length-take-le, length-drop, get_or-take, get_or-drop, take-map, drop-map}
use Rattle.field.specs.FiniteField.{FiniteField}
use Rattle.field.specs.Sums.{sum_below, dot, move, less_multiple, less_rows}
use Rattle.field.specs.Rows.{at, square_at, Agree}

module _ {V : Type 0} (K : FiniteField V) where
  pub sum_same : (n : ℕ) (f g : ℕ → V) → ((i : ℕ) → i < n → f i ≡ g i) → sum_below K n f ≡ sum_below K n g
  sum_same zero f g h = refl
  sum_same (suc n) f g h = ap₂ K.plus (sum_same n f g (λ i l. h i (omega arith))) (h n (omega arith))

  pub dot_same : (n : ℕ) {f h p q : ℕ → V} → Agree n f h → Agree n p q → dot K n f p ≡ dot K n h q
  dot_same n {f} {h} {p} {q} e d =
      sum_same n (λ i. K.times (f i) (p i)) (λ i. K.times (h i) (q i)) (λ j l. let a = e j l in let b = d j l in cc)

  -- one summand more
  pub sum_more : (n : ℕ) (f : ℕ → V) → K.plus (sum_below K n f) (f n) ≡ sum_below K (n + 1) f
  sum_more n f = ap (λ m. sum_below K m f) {x = suc n} {y = n + 1} (omega arith)

  -- one row more is taken
  pub less_rows_more : (n : ℕ) (q : ℕ → ℕ → V) (p : ℕ → ℕ) (x : ℕ → V) → less_multiple K (less_rows K n q p x) (less_rows K n q p x (p n)) (q n) ≡ less_rows K (n + 1) q p x
  less_rows_more n q p x = ap (λ m. less_rows K m q p x) {x = suc n} {y = n + 1} (omega arith)

-- how long the part from a to b is
pub length_part : {X : Type 0} (a b : ℕ) (xs : List X) → a ≤ b → b ≤ length xs → length (take (b - a) (drop a xs)) ≡ b - a
length_part a b xs l h = length-take-le (b - a) (drop a xs) (omega (arith, length-drop a xs))

-- of ys the first j elements have the values of a row, and the rest those of xs
pub record Filled {F V : Type 0} (K : FiniteField V) (v : F → V) (j : ℕ) (goal : ℕ → V) (xs ys : List F) : Type 0 where
  pub len : length ys ≡ length xs
  pub done : Agree j (at K v ys) goal
  pub rest : (i : ℕ) → j ≤ i → at K v ys i ≡ at K v xs i

module _ {F V : Type 0} (K : FiniteField V) (v : F → V) where
  -- what a read `s[i]` gives
  pub at_read : (xs : List F) (i : ℕ) (x : F) → i < length xs → x ≡ get_or xs i x → v x ≡ at K v xs i
  at_read xs i x h r = ap v r ∙ sym (get_or-map v xs i x K.zero h)

  -- lists of one length that have one element at k, also past their end
  pub at_kept : (xs ys : List F) (k : ℕ) → length ys ≡ length xs → ((d : F) → get_or ys k d ≡ get_or xs k d) → at K v ys k ≡ at K v xs k
  at_kept [] [] k n e = refl
  at_kept [] (y ∷ ys) k n e = absurd (omega arith)
  at_kept (x ∷ xs) [] k n e = absurd (omega arith)
  at_kept (x ∷ xs) (y ∷ ys) zero n e = ap v (e x)
  at_kept (x ∷ xs) (y ∷ ys) (suc k) n e = at_kept xs ys k (omega arith) e

  pub at_set_same : (xs : List F) (k : ℕ) (x : F) → k < length xs → at K v (set xs k x) k ≡ v x
  at_set_same xs k x l =
      get_or-map v (set xs k x) k x K.zero (simp length-set (omega arith)) ∙ ap v (get_or-set_same xs k x x l)

  pub at_set_other : (xs : List F) (i k : ℕ) (x : F) → k ≢ i → at K v (set xs i x) k ≡ at K v xs k
  at_set_other xs i k x l = at_kept xs (set xs i x) k (length-set xs i x) (λ d. get_or-set_other xs i k x d l)

  -- a value in the part from a to b
  pub at_part : (a b : ℕ) (xs : List F) (i : ℕ) → a + i < b → at K v (take (b - a) (drop a xs)) i ≡ at K v xs (a + i)
  at_part a b xs i h =
      ap (λ l. get_or l i K.zero) (sym (take-map v (b - a) (drop a xs)) ∙ ap (take (b - a)) (sym (drop-map v a xs)))
      ∙ get_or-take (b - a) (drop a (map v xs)) i K.zero (omega arith)
      ∙ get_or-drop a (map v xs) i K.zero

  pub filled_more : {j : ℕ} {goal : ℕ → V} {xs ys : List F} (x : F) → Filled K v j goal xs ys → j < length ys → v x ≡ goal j → Filled K v (j + 1) goal xs (set ys j x)
  filled_more {j} {goal} {xs} {ys} x f l here = record {
    len = length-set ys j x ∙ f.len;
    done = below_more (λ k. at K v (set ys j x) k ≡ goal k) j (λ k h. at_set_other ys j k x (omega arith) ∙ f.done k h) (at_set_same ys j x l ∙ here);
    rest = λ i h. at_set_other ys j i x (omega arith) ∙ f.rest i (omega arith);
  }

  -- a row times a matrix, column by column
  pub move_by_dot : (n j : ℕ) (xs ms : List F) → dot K n (at K v xs) (λ i. at K v ms (j + i * n)) ≡ move K n (square_at K v ms 0 n) (at K v xs) j
  move_by_dot n j xs ms = dot_same K n {f = at K v xs} {h = at K v xs} (λ i l. refl) (λ i l. ap (at K v ms) (omega arith))
