-- What lies in a slice of elements, and what a function leaves of it. Assumes nothing.
use Rattle.std.specs.Prelude.{◌≡◌, ℕ, ◌+◌, ◌<◌, ◌≤◌, List, length, slice_index_or}
use Rattle.field.specs.FiniteField.{FiniteField}
use Rattle.field.specs.Rows.{row_at, Agree}

-- ys has the length of xs, and every element outside the n from a on is the very element it was
pub record Frame {X : Type 0} (a n : ℕ) (xs ys : List X) : Type 0 where
  pub len : length ys ≡ length xs
  pub below : (k : ℕ) (d : X) → k < a → slice_index_or ys k d ≡ slice_index_or xs k d
  pub above : (k : ℕ) (d : X) → a + n ≤ k → slice_index_or ys k d ≡ slice_index_or xs k d

-- the n elements from a on now have the values of the row `goal`, and every other is the very element it was
pub record Written {F V : Type 0} (K : FiniteField V) (value : F → V) (a n : ℕ) (goal : ℕ → V) (xs ys : List F) : Type 0 where
  pub done : Agree n (row_at K value ys a) goal
  pub frame : Frame a n xs ys
