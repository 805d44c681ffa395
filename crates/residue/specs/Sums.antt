-- Sums of products that are not yet reduced: their residues, and their sizes. Assumes nothing.
use Rattle.std.specs.Prelude.{◌≡◌, ℕ, ◌≤◌, List, length, slice_index}
use Rattle.field.specs.Below.{Below}
use Rattle.field.specs.Rows.{at, column_dot, RowOf}
use Rattle.residue.specs.declared.Residue.{Residue}
use Rattle.residue.specs.Prime.{Prime}
use Rattle.residue.specs.Operations.{residue_of}
use Rattle.residue.specs.Residues.{residues}

-- none is above b
abbrev pub UpTo : ℕ → List ℕ → Type 0
UpTo b xs = (j : ℕ) → slice_index xs j ≤ b

-- the value of an element
abbrev pub value_of : {p : ℕ} → Residue p → Below p
value_of x = record { n = x.n; below = x.below }

module _ {p : ℕ} (pr : Prime p) where
  -- the residues of the numbers of a list
  abbrev pub residues_at : List ℕ → ℕ → Below p
  residues_at = at (residues p pr) (residue_of p pr)

  -- the row x, plus c times the row y
  abbrev pub plus_multiple : (ℕ → Below p) → ℕ → (ℕ → Below p) → ℕ → Below p
  plus_multiple x c y j =
      (residues p pr).plus (x j) ((residues p pr).times (residue_of p pr c) (y j))

  -- the residue of the sum is the row xs times the column of ys whose elements lie `step` apart from
  -- `column` on
  abbrev pub DotSummed : List (Residue p) → List (Residue p) → ℕ → ℕ → ℕ → Type 0
  DotSummed xs ys column step sum =
      residue_of p pr sum ≡ column_dot (residues p pr) value_of xs ys column step

  -- the residues of the new sums are those of the old ones, plus c times the row
  abbrev pub MultipleAdded : ℕ → List (Residue p) → List ℕ → List ℕ → Type 0
  MultipleAdded c row sums sums' =
      let goal = plus_multiple (residues_at sums) c (at (residues p pr) value_of row) in
      RowOf (residues p pr) (residue_of p pr) (length sums) goal sums'

  -- the elements are the residues of the sums, one for each
  abbrev pub ResiduesWritten : List ℕ → List (Residue p) → Type 0
  ResiduesWritten sums xs = RowOf (residues p pr) value_of (length sums) (residues_at sums) xs
