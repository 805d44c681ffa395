-- The words by which two tables with one letter count are compared. Assumes nothing.
use Rattle.std.specs.Prelude.{◌≡◌, ℕ, ◌+◌, ◌<◌, ◌≤◌, ◌≢◌, ◌⊎◌, [], ◌∷◌, ◌++◌}
use Rattle.field.specs.FiniteField.{FiniteField}
use Rattle.series.specs.Words.{Word, Over, ◌≺◌}
use Rattle.series.specs.Fresh.{Fresh}
use Rattle.series.specs.Tables.{Table, weight, pair}

-- the empty word, and every word of which Good holds followed by each of the letters 1 to k
abbrev pub Followed : ℕ → (Word → Type 0) → Word → Type 0
Followed k Good w = (w ≡ []) ⊎ ((u : Word) × (a : ℕ) × Good u × (1 ≤ a) × (a ≤ k) × (w ≡ u ++ a ∷ []))

module _ {V : Type 0} (K : FiniteField V) (S T : Table V) where
  -- a kept word, the product's own term: its pair row is no combination of the pair rows of smaller words
  abbrev pub Kept : Word → Type 0
  Kept = Fresh K (λ i. i < S.states + T.states) S.letters (pair K S T)

  -- a tried word, the product's own term: the empty word, and every kept word followed by each letter
  abbrev pub Tried : Word → Type 0
  Tried = Followed S.letters Kept

  -- the two weigh every word alike
  abbrev pub Alike : Type 0
  Alike = (w : Word) → Over S.letters w → weight K S w ≡ weight K T w

  -- v is the least word that the two weigh differently
  pub record LeastDifference (v : Word) : Type 0 where
    pub over : Over S.letters v
    pub differs : weight K S v ≢ weight K T v
    pub least : (u : Word) → u ≺ v → Over S.letters u → weight K S u ≡ weight K T u
