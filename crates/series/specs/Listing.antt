-- Words counted off in order. Assumes nothing.
use Rattle.std.specs.Prelude.{◌≡◌, ℕ, ◌<◌}
use Rattle.series.specs.Words.{Word, ◌≺◌}

-- the words of which Good holds are the first n of `words`, in ascending order
pub record Listed (Good : Word → Type 0) (n : ℕ) (words : ℕ → Word) : Type 0 where
  pub ascends : (i j : ℕ) → i < j → j < n → words i ≺ words j
  pub good : (i : ℕ) → i < n → Good (words i)
  pub whole : (v : Word) → Good v → (i : ℕ) × (i < n) × (v ≡ words i)

-- Good holds of n words
abbrev pub Count : (Word → Type 0) → ℕ → Type 0
Count Good n = (words : ℕ → Word) × Listed Good n words
