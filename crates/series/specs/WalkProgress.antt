-- How far a walk has come that tries each word that it has found, in their order, followed by each letter. Assumes nothing.
use Rattle.std.specs.Prelude.{◌≡◌, ℕ, ◌<◌}
use Rattle.series.specs.Words.{Word, ◌≺◌}

module _ (Good : Word → Type 0) where
  -- the first n of words are the good words before x, in order
  pub record Scanned (n : ℕ) (words : ℕ → Word) (x : Word) : Type 0 where
    pub ascends : (i j : ℕ) → i < j → j < n → words i ≺ words j
    pub good : (i : ℕ) → i < n → Good (words i)
    pub before : (i : ℕ) → i < n → words i ≺ x
    pub whole : (v : Word) → Good v → v ≺ x → (i : ℕ) × (i < n) × (v ≡ words i)
