-- What the theory asks of an order of words. Assumes nothing.
use Rattle.std.specs.Prelude.{◌≡◌, ℕ, ◌<◌, ◌⊎◌, [], ◌∷◌, ◌++◌, length}
use mathlib.Core.WellFounded.{Acc}
use Rattle.series.specs.Words.{Word}

-- a total order, shorter words first, that a letter appended on both sides keeps, and in which every descent ends
pub record WordOrder (Before : Word → Word → Type 0) : Type 0 where
  pub irreflexive : (w : Word) → ¬ (Before w w)
  pub transitive : (u v w : Word) → Before u v → Before v w → Before u w
  pub compare : (u v : Word) → Before u v ⊎ ((u ≡ v) ⊎ Before v u)
  pub shorter : (u v : Word) → length u < length v → Before u v
  -- also where the letters differ
  pub append : (u v : Word) (a b : ℕ) → Before u v → Before (u ++ a ∷ []) (v ++ b ∷ [])
  pub last : (u : Word) (a b : ℕ) → a < b → Before (u ++ a ∷ []) (u ++ b ∷ [])
  pub descent_ends : (w : Word) → Acc Before w
