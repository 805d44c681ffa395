-- The reduced form of a function of words. Assumes nothing.
use Rattle.std.specs.Prelude.{◌≡◌, ℕ, ◌<◌, [], ◌∷◌, ◌++◌}
use Rattle.field.specs.FiniteField.{FiniteField}
use Rattle.series.specs.Words.{Word, Over}
use Rattle.series.specs.Listing.{Listed}
use Rattle.series.specs.Families.{mix}
use Rattle.series.specs.Fresh.{Fresh}
use Rattle.series.specs.Tables.{Table}

-- what f says of the words that begin with w, by what follows w
abbrev pub residual : {V : Type 0} → (Word → V) → Word → Word → V
residual f w u = f (w ++ u)

-- w's residual is no combination of the residuals of smaller words, all over the letters 1 to k
abbrev pub Leading : {V : Type 0} → FiniteField V → ℕ → (Word → V) → Word → Type 0
Leading K k f = Fresh K (Over k) k (residual f)

-- R is the reduced form of f
pub record Reduced {V : Type 0} (K : FiniteField V) (k : ℕ) (f : Word → V) (R : Table V) : Type 0 where
  pub letters : R.letters ≡ k
  -- a state for each leading word, in their order
  pub words : ℕ → Word
  pub listed : Listed (Leading K k f) R.states words
  -- the start row is one at the first state and zero elsewhere
  pub start_one : 0 < R.states → R.start 0 ≡ K.one
  pub start_zero : (i : ℕ) → 0 < i → i < R.states → R.start i ≡ K.zero
  -- row i of a letter's matrix: the coefficients of the residual of word i followed by that letter, over those of the leading words
  pub steps : (a : ℕ) → Over k (a ∷ []) → (i : ℕ) → i < R.states → (u : Word) → Over k u → residual f (words i ++ a ∷ []) u ≡ mix K R.states (R.step a i) (λ j. residual f (words j)) u
  -- the end column: the function at the leading words
  pub ends : (i : ℕ) → i < R.states → R.end i ≡ f (words i)
