-- Rows of 32 entries with tracked coefficients: numbers in front, and from 16 on the coefficients by which they are made of given rows. Assumes nothing.
use Rattle.std.specs.Prelude.{◌≡◌, ℕ, suc, ◌+◌, ◌<◌, ◌≤◌}
use Rattle.field.specs.FiniteField.{FiniteField}
use Rattle.series.specs.Families.{mix}
use Rattle.field.specs.Rows.{Agree}
use Rattle.elimination.specs.Elimination.{NothingLeft, NewRow}

module _ {V : Type 0} (K : FiniteField V) where
  -- the coefficients of f make its first d entries out of the first n rows of ps
  abbrev pub Tracks : ℕ → ℕ → (ℕ → ℕ → V) → (ℕ → V) → Type 0
  Tracks d n ps f = (i : ℕ) → i < d → f i ≡ mix K n (λ j. f (16 + j)) ps i

  -- the coefficients of f, numbered from 0, are zero from number n on
  abbrev pub Bare : ℕ → (ℕ → V) → Type 0
  Bare n f = (j : ℕ) → n ≤ j → j < 16 → f (16 + j) ≡ K.zero

  -- each of the first n rows of q has coefficients of the first n rows of ps
  pub record Tracked (d n : ℕ) (ps q : ℕ → ℕ → V) : Type 0 where
    pub tracks : (b : ℕ) → b < n → Tracks d n ps (q b)
    pub bare : (b : ℕ) → b < n → Bare n (q b)

  -- x is a combination of the first n rows of ps: its coefficients are the opposites of those that y has
  pub record Combination (d n : ℕ) (ps q : ℕ → ℕ → V) (p : ℕ → ℕ) (x y : ℕ → V) : Type 0 where
    pub nothing : NothingLeft K d n q p x
    pub made : (i : ℕ) → i < d → x i ≡ mix K n (λ j. K.opposite (y (16 + j))) ps i
    pub bare : Bare n y

  -- x is no combination of them: z is the row that an elimination adds for it, with coefficients of the n rows of ps and of x behind them
  pub record NewTracked (d n : ℕ) (ps q : ℕ → ℕ → V) (p : ℕ → ℕ) (x : ℕ → V) (pivot : ℕ) (z : ℕ → V) : Type 0 where
    pub new : NewRow K d n q p x pivot z
    pub tracks : (qs : ℕ → ℕ → V) → ((j : ℕ) → j < n → Agree d (qs j) (ps j)) → Agree d (qs n) x → Tracks d (suc n) qs z
    pub bare : Bare (suc n) z

  -- the same, of whatever rows ps the rows of q have coefficients
  abbrev pub Combines : ℕ → ℕ → (ℕ → ℕ → V) → (ℕ → ℕ) → (ℕ → V) → (ℕ → V) → Type 0
  Combines d n q p x y = (ps : ℕ → ℕ → V) → Tracked d n ps q → Combination d n ps q p x y

  abbrev pub Extends : ℕ → ℕ → (ℕ → ℕ → V) → (ℕ → ℕ) → (ℕ → V) → ℕ → (ℕ → V) → Type 0
  Extends d n q p x b z = (ps : ℕ → ℕ → V) → Tracked d n ps q → NewTracked d n ps q p x b z
