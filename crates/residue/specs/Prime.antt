-- What the arithmetic of residues asks of its modulus. Assumes nothing.
use Rattle.std.specs.Prelude.{ℕ, ◌%◌, ◌<◌, ◌≤◌, ◌≢◌}

-- p lies from 2 to 65537, and no number from 2 up to the one below it divides it
pub record Prime (p : ℕ) : Type 0 where
  pub low : 2 ≤ p
  pub high : p ≤ 65537
  pub whole : (d : ℕ) → 2 ≤ d → d < p → p % d ≢ 0
