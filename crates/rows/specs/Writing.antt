-- What functions that write the parts of a table are asked, what they find and what they leave. Assumes nothing.
use Rattle.std.specs.Prelude.{◌≡◌, ℕ, ◌+◌, ◌-◌, ◌*◌, ◌<◌, ◌≤◌, List, length, slice_index_or}
use Rattle.std.specs.Fn.{Once, Shared}
use denote.Ref.{MutBor}

-- the n elements of xs from b on are those of ys
abbrev pub StandsAt : {X : Type 0} → ℕ → ℕ → List X → List X → Type 0
StandsAt {X} n b ys xs = (j : ℕ) (d : X) → j < n → slice_index_or xs (b + j) d ≡ slice_index_or ys j d

module _ {W X : Type 0} (g : Once W (MutBor (List X) × Unit {0}) (Unit {0} × (MutBor (List X) × Unit {0}))) (w : W) (n : ℕ) where
  -- w may be called with a slice of n elements
  abbrev pub TakesPart : Type 0
  TakesPart = (p : MutBor (List X)) → length p.now ≡ n → g.pre w (p, tt)

  -- the n elements from b on, which were those of xs, are in ys what a call of w with a slice of them leaves there
  pub record WritesPart (b : ℕ) (xs ys : List X) : Type 0 where
    pub argument : MutBor (List X)
    pub as_long : length argument.now ≡ n
    pub found : StandsAt n b argument.now xs
    pub after_call : MutBor (List X)
    pub call : g.post w (argument, tt) (tt, (after_call, tt))
    pub left : StandsAt n b after_call.now ys

module _ {W X : Type 0} (g : Shared W (ℕ × (ℕ × (MutBor (List X) × Unit {0}))) (Unit {0} × (MutBor (List X) × Unit {0}))) (w : W) (n : ℕ) where
  -- w may be called with each of the letters 1 to k, each of the rows 0 to n - 1, and a slice of n elements
  abbrev pub TakesRows : ℕ → Type 0
  TakesRows k = (a i : ℕ) (p : MutBor (List X)) → 1 ≤ a → a ≤ k → i < n → length p.now ≡ n → g.pre w (a, (i, (p, tt)))

  -- the same for a call of w with the letter a and the row i beside the slice
  pub record WritesRow (a i b : ℕ) (xs ys : List X) : Type 0 where
    pub argument : MutBor (List X)
    pub as_long : length argument.now ≡ n
    pub found : StandsAt n b argument.now xs
    pub after_call : MutBor (List X)
    pub call : g.post w (a, (i, (argument, tt))) (tt, (after_call, tt))
    pub left : StandsAt n b after_call.now ys

  -- so the rows of the matrices of the letters 1 to k, one after another from b on
  abbrev pub WritesRows : ℕ → ℕ → List X → List X → Type 0
  WritesRows k b xs ys =
      (a i : ℕ) → 1 ≤ a → a ≤ k → i < n → WritesRow a i (b + (a - 1) * (n * n) + i * n) xs ys
