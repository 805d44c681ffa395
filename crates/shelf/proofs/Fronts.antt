-- The front of a list that a request is given. Assumes nothing.
use Rattle.std.proofs.Common.{◌≡◌, ℕ, ◌-◌, ◌≤◌, min, List, length, take, drop, sym, ap, ◌∙◌, arith, length-take}
use native.Mathlib.Nat.{min-eq_left, min-eq_right}
use native.Mathlib.Decide.{dec_le}
use Rattle.std.proofs.lemmas.List.{take_all, drop_all}

module _ {X : Type 0} (xs : List X) (n m : ℕ) (e : m ≡ min n (length xs)) where
  -- so many elements, or all where there are no more
  pub take_min : take (m - 0) xs ≡ take n xs
  take_min = go (dec_le n (length xs))
    where
      go : Dec (n ≤ length xs) → take (m - 0) xs ≡ take n xs
      go (yes l) = let f : m ≡ n = e ∙ min-eq_left l in ap (λ k. take k xs) (omega arith)
      go (no u) =
          let h : length xs ≤ n = omega arith in
          let f : m ≡ length xs = e ∙ min-eq_right h in
          take_all (m - 0) xs (omega arith) ∙ sym (take_all n xs h)

  -- and those behind them
  pub drop_min : drop (m - 0) xs ≡ drop n xs
  drop_min = go (dec_le n (length xs))
    where
      go : Dec (n ≤ length xs) → drop (m - 0) xs ≡ drop n xs
      go (yes l) = let f : m ≡ n = e ∙ min-eq_left l in ap (λ k. drop k xs) (omega arith)
      go (no u) =
          let h : length xs ≤ n = omega arith in
          let f : m ≡ length xs = e ∙ min-eq_right h in
          drop_all (m - 0) xs (omega arith) ∙ sym (drop_all n xs h)

  pub length_min : length (take (m - 0) xs) ≡ min n (length xs)
  length_min = ap length take_min ∙ length-take n xs
