-- The rows of work memory. Assumes nothing.
use Rattle.std.proofs.Common.{◌≡◌, ℕ, ◌+◌, ◌-◌, ◌*◌, ◌<◌, ◌≤◌, List, ◌++◌, length, take, drop, ap, ap₂, ◌∙◌, arith}
use Rattle.std.proofs.lemmas.List.{length-take-le}
use Rattle.field.specs.FiniteField.{FiniteField}
use Rattle.field.specs.Rows.{Agree, at, row_at}
use Rattle.field.proofs.Rows.{at_part}
use Rattle.rows.proofs.Splits.{at_front, at_back, at_first}
use Rattle.elimination.proofs.Offsets.{rows_room, entry_before}

-- rows of d elements are split behind the first n of them; the code has count and width for n and d
pub record WorkRows {F : Type 0} (xs before rest : List F) (n d count width : ℕ) : Type 0 where
  pub parts : xs ≡ before ++ rest
  pub front : length before ≡ count * width
  pub back : length rest + count * width ≡ length xs
  pub counted : count ≡ n
  pub wide : width ≡ d
  pub few : n ≤ d
  pub small : d ≤ 32
  pub large : 1056 ≤ length xs

module _ {F : Type 0} {xs before rest : List F} {n d count width : ℕ} (w : WorkRows xs before rest n d count width) where
  before_long : length before ≡ n * d
  before_long = w.front ∙ ap₂ (λ i j. i * j) w.counted w.wide

  -- there is room for one row more
  pub row_long : length (take width rest) ≡ d
  row_long =
      let room = rows_room n d w.few w.small in
      let long = before_long in
      length-take-le width rest (omega (arith, w.front, w.back, w.wide, w.large)) ∙ w.wide

  module _ {V : Type 0} (K : FiniteField V) (v : F → V) where
    -- row i, as a part of those before
    pub row_before_at : (i from to : ℕ) → i < n → from ≡ i * d → to ≡ from + d → Agree d (at K v (take (to - from) (drop from before))) (row_at K v xs (i * d))
    row_before_at i from to l e h j b =
        at_part K v from to before j (omega arith) ∙ ap (at K v before) (omega arith)
        ∙ at_first K v xs before rest (n * d) w.parts before_long (i * d + j) (entry_before i d j n l b)

    -- another row is written behind them
    module _ (row behind : List F) (long : length row ≡ d) where
      pub others_stay : (j : ℕ) → j < n * d → at K v (before ++ (row ++ behind)) j ≡ at K v xs j
      others_stay j l = let e = before_long in at_front K v before (row ++ behind) j (omega arith) ∙ at_first K v xs before rest (n * d) w.parts before_long j l

      pub row_written : Agree d (row_at K v (before ++ (row ++ behind)) (n * d)) (at K v row)
      row_written j l = at_back K v before (row ++ behind) (n * d) j before_long ∙ at_front K v row behind j (omega arith)
