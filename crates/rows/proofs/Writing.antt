-- Rows written one after another, and the table that they make up with a start row and an end column. Assumes nothing.
use Rattle.std.proofs.Common.{◌≡◌, ℕ, ◌+◌, ◌-◌, ◌*◌, ◌/◌, ◌%◌, ◌<◌, ◌≤◌, List, ◌++◌, length, get_or, sym, refl, ap, ap₂, ◌∙◌, subst, mul_assoc, mul_comm, add-mul, arith, below_more}
use borrow.Rule.Slice.PartMut.{put_mid}
use denote.Ref.{MutBor}
use Rattle.std.specs.Fn.{Once, Shared}
use Rattle.std.proofs.lemmas.Nat.{mul-add-lt}
use Rattle.std.proofs.lemmas.List.{get_or-append-add, get_or_append_left}
use Rattle.rows.proofs.Layouts.{matrix_within, row_within, letter_of, row_of}
use Rattle.rows.proofs.Held.{before_part, in_part, behind_part, row_long, row_within_slice, held_from_parts}
use Rattle.field.specs.FiniteField.{FiniteField}
use Rattle.series.specs.Tables.{Table}
use Rattle.rows.specs.Layout.{table_size, end_offset}
use Rattle.field.specs.Rows.{RowOf}
use Rattle.rows.specs.Seen.{HoldsTable}
use Rattle.rows.specs.Writing.{StandsAt, WritesPart, WritesRow, WritesRows}

-- an element of the first one of two lists, and of the middle one and the last one of three
first : {X : Type 0} (xs back : List X) (i j : ℕ) (d : X) → i ≡ j → j < length xs → get_or (xs ++ back) i d ≡ get_or xs j d
first xs back i j d e l = ap (λ z. get_or (xs ++ back) z d) e ∙ get_or_append_left xs back d j l

middle : {X : Type 0} (front xs back : List X) (i j : ℕ) (d : X) → i ≡ length front + j → j < length xs → get_or (front ++ (xs ++ back)) i d ≡ get_or xs j d
middle front xs back i j d e l =
    ap (λ z. get_or (front ++ (xs ++ back)) z d) e
    ∙ get_or-append-add front (xs ++ back) j d
    ∙ get_or_append_left xs back d j l

last : {X : Type 0} (front xs back : List X) (i j : ℕ) (d : X) → i ≡ length front + length xs + j → get_or (front ++ (xs ++ back)) i d ≡ get_or back j d
last front xs back i j d e =
    ap (λ z. get_or (front ++ (xs ++ back)) z d) {x = i} {y = length front + (length xs + j)} (omega arith)
    ∙ get_or-append-add front (xs ++ back) (length xs + j) d
    ∙ get_or-append-add xs back j d

module _ {W X : Type 0} (g : Shared W (ℕ × (ℕ × (MutBor (List X) × Unit {0}))) (Unit {0} × (MutBor (List X) × Unit {0}))) (w : W) (n : ℕ) where
  -- the rows below r are written, and what stood behind them still does
  pub record Progress (r : ℕ) (xs ys : List X) : Type 0 where
    pub done : (s : ℕ) → s < r → WritesRow g w n (s / n + 1) (s % n) (s * n) xs ys
    pub rest : (i : ℕ) (d : X) → r * n ≤ i → get_or ys i d ≡ get_or xs i d

  pub progress_none : (xs : List X) → Progress 0 xs xs
  progress_none xs = record { done = λ s l. absurd (omega arith); rest = λ i d l. refl }

  -- a row that is written stays so, behind it another one is written
  pub progress_more : {r : ℕ} (k : ℕ) {xs ys : List X} {p q : MutBor (List X)} → Progress r xs ys → k ≡ n → r * n + n ≤ length ys → length p.now ≡ n → length q.now ≡ n
      → StandsAt n (r * n) p.now ys → g.post w (r / n + 1, (r % n, (p, tt))) (tt, (q, tt)) → Progress (r + 1) xs (put_mid (r * n) k ys q.now)
  progress_more {r} k {xs} {ys} {p} {q} before e room l h found call = record {
    done =
        below_more (λ s. WritesRow g w n (s / n + 1) (s % n) (s * n) xs (put_mid (r * n) k ys q.now)) r
        (λ s m. let e = before.done s m in record {
          argument = e.argument;
          as_long = e.as_long;
          found = e.found;
          after_call = e.after_call;
          call = e.call;
          left = λ j d i. before_part (r * n) k ys q.now (s * n + j) d (omega (arith, mul-add-lt s n j r m i)) (omega arith) ∙ e.left j d i;
        })
        record {
          argument = p;
          as_long = l;
          found = λ j d i. sym (before.rest (r * n + j) d (omega arith)) ∙ found j d i;
          after_call = q;
          call = call;
          left = λ j d i. in_part (r * n) k ys q.now j d (omega arith) (omega arith);
        };
    rest = λ i d m. behind_part (r * n) k ys q.now i d (omega arith) (omega arith) (omega arith) ∙ before.rest i d (omega arith);
  }

  -- all rows, by letter and row
  pub progress_all : {r k : ℕ} {xs ys : List X} → Progress r xs ys → r ≡ k * n → WritesRows g w n k 0 xs ys
  progress_all {r} {k} {xs} {ys} done all a i low high l =
      let s = (a - 1) * n + i in
      let from : s * n ≡ (a - 1) * (n * n) + i * n = add-mul ((a - 1) * n) i n ∙ ap (λ z. z + i * n) (mul_assoc (a - 1) n n) in
      let e = done.done s (omega (arith, mul-add-lt (a - 1) n i k (omega arith) l, mul_comm k n)) in
      let letter : s / n + 1 ≡ a = omega (arith, letter_of a n i l) in
      record {
        argument = e.argument;
        as_long = e.as_long;
        found = λ j d m. ap (λ b. get_or xs (b + j) d) {x = 0 + (a - 1) * (n * n) + i * n} {y = s * n} (omega arith) ∙ e.found j d m;
        after_call = e.after_call;
        call =
            subst (λ b. g.post w (b, (i, (e.argument, tt))) (tt, (e.after_call, tt))) letter
            (subst (λ j. g.post w (s / n + 1, (j, (e.argument, tt))) (tt, (e.after_call, tt))) (row_of a n i l) e.call);
        left = λ j d m. ap (λ b. get_or ys (b + j) d) {x = 0 + (a - 1) * (n * n) + i * n} {y = s * n} (omega arith) ∙ e.left j d m;
      }

  -- all rows, in the middle of a list
  pub rows_moved : {k b : ℕ} (front front' : List X) {xs ys : List X} (back back' : List X) → WritesRows g w n k 0 xs ys
      → length front ≡ b → length front' ≡ b → length xs ≡ k * n * n → length ys ≡ k * n * n → WritesRows g w n k b (front ++ (xs ++ back)) (front' ++ (ys ++ back'))
  rows_moved {k} {b} front front' {xs} {ys} back back' e f f' h h' a i low high l =
      let row = e a i low high l in
      let from = (a - 1) * (n * n) + i * n in
      let within : (j : ℕ) → j < n → from + j < k * n * n = λ j m. omega (arith, matrix_within a k (n * n) low high, mul-add-lt i n j n l m, mul_assoc k n n) in
      let moved : (front xs back : List X) → length front ≡ b → length xs ≡ k * n * n → (j : ℕ) (d : X) → j < n → get_or (front ++ (xs ++ back)) (b + (a - 1) * (n * n) + i * n + j) d ≡ get_or xs (0 + (a - 1) * (n * n) + i * n + j) d =
      λ front xs back f h j d m. middle front xs back (b + (a - 1) * (n * n) + i * n + j) (0 + (a - 1) * (n * n) + i * n + j) d (omega arith) (omega (arith, within j m)) in
      record {
        argument = row.argument;
        as_long = row.as_long;
        found = λ j d m. moved front xs back f h j d m ∙ row.found j d m;
        after_call = row.after_call;
        call = row.call;
        left = λ j d m. moved front' ys back' f' h' j d m ∙ row.left j d m;
      }

-- what a call finds and leaves at the front of a list
pub part_first : {W X : Type 0} (g : Once W (MutBor (List X) × Unit {0}) (Unit {0} × (MutBor (List X) × Unit {0}))) (w : W) (n : ℕ) {p q : MutBor (List X)} (rest rest' : List X) → length p.now ≡ n → g.post w (p, tt) (tt, (q, tt))
    → length q.now ≡ n → WritesPart g w n 0 (p.now ++ rest) (q.now ++ rest')
part_first g w n {p} {q} rest rest' l call h = record {
  argument = p;
  as_long = l;
  found = λ j d m. first p.now rest (0 + j) j d (omega arith) (omega arith);
  after_call = q;
  call = call;
  left = λ j d m. first q.now rest' (0 + j) j d (omega arith) (omega arith);
}

-- and at the end of a list
pub part_moved : {W X : Type 0} (g : Once W (MutBor (List X) × Unit {0}) (Unit {0} × (MutBor (List X) × Unit {0}))) (w : W) (n : ℕ) {b : ℕ} {p q : MutBor (List X)} (front front' rows rows' : List X) → length p.now ≡ n → g.post w (p, tt) (tt, (q, tt))
    → b ≡ length front + length rows → b ≡ length front' + length rows' → WritesPart g w n b (front ++ (rows ++ p.now)) (front' ++ (rows' ++ q.now))
part_moved g w n {b} {p} {q} front front' rows rows' l call f f' = record {
  argument = p;
  as_long = l;
  found = λ j d m. last front rows p.now (b + j) j d (omega arith);
  after_call = q;
  call = call;
  left = λ j d m. last front' rows' q.now (b + j) j d (omega arith);
}

module _ {S R E F V : Type 0} (K : FiniteField V) (v : F → V)
    {gS : Once S (MutBor (List F) × Unit {0}) (Unit {0} × (MutBor (List F) × Unit {0}))} {s : S}
    {gR : Shared R (ℕ × (ℕ × (MutBor (List F) × Unit {0}))) (Unit {0} × (MutBor (List F) × Unit {0}))} {r : R}
    {gE : Once E (MutBor (List F) × Unit {0}) (Unit {0} × (MutBor (List F) × Unit {0}))} {e : E} {n k : ℕ} {xs₀ xs : List F} where
  held_so : (start : ℕ → V) (step : ℕ → ℕ → ℕ → V) (end : ℕ → V) (first : WritesPart gS s n 0 xs₀ xs) (rows : WritesRows gR r n k n xs₀ xs) (last : WritesPart gE e n (end_offset 0 n k) xs₀ xs) → length xs ≡ table_size n k
      → RowOf K v n start first.after_call.now
      → ((a i : ℕ) (low : 1 ≤ a) (high : a ≤ k) (l : i < n) → RowOf K v n (step a i) (rows a i low high l).after_call.now)
      → RowOf K v n end last.after_call.now → HoldsTable K v (record { states = n; letters = k; start = start; step = step; end = end }) xs
  held_so start step end first rows last len f w t =
      held_from_parts K v (record { states = n; letters = k; start = start; step = step; end = end }) xs len
      (row_within_slice K v 0 first.after_call.now xs f first.left (omega arith))
      (λ a i low high l.
      row_within_slice K v (n + (a - 1) * (n * n) + i * n) (rows a i low high l).after_call.now xs (w a i low high l) (rows a i low high l).left
      (omega (arith, row_within 0 n k a i low high l)))
      (row_within_slice K v (end_offset 0 n k) last.after_call.now xs t last.left (omega arith))

  -- what the calls leave makes up the table T, where they leave its parts
  pub held_by_calls : (T : Table V) (first : WritesPart gS s n 0 xs₀ xs) (rows : WritesRows gR r n k n xs₀ xs) (last : WritesPart gE e n (end_offset 0 n k) xs₀ xs) → n ≡ T.states → k ≡ T.letters → length xs ≡ table_size T.states T.letters
      → RowOf K v T.states T.start first.after_call.now
      → ((a i : ℕ) (low : 1 ≤ a) (high : a ≤ k) (l : i < n) → RowOf K v T.states (T.step a i) (rows a i low high l).after_call.now)
      → RowOf K v T.states T.end last.after_call.now → HoldsTable K v T xs
  held_by_calls T first rows last en ek len f w t =
      subst (λ m. HoldsTable K v (record { states = m; letters = T.letters; start = T.start; step = T.step; end = T.end }) xs) en
      (subst (λ l. HoldsTable K v (record { states = n; letters = l; start = T.start; step = T.step; end = T.end }) xs) ek
      (held_so T.start T.step T.end first rows last (len ∙ ap₂ table_size (sym en) (sym ek)) (row_long K v f (sym en)) (λ a i low high l. row_long K v (w a i low high l) (sym en)) (row_long K v t (sym en))))
