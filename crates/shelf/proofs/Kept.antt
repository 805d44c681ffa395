-- A table that is copied to its place. Assumes nothing.
use Rattle.std.proofs.Common.{◌≡◌, ℕ, ◌+◌, ◌≤◌, List, length, subst, subst₂, arith, rules}
use Rattle.std.proofs.lemmas.List.{places}
use borrow.Rule.Slice.PartMut.{put_mid}
use Rattle.field.specs.FiniteField.{FiniteField}
use Rattle.series.specs.Tables.{Table, SameTable}
use Rattle.rows.specs.Memory.{Frame}
use Rattle.rows.proofs.Memory.{Copied}
use Rattle.rows.specs.Layout.{table_size, table_at}
use Rattle.rows.specs.Tables.{TableWritten}
use Rattle.rows.proofs.Parts.{frame_part}
use Rattle.rows.proofs.Tables.{copied_table}
use Rattle.book.proofs.Blocks.{same_trans}

module _ {F V : Type 0} (K : FiniteField V) (v : F → V) where
  -- what a part then holds, in the words of tables
  pub table_kept : (base m n k : ℕ) (xs ys : List F) (R : Table V) → m ≡ table_size n k → base + m ≤ length xs → length ys ≡ m → SameTable (table_at K v ys 0 n k) R → TableWritten K v base R xs (put_mid base m xs ys)
  table_kept base m n k xs ys R size h long s =
      let copied : Copied base m ys 0 xs (put_mid base m xs ys) = record { done = λ j d l. search (rules, places, long); frame = frame_part base m xs ys long h } in
      let len : length (put_mid base m xs ys) ≡ length xs = copied.frame.len in
      let w = copied_table K v n k 0 {to = base} {src = ys} {xs = xs} {ys = put_mid base m xs ys} (subst (λ i. Copied base i ys 0 xs (put_mid base m xs ys)) size copied) (omega arith) (omega arith) in
      record {
        same = subst₂ (λ i j. SameTable (table_at K v (put_mid base m xs ys) base i j) R) s.states s.letters (same_trans (table_at K v (put_mid base m xs ys) base n k) (table_at K v ys 0 n k) R w.same s);
        frame = subst₂ (λ i j. Frame base (table_size i j) xs (put_mid base m xs ys)) s.states s.letters w.frame;
      }
