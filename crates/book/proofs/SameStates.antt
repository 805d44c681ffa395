-- States that are the same by value, and what writing a table leaves of them. Assumes nothing.
use Rattle.std.proofs.Common.{◌≡◌, ℕ, ◌+◌, ◌*◌, ◌<◌, List, length, sym, refl, ap, ◌∙◌, subst, ap₂, subst₂, arith}
use native.Mathlib.Decide.{dec_lt}
use Rattle.field.specs.FiniteField.{FiniteField}
use Rattle.series.specs.Tables.{Table, SameTable}
use Rattle.field.specs.Rows.{at}
use Rattle.rows.specs.Layout.{table_size, table_at, matrix_offset, end_offset}
use Rattle.rows.proofs.Memory.{frame_below, frame_above}
use Rattle.book.specs.Shelves.{empty, filled, Lent, State, at_place, with_place, entry, states_of, letters_of, begins, table}
use Rattle.book.specs.Doing.{Makes, Empties, KeepsShelf}
use Rattle.book.specs.Settling.{SameState}
use Rattle.book.proofs.Blocks.{same_sym, same_trans, values_by_same}

pub same_equal : {V : Type 0} (S T : Table V) → S ≡ T → SameTable S T
same_equal S T e = subst (SameTable S) e (record { states = refl; letters = refl; start = λ i l. refl; step = λ a low high i l j h. refl; end = λ i l. refl })

module _ {V : Type 0} (K : FiniteField V) {F : Type 0} (value : F → V) where
  -- tables in memory of one value
  tables_equal : (xs ys : List F) → ((i : ℕ) → at K value xs i ≡ at K value ys i) → (b n k : ℕ) → table_at K value xs b n k ≡ table_at K value ys b n k
  tables_equal xs ys h b n k = λ j. record { states = n; letters = k; start = λ i. h (b + i) j; step = λ a i c. h (matrix_offset b n a + (i * n + c)) j; end = λ i. h (end_offset b n k + i) j }

  module _ (s s' : State F) (e : SameState K value s s') where
    pub state_sym : SameState K value s' s
    state_sym = record { entries = sym e.entries; length_same = sym e.length_same; numbers = λ i. sym (e.numbers i); lent = sym e.lent }

    pub table_equal : (p : ℕ) → table K value s.shelf p ≡ table K value s'.shelf p
    table_equal p = tables_equal s.shelf.memory s'.shelf.memory e.numbers (begins p) (states_of (entry s.shelf p)) (letters_of (entry s.shelf p))
        ∙ ap (λ es. table_at K value s'.shelf.memory (begins p) (states_of (at_place empty es p)) (letters_of (at_place empty es p))) e.entries

    pub lends_same : (l l' : Lent) (t t' : State F) → l ≡ l' → KeepsShelf K value s l t → KeepsShelf K value s' l' t' → SameState K value t t'
    lends_same l l' t t' d x y = record {
      entries = ap (λ z. z.entries) x.shelf ∙ e.entries ∙ sym (ap (λ z. z.entries) y.shelf);
      length_same = ap (λ z. length z.memory) x.shelf ∙ e.length_same ∙ sym (ap (λ z. length z.memory) y.shelf);
      numbers = λ i. ap (λ z. at K value z.memory i) x.shelf ∙ e.numbers i ∙ sym (ap (λ z. at K value z.memory i) y.shelf);
      lent = x.lent ∙ d ∙ sym y.lent;
    }

    pub empties_same : (p : ℕ) (t t' : State F) → Empties K value s p t → Empties K value s' p t' → SameState K value t t'
    empties_same p t t' x y = record {
      entries = x.entries ∙ ap (λ es. with_place es p empty) e.entries ∙ sym y.entries;
      length_same = ap length x.memory ∙ e.length_same ∙ sym (ap length y.memory);
      numbers = λ i. ap (λ z. at K value z i) x.memory ∙ e.numbers i ∙ sym (ap (λ z. at K value z i) y.memory);
      lent = x.lent ∙ e.lent ∙ sym y.lent;
    }

    pub makes_same : (to : ℕ) (R R' : Table V) (t t' : State F) → SameTable R R' → Makes K value s to R t → Makes K value s' to R' t' → SameState K value t t'
    makes_same to R R' t t' same x y = record {
      entries = x.entries ∙ ap (λ es. with_place es to (filled R.states R.letters)) e.entries ∙ ap₂ (λ n k. with_place s'.shelf.entries to (filled n k)) same.states same.letters ∙ sym y.entries;
      length_same = x.numbers.frame.len ∙ e.length_same ∙ sym y.numbers.frame.len;
      numbers = λ i. go i (dec_lt i (begins to)) (dec_lt i (begins to + table_size R.states R.letters));
      lent = x.lent ∙ e.lent ∙ sym y.lent;
    }
      where
        xs : List F
        xs = t.shelf.memory

        ys : List F
        ys = t'.shelf.memory

        size : table_size R.states R.letters ≡ table_size R'.states R'.letters
        size = ap₂ table_size same.states same.letters

        mine : SameTable (table_at K value xs (begins to) R.states R.letters) R
        mine = x.numbers.same

        other : SameTable (table_at K value ys (begins to) R.states R.letters) R'
        other = subst₂ (λ n k. SameTable (table_at K value ys (begins to) n k) R') (sym same.states) (sym same.letters) y.numbers.same

        both : SameTable (table_at K value xs (begins to) R.states R.letters) (table_at K value ys (begins to) R.states R.letters)
        both = same_trans (table_at K value xs (begins to) R.states R.letters) R (table_at K value ys (begins to) R.states R.letters) mine
            (same_trans R R' (table_at K value ys (begins to) R.states R.letters) same (same_sym (table_at K value ys (begins to) R.states R.letters) R' other))

        go : (i : ℕ) → Dec (i < begins to) → Dec (i < begins to + table_size R.states R.letters) → at K value xs i ≡ at K value ys i
        go i (yes l) q = frame_below K value x.numbers.frame i l ∙ e.numbers i ∙ sym (frame_below K value y.numbers.frame i l)
        go i (no u) (yes l) = values_by_same K value xs ys (begins to) R.states R.letters both i (omega arith) l
        go i (no u) (no v) = frame_above K value x.numbers.frame i (omega arith) ∙ e.numbers i ∙ sym (frame_above K value y.numbers.frame i (omega (arith, size)))
