-- Rows in echelon form and what they leave of a row, where rows are said in another way. Assumes nothing.
use Rattle.std.proofs.Common.{◌≡◌, ℕ, suc, ◌+◌, ◌*◌, ◌<◌, ◌≢◌, List, ◌++◌, length, sym, refl, ap, ◌∙◌, arith}
use Rattle.std.proofs.lemmas.Nat.{mul-add-lt}
use Rattle.field.specs.FiniteField.{FiniteField}
use Rattle.series.specs.EliminationProgress.{Echelon}
use Rattle.field.specs.Rows.{Agree, at, square_at}
use Rattle.series.proofs.SpanLaws.{span_same, span_span, span_member}
use Rattle.series.proofs.Echelons.{echelon_few, echelon_more}
use Rattle.rows.proofs.Splits.{at_front}
use Rattle.elimination.specs.Elimination.{Remainder, NothingLeft, NewRow}
use Rattle.elimination.proofs.Updates.{updated, updated_here, updated_other}

module _ {V : Type 0} (K : FiniteField V) where
  -- what is left over has a pivot of its own
  pub remainder_room : (d n : ℕ) (q : ℕ → ℕ → V) (p : ℕ → ℕ) (x y : ℕ → V) → Echelon K (λ i. i < d) n q p → Remainder K d n q p x y → (b : ℕ) → b < d → y b ≢ K.zero → n < d
  remainder_room d n q p x y e l b w u =
      echelon_few K d (suc n) (updated n q y) (updated n p b)
      (echelon_more K (λ i. i < d) n q (updated n q y) p (updated n p b) e
      (λ i h j g. ap (λ f. f j) (updated_other n q y i (omega arith)))
      (λ i h. updated_other n p b i (omega arith))
      (rw (updated_here n p b) w)
      (λ z. u (sym (ap (λ f. f b) (updated_here n q y)) ∙ ap (updated n q y n) (sym (updated_here n p b)) ∙ z))
      (λ i h. ap (λ f. f (p i)) (updated_here n q y) ∙ l.cleared i h))

  -- the same of rows with the same entries
  pub echelon_same : (d n : ℕ) (q q' : ℕ → ℕ → V) (p : ℕ → ℕ) → ((b : ℕ) → b < n → Agree d (q' b) (q b)) → Echelon K (λ i. i < d) n q p → Echelon K (λ i. i < d) n q' p
  echelon_same d n q q' p s e =
      record {
        within = e.within;
        apart = λ i l z. e.apart i l (sym (s i l (p i) (e.within i l)) ∙ z);
        clear = λ i j l h. s j h (p i) (e.within i (omega arith)) ∙ e.clear i j l h;
      }

  pub remainder_same : (d n : ℕ) (q q' : ℕ → ℕ → V) (p : ℕ → ℕ) (x x' y : ℕ → V) → ((b : ℕ) → b < n → Agree d (q' b) (q b)) → Agree d x' x → Remainder K d n q' p x' y → Remainder K d n q p x y
  remainder_same d n q q' p x x' y s e l =
      record {
        taken =
            span_same K (λ i. i < d) (λ i. K.plus (x i) (K.opposite (y i))) (λ i h. ap (λ v. K.plus v (K.opposite (y i))) (sym (e i h)))
            (span_span K (λ i. i < d) (λ v m. span_same K (λ i. i < d) v (λ i h. ap (λ w. w i) m.2 ∙ s m.0 m.1 i h) (span_member K (λ i. i < d) (m.0, m.1, refl))) l.taken);
        cleared = l.cleared;
      }

  -- a remainder that is zero everywhere is nothing
  pub remainder_nothing : (d n : ℕ) (q : ℕ → ℕ → V) (p : ℕ → ℕ) (x y : ℕ → V) → Remainder K d n q p x y → Agree d y (λ _. K.zero) → NothingLeft K d n q p x
  remainder_nothing d n q p x y l z =
      record {
        taken = span_same K (λ i. i < d) (λ i. K.plus (x i) (K.opposite K.zero)) (λ i h. ap (λ v. K.plus (x i) (K.opposite v)) (sym (z i h))) l.taken;
        cleared = λ i h. refl;
      }

  -- the same of a row with the same entries
  pub nothing_same : (d n : ℕ) (q : ℕ → ℕ → V) (p : ℕ → ℕ) (x x' : ℕ → V) → Agree d x x' → NothingLeft K d n q p x → NothingLeft K d n q p x'
  nothing_same d n q p x x' e u = remainder_same d n q q p x' x (λ _. K.zero) (λ b l j h. refl) e u

  pub new_same : (d n : ℕ) (q : ℕ → ℕ → V) (p : ℕ → ℕ) (x x' : ℕ → V) (b : ℕ) (z z' : ℕ → V) → Agree d x x' → Agree d z' z → NewRow K d n q p x b z → NewRow K d n q p x' b z'
  new_same d n q p x x' b z z' e f u =
      record {
        rest = u.rest;
        remainder = remainder_same d n q q p x' x u.rest (λ b l j h. refl) e u.remainder;
        within = u.within;
        apart = u.apart;
        scaled = λ j l. f j l ∙ u.scaled j l;
        room = u.room;
      }

  -- a new row is one at its pivot
  pub new_one : (d n : ℕ) (q : ℕ → ℕ → V) (p : ℕ → ℕ) (x : ℕ → V) (b : ℕ) (z : ℕ → V) → NewRow K d n q p x b z → z b ≡ K.one
  new_one d n q p x b z u = u.scaled b u.within ∙ K.times_comm (K.inverse (u.rest b)) (u.rest b) ∙ K.times_inverse (u.rest b) u.apart

  -- rows that are the first part of a slice
  pub rows_before : {F : Type 0} (v : F → V) (n count : ℕ) (xs front back : List F) → xs ≡ front ++ back → length front ≡ count * n → (b : ℕ) → b < count → Agree n (square_at K v front 0 n b) (square_at K v xs 0 n b)
  rows_before v n count xs front back e h b l j g = sym (ap (λ zs. at K v zs (0 + (b * n + j))) e ∙ at_front K v front back (0 + (b * n + j)) (omega (arith, mul-add-lt b n j count l g)))
