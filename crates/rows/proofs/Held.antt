-- Rows side by side, and tables that whole slices hold. Assumes nothing.
use Rattle.std.proofs.Common.{◌≡◌, ℕ, ◌+◌, ◌-◌, ◌*◌, ◌<◌, ◌≤◌, List, ◌++◌, length, take, drop, get_or, sym, refl, ap, ◌∙◌, subst, arith, rules}
use Rattle.std.proofs.lemmas.List.{places, length-append, length-take, length-take-le, length-drop, get_or-take, get_or-append-add, get_or_append_left}
use borrow.Rule.Slice.PartMut.{put_mid}
use Rattle.std.proofs.lemmas.Nat.{mul-add-lt}
use Rattle.field.specs.FiniteField.{FiniteField}
use Rattle.series.specs.Words.{Word, Over}
use Rattle.field.specs.Rows.{Agree, at, row_at, RowOf}
use Rattle.series.specs.Tables.{Table, beside, weight}
use Rattle.series.proofs.Weights.{same_weight}
use Rattle.series.proofs.Places.{both_parts, beside_left, beside_right}
use Rattle.rows.specs.Layout.{table_size, table_at, matrix_offset, end_offset}
use Rattle.rows.specs.Seen.{HoldsTable}
use Rattle.rows.specs.Writing.{StandsAt}
use Rattle.rows.proofs.Memory.{at_copied}
use Rattle.field.proofs.Rows.{length_part, at_part}
use Rattle.rows.proofs.Splits.{at_front, at_back}
use Rattle.rows.proofs.Layouts.{matrix_within}

module _ {X : Type 0} where
  -- an element before the part that is written
  pub before_part : (a k : ℕ) (xs ys : List X) (i : ℕ) (d : X) → i < a → a ≤ length xs → get_or (put_mid a k xs ys) i d ≡ get_or xs i d
  before_part a k xs ys i d l h = get_or_append_left (take a xs) _ d i (omega (arith, length-take-le a xs h)) ∙ get_or-take a xs i d l

  -- an element behind that part
  pub behind_part : (a k : ℕ) (xs ys : List X) (i : ℕ) (d : X) → a + k ≤ i → length ys ≡ k → a + k ≤ length xs → get_or (put_mid a k xs ys) i d ≡ get_or xs i d
  behind_part a k xs ys i d l e h = search (rules, places)

  -- a part of a slice stands where it was taken from
  pub stands_part : (a b n : ℕ) (xs : List X) → a + n ≡ b → b ≤ length xs → StandsAt n a (take (b - a) (drop a xs)) xs
  stands_part a b n xs e h j d l = search (rules, places)

  -- an element of that part
  pub in_part : (a k : ℕ) (xs ys : List X) (j : ℕ) (d : X) → j < length ys → a ≤ length xs → get_or (put_mid a k xs ys) (a + j) d ≡ get_or ys j d
  in_part a k xs ys j d l h =
      ap (λ i. get_or (put_mid a k xs ys) (i + j) d) {x = a} {y = length (take a xs)} (omega (arith, length-take-le a xs h))
      ∙ get_or-append-add (take a xs) _ j d
      ∙ get_or_append_left ys _ d j l

module _ {F V : Type 0} (K : FiniteField V) (v : F → V) where
  pub row_copied : {n : ℕ} {x : ℕ → V} {xs ys : List F} → ys ≡ xs → RowOf K v n x xs → RowOf K v n x ys
  row_copied {n} {x} e r = subst (RowOf K v n x) (sym e) r

  pub row_same : {n : ℕ} {x y : ℕ → V} {xs : List F} → RowOf K v n x xs → Agree n x y → RowOf K v n y xs
  row_same r e = record { len = r.len; same = λ i l. r.same i l ∙ e i l }

  pub row_long : {n m : ℕ} {x : ℕ → V} {xs : List F} → RowOf K v n x xs → n ≡ m → RowOf K v m x xs
  row_long {n} {m} {x} {xs} r e = subst (λ l. RowOf K v l x xs) e r

  -- two rows side by side
  pub row_beside : {n m : ℕ} {x y : ℕ → V} (xs ys : List F) → RowOf K v n x xs → RowOf K v m y ys → RowOf K v (n + m) (beside n x y) (xs ++ ys)
  row_beside {n} {m} {x} {y} xs ys e f = record {
    len = length-append xs ys ∙ omega arith;
    same = both_parts n m (λ i. at K v (xs ++ ys) i ≡ beside n x y i)
        (λ i l. at_front K v xs ys i (omega arith) ∙ e.same i l ∙ sym (beside_left n x y i l))
        (λ i l. at_back K v xs ys n i e.len ∙ f.same i l ∙ sym (beside_right n x y i));
  }

  -- a row whose elements stand in a longer slice
  pub row_within_slice : {n : ℕ} {x : ℕ → V} (b : ℕ) (ys xs : List F) → RowOf K v n x ys → ((j : ℕ) (d : F) → j < n → get_or xs (b + j) d ≡ get_or ys j d) → b + n ≤ length xs → Agree n (row_at K v xs b) x
  row_within_slice b ys xs r e h j l = at_copied K v ys xs j (b + j) (omega arith) (omega arith) (λ d. e j d l) ∙ r.same j l

  -- start row, rows of the matrices and end column make up the table
  pub held_from_parts : (T : Table V) (xs : List F) → length xs ≡ table_size T.states T.letters → Agree T.states (row_at K v xs 0) T.start
      → ((a i : ℕ) → 1 ≤ a → a ≤ T.letters → i < T.states → Agree T.states (row_at K v xs (T.states + (a - 1) * (T.states * T.states) + i * T.states)) (T.step a i))
      → Agree T.states (row_at K v xs (end_offset 0 T.states T.letters)) T.end → HoldsTable K v T xs
  held_from_parts T xs len first rows last = record {
    len = len;
    same = record {
      states = refl;
      letters = refl;
      start = first;
      step = λ a low high i h j l. ap (at K v xs) (omega arith) ∙ rows a i low high h j l;
      end = last;
    };
  }

  -- a table that is held weighs every word over its letters as it should
  pub held_weighs : (T : Table V) (xs : List F) → HoldsTable K v T xs → (w : Word) → Over T.letters w → weight K (table_at K v xs 0 T.states T.letters) w ≡ weight K T w
  held_weighs T xs made = same_weight K (table_at K v xs 0 T.states T.letters) T made.same

  -- with another start row before what follows it
  pub held_but_start : (T : Table V) {x : ℕ → V} (xs ys zs : List F) → HoldsTable K v T xs → RowOf K v T.states x ys → zs ≡ take (length xs - T.states) (drop T.states xs)
      → HoldsTable K v (record { states = T.states; letters = T.letters; start = x; step = T.step; end = T.end }) (ys ++ zs)
  held_but_start T xs ys zs made first rest =
      let size : length zs ≡ length xs - T.states = ap length rest ∙ length_part T.states (length xs) xs (omega (arith, made.len)) (omega arith) in
      let kept : (i : ℕ) → T.states ≤ i → i < length xs → at K v (ys ++ zs) i ≡ at K v xs i =
      λ i low l.
      ap (at K v (ys ++ zs)) {x = i} {y = T.states + (i - T.states)} (omega arith)
      ∙ at_back K v ys zs T.states (i - T.states) first.len
      ∙ ap (λ l. at K v l (i - T.states)) rest
      ∙ at_part K v T.states (length xs) xs (i - T.states) (omega arith)
      ∙ ap (at K v xs) {x = T.states + (i - T.states)} {y = i} (omega arith) in
      record {
        len = length-append ys zs ∙ omega (arith, first.len, made.len);
        same = record {
          states = refl;
          letters = refl;
          start = λ i l. at_front K v ys zs (0 + i) (omega (arith, first.len)) ∙ ap (at K v ys) {x = 0 + i} {y = i} (omega arith) ∙ first.same i l;
          step = λ a low high i h j l.
              kept (matrix_offset 0 T.states a + (i * T.states + j)) (omega arith)
              (omega (arith, made.len, matrix_within a T.letters (T.states * T.states) low high, mul-add-lt i T.states j T.states h l))
              ∙ made.same.step a low high i h j l;
          end = λ i l. kept (end_offset 0 T.states T.letters + i) (omega arith) (omega (arith, made.len)) ∙ made.same.end i l;
        };
      }

  -- with another end column written over its own
  pub held_but_end : (T : Table V) {x : ℕ → V} (e k : ℕ) (xs ys : List F) → HoldsTable K v T xs → RowOf K v T.states x ys → e ≡ end_offset 0 T.states T.letters → e + k ≡ length xs
      → HoldsTable K v (record { states = T.states; letters = T.letters; start = T.start; step = T.step; end = x }) (put_mid e k xs ys)
  held_but_end T e k xs ys made last from size =
      let whole : length (put_mid e k xs ys) ≡ length xs = simp (length-append, length-take, length-drop) (omega (arith, last.len, made.len)) in
      let kept : (i : ℕ) → i < e → at K v (put_mid e k xs ys) i ≡ at K v xs i =
      λ i l. at_copied K v xs (put_mid e k xs ys) i i (omega arith) (omega arith) (λ d. before_part e k xs ys i d l (omega arith)) in
      record {
        len = whole ∙ made.len;
        same = record {
          states = refl;
          letters = refl;
          start = λ i l. kept (0 + i) (omega arith) ∙ made.same.start i l;
          step = λ a low high i h j l.
              kept (matrix_offset 0 T.states a + (i * T.states + j))
              (omega (arith, matrix_within a T.letters (T.states * T.states) low high, mul-add-lt i T.states j T.states h l))
              ∙ made.same.step a low high i h j l;
          end =
              row_within_slice (end_offset 0 T.states T.letters) ys (put_mid e k xs ys) last
              (λ j d l. ap (λ z. get_or (put_mid e k xs ys) (z + j) d) (sym from) ∙ in_part e k xs ys j d (omega (arith, last.len)) (omega arith))
              (omega (arith, made.len));
        };
      }
