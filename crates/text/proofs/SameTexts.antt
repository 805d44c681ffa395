-- Tables that agree number for number have one text. Assumes nothing.
use Rattle.std.proofs.Common.{◌≡◌, ℕ, zero, suc, ◌+◌, ◌<◌, ◌≤◌, List, [], ◌∷◌, ◌++◌, map, refl, ap, ◌∙◌, ap₂, arith}
use Rattle.std.specs.List.{range_with_len, flat_map}
use Rattle.field.specs.FiniteField.{FiniteField}
use Rattle.field.specs.Rows.{Agree}
use Rattle.series.specs.Tables.{Table, SameTable}
use Rattle.columns.specs.Lines.{letter, line}
use Rattle.text.specs.Texts.{row_codes, body_of, text_of}
use Rattle.columns.specs.declared.line.Kind.TheVariants as kind
use Rattle.text.proofs.Joins.{joined_same}

map_same : (f g : ℕ → ℕ) (a n : ℕ) → ((i : ℕ) → a ≤ i → i < a + n → f i ≡ g i) → map f (range_with_len a n) ≡ map g (range_with_len a n)
map_same f g a zero h = refl
map_same f g a (suc n) h = ap₂ (λ x xs. x ∷ xs) (h a (omega arith) (omega arith)) (map_same f g (a + 1) n (λ i l m. h i (omega arith) (omega arith)))

module _ {V : Type 0} (K : FiniteField V) where
  codes_same : (n : ℕ) (x y : ℕ → V) → Agree n x y → row_codes K n x ≡ row_codes K n y
  codes_same n x y h = map_same (λ i. K.code (x i)) (λ i. K.code (y i)) 0 n (λ i l m. ap K.code (h i (omega arith)))

  -- the text of the table with these parts
  abbrev whole : ℕ → ℕ → (ℕ → V) → (ℕ → ℕ → ℕ → V) → (ℕ → V) → List ℕ
  whole n k s m e = text_of K (record { states = n; letters = k; start = s; step = m; end = e })

  module _ (n k : ℕ) (s s' : ℕ → V) (m m' : ℕ → ℕ → ℕ → V) (e e' : ℕ → V) (starts : Agree n s s') (steps : (a : ℕ) → 1 ≤ a → a ≤ k → (i : ℕ) → i < n → Agree n (m a i) (m' a i)) (ends : Agree n e e') where
    rows_same : (a : ℕ) → 1 ≤ a → a < 1 + k → flat_map (λ i. line (letter kind.Matrix) (a ∷ (i + 1) ∷ row_codes K n (m a i))) (range_with_len 0 n) ≡ flat_map (λ i. line (letter kind.Matrix) (a ∷ (i + 1) ∷ row_codes K n (m' a i))) (range_with_len 0 n)
    rows_same a low high = joined_same (λ i. line (letter kind.Matrix) (a ∷ (i + 1) ∷ row_codes K n (m a i))) (λ i. line (letter kind.Matrix) (a ∷ (i + 1) ∷ row_codes K n (m' a i))) 0 n
        (λ i l h. ap (λ vs. line (letter kind.Matrix) (a ∷ (i + 1) ∷ vs)) (codes_same n (m a i) (m' a i) (steps a low (omega arith) i (omega arith))))

    whole_same : whole n k s m e ≡ whole n k s' m' e'
    unfolding text_of body_of
    whole_same = ap (λ z. line (letter kind.Table) (n ∷ k ∷ K.q ∷ []) ++ z)
        (ap₂ (λ x y. line (letter kind.Start) x ++ y) (codes_same n s s' starts)
        (ap₂ (λ x y. x ++ (line (letter kind.End) y ++ line (letter kind.Close) []))
        (joined_same (λ a. flat_map (λ i. line (letter kind.Matrix) (a ∷ (i + 1) ∷ row_codes K n (m a i))) (range_with_len 0 n)) (λ a. flat_map (λ i. line (letter kind.Matrix) (a ∷ (i + 1) ∷ row_codes K n (m' a i))) (range_with_len 0 n)) 1 k rows_same)
        (codes_same n e e' ends)))

  pub text_same : (S T : Table V) → SameTable S T → text_of K S ≡ text_of K T
  text_same S T h = whole_same S.states S.letters S.start T.start S.step T.step S.end T.end h.start h.step h.end
      ∙ ap₂ (λ n k. whole n k T.start T.step T.end) h.states h.letters
