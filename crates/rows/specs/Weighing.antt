-- The result of weighing a word. Assumes nothing.
use Rattle.std.specs.Prelude.{◌≡◌, ℕ, ◌+◌, ◌≤◌, ◌∷◌, ◌++◌, length, Result, MatchResult}
use Rattle.field.specs.FiniteField.{FiniteField}
use Rattle.series.specs.Words.{Word, Over}
use Rattle.series.specs.Tables.{Table, weight}
use Rattle.rows.specs.declared.weight.LetterOutside.{LetterOutside}

-- the first letter of w that is none of 1 to k stands at the position p, counted from 1
pub record FirstOutside (k : ℕ) (w : Word) (p : ℕ) : Type 0 where
  pub front : Word
  pub letter : ℕ
  pub rest : Word
  pub parts : w ≡ front ++ letter ∷ rest
  pub good : Over k front
  pub outside : (1 ≤ letter) × (letter ≤ k) → ⊥
  pub position : p ≡ length front + 1

-- the weight of a word over the table's letters, or its first letter that the table lacks
abbrev pub Weighed : {F V : Type 0} → FiniteField V → (F → V) → Table V → Word → Result F LetterOutside → Type 0
Weighed K value T w r = MatchResult r (λ x. Over T.letters w × (value x ≡ weight K T w)) (λ e. FirstOutside T.letters w e.position)
