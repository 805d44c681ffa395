-- How two tables with one letter count compare. Assumes nothing.
use Rattle.std.specs.Prelude.{◌≡◌, ℕ, ◌+◌, ◌*◌, ◌<◌, ◌≤◌, ◌⊎◌, length}
use Rattle.field.specs.FiniteField.{FiniteField}
use Rattle.series.specs.Comparing.{Kept, Tried, Alike, LeastDifference}
use Rattle.series.specs.Listing.{Count}
use Rattle.series.specs.Tables.{Table, weight}
use Rattle.series.specs.Words.{Word, ◌≺◌}

-- a word of which Good holds and that is not after w
abbrev pub NotAfter : (Word → Type 0) → Word → Word → Type 0
NotAfter Good w v = Good v × ((v ≺ w) ⊎ (v ≡ w))

module _ {V : Type 0} (K : FiniteField V) (S T : Table V) where
  -- all words weigh alike, and so many words are tried and kept
  pub record AllAlike (tried kept : ℕ) : Type 0 where
    pub alike : Alike K S T
    pub tried_counted : Count (Tried K S T) tried
    pub kept_counted : Count (Kept K S T) kept
    -- these two follow
    pub tried_by_kept : tried ≡ 1 + S.letters * kept
    pub few_kept : kept ≤ S.states + T.states

  -- w is the least word that weighs differently, these are the codes of its weights, and so many tried words are not after it
  pub record FirstDifference (w : Word) (tried left right : ℕ) : Type 0 where
    pub difference : LeastDifference K S T w
    pub left_is : left ≡ K.code (weight K S w)
    pub right_is : right ≡ K.code (weight K T w)
    pub tried_counted : Count (NotAfter (Tried K S T) w) tried
    -- these two follow
    pub short : length w < S.states + T.states
    pub few_tried : tried ≤ 1 + S.letters * (S.states + T.states)
