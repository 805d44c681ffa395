-- The result of comparing two tables. Assumes nothing.
use Rattle.std.specs.Prelude.{◌≡◌, ℕ, ◌-◌, ◌≤◌, take, drop, replicate}
use Rattle.field.specs.FiniteField.{FiniteField}
use Rattle.series.specs.Tables.{Table}
use Rattle.series.specs.Words.{Word}
use Rattle.series.specs.Comparing.{Alike as AllWordsAlike}
use Rattle.walk.specs.Comparing.{AllAlike, FirstDifference}
use Rattle.walk.specs.Pairs.{left_table, right_table}
use Rattle.walk.specs.declared.pairs.Pair.{Pair}
use Rattle.search.specs.declared.compare.Comparison.{Comparison}
use Rattle.search.specs.declared.compare.Comparison.TheVariants.{Alike, Differs}
use Rattle.search.specs.declared.word.ReportedWord.{ReportedWord}

-- the word that is reported
abbrev pub spelling : ReportedWord → Word
spelling r = take r.length r.letters

-- a reported word has at most 31 letters, and 0 in the places behind them
pub record Padded (r : ReportedWord) : Type 0 where
  pub fits : r.length ≤ 31
  pub zeros : drop r.length r.letters ≡ replicate (31 - r.length) 0

-- the word of a report is the first that weighs differently
pub record Reported {V : Type 0} (K : FiniteField V) (S T : Table V) (word : ReportedWord) (tried left right : ℕ) : Type 0 where
  pub padded : Padded word
  pub first : FirstDifference K S T (spelling word) tried left right

-- the result states how the two tables compare
abbrev pub Compared : {V : Type 0} → FiniteField V → Table V → Table V → Comparison → Type 0
Compared K S T (Alike tried kept) = AllAlike K S T tried kept
Compared K S T (Differs word tried left right) = Reported K S T word tried left right

-- a pair of tables that lie in memory
module _ {V : Type 0} (K : FiniteField V) {F : Type 0} (value : F → V) (both : Pair F) where
  -- the result states how the two compare
  abbrev pub Compares : Comparison → Type 0
  Compares r = Compared K (left_table K value both) (right_table K value both) r

  -- all words weigh alike under the two
  abbrev pub WeighAlike : Type 0
  WeighAlike = AllWordsAlike K (left_table K value both) (right_table K value both)

-- the result is that all words weigh alike
abbrev pub SaysAlike : Comparison → Type 0
SaysAlike (Alike tried kept) = Unit {0}
SaysAlike (Differs word tried left right) = ⊥

-- of tables with at most 16 states and 6 letters at most 193 words are tried and 32 kept, and a reported word has at most 31 letters
abbrev pub Bounded : Comparison → Type 0
Bounded (Alike tried kept) = (tried ≤ 193) × (kept ≤ 32)
Bounded (Differs word tried left right) = (tried ≤ 193) × (word.length ≤ 31)
