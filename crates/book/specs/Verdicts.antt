-- The verdict record on two tables. Assumes nothing.
use Rattle.std.specs.Prelude.{◌≡◌, ℕ, ◌-◌, ◌⊎◌, ◌++◌, length, take, replicate}
use Rattle.field.specs.FiniteField.{FiniteField}
use Rattle.series.specs.Words.{Word, ◌≺◌}
use Rattle.series.specs.Listing.{Count}
use Rattle.series.specs.Tables.{Table, weight}
use Rattle.series.specs.Comparing.{Kept, Tried, Alike, LeastDifference}
use Rattle.book.specs.declared.verdict.Kind.{Kind}
use Rattle.book.specs.declared.verdict.Kind.TheVariants as kinds
use Rattle.book.specs.declared.verdict.Verdict.{Verdict}

-- the number of each kind: 0, all words weigh alike; 1, some word does not; another, which compare never writes
abbrev pub kind_number : Kind → ℕ
kind_number kinds.Alike = 0
kind_number kinds.Differs = 1
kind_number (kinds.Other number) = number

-- a record to which nothing is written yet
abbrev pub unwritten : Verdict
unwritten =
    record {
      kind = kinds.Alike;
      tried = 0;
      kept = 0;
      length = 0;
      first = 0;
      second = 0;
      letters = replicate 31 0;
    }

-- the word that a verdict of kind 1 reports
abbrev pub reported : Verdict → Word
reported v = take v.length v.letters

module _ {V : Type 0} (K : FiniteField V) (S T : Table V) where
  -- all words weigh alike: kind 0, how many words are tried and kept, and zeros
  pub record SaysAlike (v : Verdict) : Type 0 where
    pub alike : Alike K S T
    pub kind : v.kind ≡ kinds.Alike
    pub tried : Count (Tried K S T) v.tried
    pub kept : Count (Kept K S T) v.kept
    pub length_zero : v.length ≡ 0
    pub first : v.first ≡ 0
    pub second : v.second ≡ 0
    pub letters : v.letters ≡ replicate 31 0

  -- some word does not: kind 1, how many words are tried up to the least such word, itself counted, a
  -- kept number of 0, its length, the codes of its weights under the first and the second table, and
  -- its letters, unused places 0
  pub record SaysDifferent (v : Verdict) : Type 0 where
    pub word : Word
    pub least : LeastDifference K S T word
    pub kind : v.kind ≡ kinds.Differs
    pub tried : Count (λ u. Tried K S T u × ((u ≺ word) ⊎ (u ≡ word))) v.tried
    pub kept : v.kept ≡ 0
    pub length_word : v.length ≡ length word
    pub first : v.first ≡ K.code (weight K S word)
    pub second : v.second ≡ K.code (weight K T word)
    pub letters : v.letters ≡ word ++ replicate (31 - length word) 0

  -- the verdict on the two tables
  abbrev pub Says : Verdict → Type 0
  Says v = SaysAlike v ⊎ SaysDifferent v
