-- How a word is reported. Assumes nothing.
use Rattle.std.specs.Prelude.{◌≡◌, ℕ, ◌-◌, ◌<◌, ◌≤◌, ◌++◌, length, replicate}
use Rattle.series.specs.Words.{Word}
use Rattle.walk.specs.Walking.{kept, Linked}
use Rattle.walk.specs.declared.links.Walk.{Walk}
use Rattle.search.specs.declared.word.ReportedWord.{ReportedWord}

-- r has the letters of w, and 0 behind them
pub record Spells (r : ReportedWord) (w : Word) : Type 0 where
  pub fits : length w ≤ 31
  pub length_is : r.length ≡ length w
  pub letters_are : r.letters ≡ w ++ replicate (31 - length w) 0

-- the kept words are linked, and the word `parent` leaves room for one letter more
pub record Spellable (w : Walk) (parent : ℕ) : Type 0 where
  pub words : ℕ → Word
  pub linked : Linked (kept w) words w.links.items
  pub inside : parent < kept w
  pub few : kept w ≤ 32
  pub fits : length (words parent) < 31
