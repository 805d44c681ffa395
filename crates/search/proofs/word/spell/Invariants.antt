use Rattle.std.proofs.Common.{◌≡◌, ℕ, ◌+◌, ◌-◌, ◌<◌, ◌≤◌, [], ◌∷◌, ◌++◌, length, take, drop, replicate, reverse}
use Rattle.series.specs.Words.{Word}
use Rattle.walk.specs.Walking.{kept, Linked}
use Rattle.search.proofs.word.spell.Given as goal

-- the word j stands before the letters that are written, which stand backwards
abbrev pub invariant-loop-j : goal.invariant-loop-j
invariant-loop-j l = record {
  inside : l.j < kept l.walk;
  long : length l.letters ≡ 31;
  some : 1 ≤ l.length;
  few : l.length ≤ 31;
  zeros : drop l.length l.letters ≡ replicate (31 - l.length) 0;
  lengths : (words : ℕ → Word) → Linked (kept l.walk) words l.walk.links.items → length (words l.j) + l.length ≡ length (words l.fn.last.parent) + 1;
  spelt : (words : ℕ → Word) → Linked (kept l.walk) words l.walk.links.items → words l.j ++ reverse (take l.length l.letters) ≡ words l.fn.last.parent ++ l.fn.last.letter ∷ [];
}

abbrev pub decreases-loop-j : goal.decreases-loop-j
decreases-loop-j l = l.j
