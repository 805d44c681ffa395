use Rattle.std.proofs.Common.{ℕ, List, ◌++◌, length, vec_items}
use Rattle.scripting.specs.Numerals.{Numbers}
use Rattle.scripting.specs.Refusing.{NoLetters}
use Rattle.scripting.specs.declared.mistake.Reason.{Reason}
use Rattle.scripting.proofs.words.letters.Given as goal

-- what is left, read, gives the whole, and what is wrong with it is wrong with the whole
abbrev pub invariant-loop-first : goal.invariant-loop-first
invariant-loop-first l = record {
  whole : (ns : List ℕ) → Numbers l.rest ns → Numbers l.initial.rest (vec_items l.all ++ ns);
  wrong : (r : Reason) → NoLetters l.rest r → NoLetters l.initial.rest r;
}

abbrev pub decreases-loop-first : goal.decreases-loop-first
decreases-loop-first l = length l.rest
