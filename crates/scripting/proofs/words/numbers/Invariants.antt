use Rattle.std.proofs.Common.{◌≡◌, ℕ, ◌+◌, List, ◌++◌, length, take}
use Rattle.scripting.specs.Numerals.{Numbers}
use Rattle.scripting.specs.Refusing.{NoNumbers}
use Rattle.scripting.specs.declared.mistake.Reason.{Reason}
use Rattle.scripting.proofs.words.numbers.Given as goal

-- what is left, read, gives the whole, and what is wrong with it is wrong with the whole
abbrev pub invariant-loop-n : goal.invariant-loop-n
invariant-loop-n g l = record {
  n_in_all : length l.n-items ≡ g.row.N;
  whole : (ns : List ℕ) → Numbers l.rest ns → Numbers l.initial.rest (take l.n-index l.n-items ++ ns);
  wrong : (m : ℕ) (r : Reason) → l.n-index + m ≡ g.row.N → NoNumbers m l.rest r → NoNumbers g.row.N l.initial.rest r;
}
