use Rattle.std.proofs.Common.{◌≡◌, ◌+◌, ◌==◌, List, ◌++◌, ℕ, length, count_by, vec_items}
use Rattle.scripting.specs.Reading.{Reached, texts_in}
use Rattle.scripting.proofs.reading.read.Given as goal

-- the script up to the line that comes next, whose number is one more than the newlines before it
abbrev pub invariant-loop-rest : goal.invariant-loop-rest
invariant-loop-rest l = record {
  front : List ℕ;
  whole : front ++ l.rest ≡ l.script;
  counted : l.number ≡ 1 + count_by (λ b. b == 10) front;
  reached : Reached l.script (texts_in l.texts) l.rest (vec_items l.lines);
}

abbrev pub decreases-loop-rest : goal.decreases-loop-rest
decreases-loop-rest l = length l.rest
