-- Calls are made on a shelf that was opened. Assumes nothing.
use Rattle.std.proofs.Common.{◌≡◌, ℕ, List, ◌≤◌, length, take, replicate, ap, ◌∙◌}
use Rattle.std.proofs.lemmas.List.{take-replicate}
use Rattle.field.specs.FiniteField.{FiniteField}
use Rattle.book.specs.Shelves.{State, Entry, empty}
use Rattle.book.specs.declared.verdict.Verdict.{Verdict}
use Rattle.shelf.specs.Views.{state}
use Rattle.scripting.specs.Performing.{Makes, MakesOnFresh}
use Rattle.scripting.specs.declared.performing.Task.{Task}

module _ {V : Type 0} (K : FiniteField V) {F : Type 0} (value : F → V) where
  -- its memory is the front of all that there is, and what was lent before is lent again
  pub on_fresh : {left : State F} {tasks : List Task} {shown : List ℕ} {front : ℕ} (n : ℕ) (entries : List Entry) (zero : F) (work : ℕ) (output : List ℕ) (verdict : Verdict) → entries ≡ replicate 8 empty → value zero ≡ K.zero → front ≡ n → work ≡ 8192 → length output ≡ 19593
      → Makes K value (state entries (take front (replicate 12544 zero)) work output verdict) tasks left shown → front ≤ 12544 → MakesOnFresh K value n tasks shown
  on_fresh {left} {tasks} {shown} {front} n entries zero work output verdict opened is_zero size all_work all_output makes within =
      let first : State F = state entries (take front (replicate 12544 zero)) work output verdict in
      record {
        first = first;
        fresh = record {
          empty = opened;
          zero = zero;
          is_zero = is_zero;
          memory = take-replicate front 12544 zero within ∙ ap (λ k. replicate k zero) size;
          work = all_work;
          output = all_output;
        };
        left = left;
        makes = makes;
      }
