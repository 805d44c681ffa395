use Rattle.std.proofs.Common.{◌+◌, ◌≤◌, length, sym, ap, ◌∙◌, arith, rules}
use Rattle.std.proofs.lemmas.List.{take_all, length_push}
use Rattle.columns.specs.Lines.{numbers}
use Rattle.columns.proofs.Filled.{one_left, next_small, all_given, numbers_next}
use Rattle.columns.proofs.column.put_numbers.Given as given
use Rattle.columns.proofs.column.put_numbers.Goals as goal
use Rattle.columns.proofs.column.put_numbers.Goals.{In-Some}

-- there is room for one more number
room : (g : given.Over) (c : In-Some g) → c.loop-value.at + 11 ≤ length c.loop-value.out
room g c =
    let h = c.requires.fill in
    let more = one_left g.I.Iterator.next_gives _ _ c.into_iter-value-iterator.ensures.into_iter_gives _ h.1 _ _ c.loop-value.yielded_by _ _ c.next.ensures.steps c.in-Some.value c.in-Some.is in
    omega (arith, h.3, c.loop-value.invariant.2)

pub overflow_add-at : goal.overflow_add-at
overflow_add-at g c = let h = room g (goal.at.overflow_add-at g c).In-Some in search rules

pub slice_bounds-put_number-end : goal.slice_bounds-put_number-end
slice_bounds-put_number-end g c = let h = room g (goal.at.slice_bounds-put_number-end g c).In-Some in omega arith

pub put_number-requires-clause-ten_digits : goal.put_number-requires-clause-ten_digits
put_number-requires-clause-ten_digits g c = let h = c.requires.fill in next_small g.I.Iterator.next_gives _ _ c.into_iter-value-iterator.ensures.into_iter_gives _ h.1 _ _ c.loop-value.yielded_by _ _ c.next.ensures.steps c.in-Some.value c.in-Some.is h.2

pub loop-value-preserved : goal.loop-value-preserved
loop-value-preserved g c =
    let goes = c.in-Some.ensures.goes.on c.loop-value.invariant.1 in
    let h = c.requires.fill in
    let small = next_small g.I.Iterator.next_gives _ _ c.into_iter-value-iterator.ensures.into_iter_gives _ h.1 _ _ c.loop-value.yielded_by _ _ c.next.ensures.steps c.in-Some.value c.in-Some.is h.2 in
    (goes.0, goes.1, omega (arith, c.loop-value.invariant.2, length_push c.loop-value.yielded c.in-Some.value), numbers_next c.loop-value.at _ c.in-Some.value c.loop-value.out c.loop-value.yielded c.put_number.new.columns (room g (goal.at.loop-value-preserved g c).In-Some) small c.put_number.ensures.written c.loop-value.invariant.3)

pub returns : goal.returns
returns g c = record {
  written = λ vs gives.
      let h = c.requires.fill in
      let begins = c.into_iter-value-iterator.ensures.into_iter_gives in
      let some = all_given g.I.Iterator.next_gives _ _ begins _ h.1 _ _ c.loop-value.yielded_by _ _ c.next.ensures.steps c.in-None.is in
      let all = all_given g.I.Iterator.next_gives _ _ begins _ gives _ _ c.loop-value.yielded_by _ _ c.next.ensures.steps c.in-None.is in
      sym (take_all c.loop-value.at c.loop-value.out (omega (arith, c.loop-value.invariant.2, h.3, ap length some))) ∙ c.loop-value.invariant.3 ∙ ap numbers all;
}
