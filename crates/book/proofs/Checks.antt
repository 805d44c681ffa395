-- The checks of a call, made in rising order of their numbers. Assumes nothing.
use Rattle.std.proofs.Common.{◌≡◌, ℕ, zero, suc, ◌-◌, ◌<◌, ◌≤◌, ◌≢◌, length, subst, arith}
use native.Mathlib.Decide.{dec_lt}
use Rattle.field.specs.FiniteField.{FiniteField}
use Rattle.faults.specs.Refusals.{load_refusal}
use Rattle.book.specs.Shelves.{empty, State, Place, entry}
use Rattle.book.specs.Calls.{Call, Among, Names, sources}
use Rattle.book.specs.Refusals.{refusal_number}
use Rattle.book.specs.Refusing.{asks, Meets, outside, short_memory, short_work, vacant, sum_letters, multiply_letters, compare_letters, sum_states, multiply_states, weigh_letter, after_letter, scale_code, write_room, load_fault, Refuses}
use Rattle.book.specs.declared.refusal.Refusal.{Refusal}
use Rattle.book.proofs.OneRefusal.{high}

module _ {V : Type 0} (K : FiniteField V) {F : Type 0} (s : State F) (c : Call) where
  -- no condition is met that has a number up to n
  abbrev pub Passed : ℕ → Type 0
  Passed n = (o : Refusal) → Meets K s c o → n < refusal_number o

  -- the conditions 1 to 4, which calls have in common
  abbrev Common : ℕ → Type 0
  Common zero = ⊥
  Common (suc zero) = (p : ℕ) × Names c p × (¬ (Place p))
  Common (suc (suc zero)) = length s.shelf.memory < (asks c).0
  Common (suc (suc (suc zero))) = s.lent.work < (asks c).1
  Common (suc (suc (suc (suc zero)))) = (p : ℕ) × Among (sources c) p × (entry s.shelf p ≡ empty)
  Common (suc (suc (suc (suc (suc n))))) = Unit {0}

common : {V : Type 0} (K : FiniteField V) {F : Type 0} (s : State F) (c : Call) (o : Refusal) → Meets K s c o → Common K s c (refusal_number o)
common K s c o (outside p m u) = (p, m, u)
common K s c o (short_memory l) = l
common K s c o (short_work l) = l
common K s c o (vacant p m e) = (p, m, e)
common K s c o (sum_letters h) = tt
common K s c o (multiply_letters h) = tt
common K s c o (compare_letters h) = tt
common K s c o (sum_states h) = tt
common K s c o (multiply_states h) = tt
common K s c o (weigh_letter h) = tt
common K s c o (after_letter h) = tt
common K s c o (scale_code h) = tt
common K s c o (write_room h) = tt
common K s c o (load_fault {f = f} h) = let e : suc (suc (suc (suc (suc (load_refusal f - 5))))) ≡ load_refusal f = omega (arith, high f) in subst (Common K s c) e tt

module _ {V : Type 0} (K : FiniteField V) {F : Type 0} (s : State F) (c : Call) where
  -- a check more, where nothing that is met has its number
  pub passed_more : (n : ℕ) → Passed K s c n → ((o : Refusal) → Meets K s c o → refusal_number o ≢ suc n) → Passed K s c (suc n)
  passed_more n past h o m = let a = past o m in let b = h o m in omega arith

  pub passed_0 : Passed K s c 0
  passed_0 o m = go (dec_lt 0 (refusal_number o))
    where
      go : Dec (0 < refusal_number o) → 0 < refusal_number o
      go (yes l) = l
      go (no u) = let e : refusal_number o ≡ 0 = omega arith in absurd (subst (Common K s c) e (common K s c o m))

  pub passed_1 : ((p : ℕ) → Names c p → Place p) → Passed K s c 1
  passed_1 h = passed_more 0 passed_0 (λ o m e. let x = subst (Common K s c) e (common K s c o m) in x.2 (h x.0 x.1))

  pub passed_2 : Passed K s c 1 → (asks c).0 ≤ length s.shelf.memory → Passed K s c 2
  passed_2 past h = passed_more 1 past (λ o m e. let x : length s.shelf.memory < (asks c).0 = subst (Common K s c) e (common K s c o m) in omega arith)

  pub passed_3 : Passed K s c 2 → (asks c).1 ≤ s.lent.work → Passed K s c 3
  passed_3 past h = passed_more 2 past (λ o m e. let x : s.lent.work < (asks c).1 = subst (Common K s c) e (common K s c o m) in omega arith)

  pub passed_4 : Passed K s c 3 → ((p : ℕ) → Among (sources c) p → entry s.shelf p ≢ empty) → Passed K s c 4
  passed_4 past h = passed_more 3 past (λ o m e. let x = subst (Common K s c) e (common K s c o m) in h x.0 x.1 x.2)

  -- the first check that fails decides
  pub refused_at : (n : ℕ) (r : Refusal) → Passed K s c n → Meets K s c r → refusal_number r ≤ suc n → Refuses K s c r
  refused_at n r past m e = record { meets = m; first = λ o k. let a = past o k in omega arith }
