-- What clear does with the entries is what the call does, with any memory. Assumes nothing.
use Rattle.std.proofs.Common.{◌≡◌, ℕ, List, Ok, Err, Result, sym, refl, ap, subst, inl, inr, arith}
use Rattle.field.specs.FiniteField.{FiniteField}
use Rattle.book.specs.Shelves.{Entry, State, Place, entry, empty}
use Rattle.book.specs.Calls.{clear, Names}
use Rattle.book.specs.Refusing.{outside, vacant, Refuses}
use Rattle.book.specs.Doing.{Does}
use Rattle.book.specs.declared.refusal.Refusal.{Refusal}
use Rattle.book.specs.declared.refusal.Refusal.TheVariants.{PlaceOutside, PlaceEmpty}
use Rattle.book.specs.declared.outcome.Answer.TheVariants.{Done}
use Rattle.book.proofs.Checks.{Passed, passed_0, passed_1, passed_2, passed_3, passed_4, refused_at}
use Rattle.shelf.specs.Views.{state, outcome_by}
use Rattle.shelf.specs.Clearing.{Clears}
use Rattle.shelf.proofs.Gating.{of_one}
use Rattle.shelf.proofs.Late.{clear_accepts}
use Rattle.book.specs.declared.verdict.Verdict.{Verdict}

module _ {V : Type 0} (K : FiniteField V) {F : Type 0} (s : State F) (p : ℕ) where
  past_3 : Place p → Passed K s (clear p) 3
  past_3 l = passed_3 K s (clear p) (passed_2 K s (clear p) (passed_1 K s (clear p) named) (omega arith)) (omega arith)
    where
      named : (q : ℕ) → Names (clear p) q → Place q
      named q (inl m) = of_one Place l q m
      named q (inr m) = of_one Place l q m

pub clear_does : {V : Type 0} (K : FiniteField V) {F : Type 0} (v : F → V) (es es' : List Entry) (mem : List F) (w : ℕ) (out : List ℕ) (verdict : Verdict) (p : ℕ) {T : Type 0} (r : Result T Refusal) → Clears es p r es'
    → Does K v (state es mem w out verdict) (clear p) (outcome_by (λ _. Done) r) (state es' mem w out verdict)
clear_does K v es es' mem w out verdict p (Ok u) (l, full, left) = (clear_accepts K (state es mem w out verdict) p (passed_4 K (state es mem w out verdict) (clear p) (past_3 K (state es mem w out verdict) p l) (of_one (λ q. entry (state es mem w out verdict).shelf q ≡ empty → ⊥) full)), (refl, record { entries = left; memory = refl; lent = refl }))
clear_does K v es es' mem w out verdict p (Err f) (inl (e, u), left) = (
  subst (Refuses K (state es mem w out verdict) (clear p)) (sym e) (refused_at K (state es mem w out verdict) (clear p) 0 PlaceOutside (passed_0 K (state es mem w out verdict) (clear p)) (outside p (inl (inl refl)) u) (omega arith)),
  ap (λ xs. record { shelf = record { entries = xs; memory = mem }; lent = record { work = w; output = out; verdict = verdict } }) left,
)
clear_does K v es es' mem w out verdict p (Err f) (inr (e, l, h), left) = (
  subst (Refuses K (state es mem w out verdict) (clear p)) (sym e) (refused_at K (state es mem w out verdict) (clear p) 3 PlaceEmpty (past_3 K (state es mem w out verdict) p l) (vacant p (inl refl) h) (omega arith)),
  ap (λ xs. record { shelf = record { entries = xs; memory = mem }; lent = record { work = w; output = out; verdict = verdict } }) left,
)
