-- A run that grows by a request, and that follows the book. Assumes nothing.
use Rattle.std.proofs.Common.{◌≡◌, ℕ, zero, suc, ◌+◌, ◌<◌, List, [], ◌∷◌, map, length, get_or, take, drop, set, sym, refl, ap, ◌∙◌, subst₂, arith, add-one}
use Rattle.std.proofs.lemmas.List.{drop-set-lt, take_more, take_more_set}
use Rattle.field.specs.FiniteField.{FiniteField}
use Rattle.book.specs.Shelves.{State}
use Rattle.book.specs.Using.{Opening}
use Rattle.book.specs.Running.{CarriesOut, Run, next, call_in}
use Rattle.book.specs.Law.{RunFollows, UsesFollowTheBook}
use Rattle.book.specs.declared.call.Request.{Request}
use Rattle.book.specs.Outcomes.{Outcome}

drop_one : {X : Type 0} (xs : List X) (i : ℕ) → drop (suc i) xs ≡ drop 1 (drop i xs)
drop_one [] zero = refl
drop_one [] (suc i) = refl
drop_one (x ∷ xs) zero = refl
drop_one (x ∷ xs) (suc i) = drop_one xs i

-- what lies behind the element that is set
pub drop_more_set : {X : Type 0} (xs ys : List X) (i : ℕ) (x : X) → drop i xs ≡ drop i ys → drop (i + 1) (set xs i x) ≡ drop (i + 1) ys
drop_more_set xs ys i x e = rw add-one (drop-set-lt (suc i) xs i x (omega arith) ∙ drop_one xs i ∙ ap (drop 1) e ∙ sym (drop_one ys i))

pub run_more : {V : Type 0} (K : FiniteField V) {F : Type 0} (v : F → V) (first s t : State F) (rs : List Request) (os : List Outcome) (i : ℕ) (d : Request) (o : Outcome) → i < length rs → i < length os
    → Run K v first (take i rs) (take i os) s → CarriesOut K v s (get_or rs i d) o t → Run K v first (take (i + 1) rs) (take (i + 1) (set os i o)) t
run_more K v first s t rs os i d o l h run u =
    subst₂ (λ xs ys. Run K v first xs ys t) (sym (take_more rs i d l)) (sym (take_more_set os i o h))
    (next run (get_or rs i d) o t u)

pub run_follows : {V : Type 0} (K : FiniteField V) {F : Type 0} (v : F → V) → UsesFollowTheBook K v → (first t : State F) (rs : List Request) (os : List Outcome) → Run K v first rs os t → RunFollows K v first rs os t
run_follows K v law first t rs os run opened =
    let u : Opening K v (map call_in rs) os t.shelf = record { first = first.shelf; opened = opened; uses = law.runs first t rs os run } in
    let c = law.run_courses first t rs os run in
    record {
      use_of = u;
      starts = refl;
      follows = law.every_use (map call_in rs) os t.shelf u;
      after = c.0;
      course = c.1;
      throughout = law.throughout (map call_in rs) os t.shelf u (λ i. (c.0 i).shelf) (law.course_of_calls first t rs os c.0 c.1);
    }
