-- What uses and runs passed, and their parts. Assumes nothing.
use Rattle.std.proofs.Common.{◌≡◌, ℕ, zero, suc, ◌+◌, ◌-◌, ◌<◌, ◌≤◌, List, [], ◌∷◌, ◌++◌, map, length, get_or, take, drop, Some, sym, refl, ap, ◌∙◌, subst, subst₂, arith, add-one, length-append, length-drop, option_map}
use native.Mathlib.Decide.{dec_lt}
use Rattle.std.proofs.lemmas.List.{append_assoc, append-nil, take_all, take_more, get_or_append_left, get_or_at, get_or-drop, length-map}
use Rattle.std.proofs.lemmas.Option.{slice_get_within, slice_get-get_or, slice_get-map, same_Some, get_or_from_slice_get}
use Rattle.std.specs.List.{slice_get}
use Rattle.field.specs.FiniteField.{FiniteField}
use Rattle.book.specs.Shelves.{Shelf, State}
use Rattle.book.specs.Calls.{Call}
use Rattle.book.specs.Using.{Use, none, next, CallAt, Leads, Course, Changes, Untouched, still, later}
use Rattle.book.specs.Running as run
use Rattle.book.specs.Running.{call_in, given, CarriesOut, Run}
use Rattle.book.specs.declared.call.Request.{Request}
use Rattle.book.specs.Outcomes.{Outcome}

-- an element below the end
found : {X : Type 0} (xs : List X) (i : ℕ) → i < length xs → (x : X) × (slice_get xs i ≡ Some x)
found [] i l = absurd (omega arith)
found (x ∷ xs) i l = (get_or (x ∷ xs) i x, slice_get-get_or (x ∷ xs) i x l)

-- an element of a list that grew by one: an earlier one, or the last
before : {X : Type 0} (xs : List X) (x y : X) (i : ℕ) → i < length xs → slice_get (xs ++ x ∷ []) i ≡ Some y → slice_get xs i ≡ Some y
before xs x y i l e = slice_get-get_or xs i y l ∙ ap Some (sym (get_or_append_left xs (x ∷ []) y i l) ∙ get_or_from_slice_get (xs ++ x ∷ []) i y y e)

at_end : {X : Type 0} (xs : List X) (x y : X) (i : ℕ) → length xs ≡ i → slice_get (xs ++ x ∷ []) i ≡ Some y → x ≡ y
at_end xs x y i d e = sym (get_or_at xs x [] y i d) ∙ get_or_from_slice_get (xs ++ x ∷ []) i y y e

-- a part of a list, one longer
part_more : {X : Type 0} (xs : List X) (i n : ℕ) (x : X) → slice_get xs (i + n) ≡ Some x → take (suc n) (drop i xs) ≡ take n (drop i xs) ++ x ∷ []
part_more xs i n x e = subst (λ m. take m (drop i xs) ≡ take n (drop i xs) ++ x ∷ []) (add-one n) (take_more (drop i xs) n x (omega (arith, length-drop i xs, slice_get_within xs (i + n) x e)) ∙ ap (λ y. take n (drop i xs) ++ y ∷ []) (get_or-drop i xs n x ∙ get_or_from_slice_get xs (i + n) x x e))

module _ {X S : Type 0} (Step : S → X → Outcome → S → Type 0) where
  -- a course, as the list of what was passed, the first included
  pub record Passed (first : S) (xs : List X) (os : List Outcome) (last : S) : Type 0 where
    pub all : List S
    pub one_more : length all ≡ length xs + 1
    pub course : Course Step first xs os last (λ i. get_or all i first)

  pub passed_none : (first : S) → Passed first [] [] first
  passed_none first = record {
    all = first ∷ [];
    one_more = refl;
    course = record { starts = refl; as_many = refl; steps = λ i x o e f. absurd (let l = slice_get_within [] i x e in omega arith); ends = refl };
  }

  pub passed_more : (first s t : S) (xs : List X) (os : List Outcome) (x : X) (o : Outcome) → Passed first xs os s → Step s x o t → Passed first (xs ++ x ∷ []) (os ++ o ∷ []) t
  passed_more first s t xs os x o q h = record {
    all = q.all ++ t ∷ [];
    one_more = length-append q.all (t ∷ []) ∙ ap (λ n. n + 1) q.one_more ∙ ap (λ n. n + 1) (sym (length-append xs (x ∷ [])));
    course = record {
      starts = early 0 (omega arith) ∙ q.course.starts;
      as_many = length-append os (o ∷ []) ∙ ap (λ n. n + 1) q.course.as_many ∙ sym (length-append xs (x ∷ []));
      steps = λ i y p e f. go i y p e f (dec_lt i (length xs));
      ends = late (length (xs ++ x ∷ [])) (length-append xs (x ∷ []));
    };
  }
    where
      early : (i : ℕ) → i ≤ length xs → get_or (q.all ++ t ∷ []) i first ≡ get_or q.all i first
      early i l = get_or_append_left q.all (t ∷ []) first i (omega (arith, q.one_more))

      late : (i : ℕ) → i ≡ length xs + 1 → get_or (q.all ++ t ∷ []) i first ≡ t
      late i e = get_or_at q.all t [] first i (q.one_more ∙ sym e)

      go : (i : ℕ) (y : X) (p : Outcome) → slice_get (xs ++ x ∷ []) i ≡ Some y → slice_get (os ++ o ∷ []) i ≡ Some p → Dec (i < length xs)
          → Step (get_or (q.all ++ t ∷ []) i first) y p (get_or (q.all ++ t ∷ []) (suc i) first)
      go i y p e f (yes l) = subst₂ (λ a b. Step a y p b) (sym (early i (omega arith))) (sym (early (suc i) (omega arith)))
          (q.course.steps i y p (before xs x y i l e) (before os o p i (omega (arith, q.course.as_many)) f))
      go i y p e f (no u) =
          let d : length xs ≡ i = omega (arith, slice_get_within (xs ++ x ∷ []) i y e, length-append xs (x ∷ [])) in
          subst₂ (λ a b. Step a y p b) (sym (early i (omega (arith, d)) ∙ ap (λ j. get_or q.all j first) (sym d) ∙ q.course.ends)) (sym (late (suc i) (omega (arith, d))))
          (subst₂ (λ a b. Step s a b t) (at_end xs x y i d e) (at_end os o p i (q.course.as_many ∙ d) f) h)

module _ {V : Type 0} (K : FiniteField V) {F : Type 0} (value : F → V) where
  pub use_passed : {first s : Shelf F} {cs : List Call} {os : List Outcome} → Use K value first cs os s → Passed (Leads K value) first cs os s
  use_passed {first} none = passed_none (Leads K value) first
  use_passed {first} (next {cs = cs} {os = os} {s = s} u l c o t d) = passed_more (Leads K value) first s t.shelf cs os c o (use_passed u) (record { lent = l; left = t; does = d; shelf = refl })

  pub run_passed : {first t : State F} {rs : List Request} {os : List Outcome} → Run K value first rs os t → Passed (CarriesOut K value) first rs os t
  run_passed {first} run.none = passed_none (CarriesOut K value) first
  run_passed {first} (run.next {rs = rs} {os = os} {s = s} h r o t d) = passed_more (CarriesOut K value) first s t rs os r o (run_passed h) d

  -- the shelves of the states that a run passed are a course of its calls
  pub course_of_calls : (first t : State F) (rs : List Request) (os : List Outcome) (after : ℕ → State F) → Course (CarriesOut K value) first rs os t after → Course (Leads K value) first.shelf (map call_in rs) os t.shelf (λ i. (after i).shelf)
  course_of_calls first t rs os after r = record {
    starts = ap (λ z. z.shelf) r.starts;
    as_many = r.as_many ∙ sym (length-map rs call_in);
    steps = λ i c o e f.
        let l = slice_get_within (map call_in rs) i c e in
        let x = found rs i (omega (arith, length-map rs call_in)) in
        let d = r.steps i x.0 o x.1 f in
        let same : call_in x.0 ≡ c = same_Some (call_in x.0) c (sym (slice_get-map call_in rs i ∙ ap (option_map call_in) x.1) ∙ e) in
        subst (λ z. Leads K value (after i).shelf z o (after (suc i)).shelf) same (record { lent = (given (after i) x.0).lent; left = d.left; does = d.does; shelf = sym (ap (λ z. z.shelf) d.back) });
    ends = ap (λ n. (after n).shelf) (length-map rs call_in) ∙ ap (λ z. z.shelf) r.ends;
  }

  module _ (first s : Shelf F) (cs : List Call) (os : List Outcome) (at_shelf : ℕ → Shelf F) (r : Course (Leads K value) first cs os s at_shelf) where
    -- any of the calls that follow on each other are a use
    part : (i n : ℕ) → i + n ≤ length cs → Use K value (at_shelf i) (take n (drop i cs)) (take n (drop i os)) (at_shelf (i + n))
    part i zero l = let e : i ≡ i + 0 = omega arith in subst (λ j. Use K value (at_shelf i) [] [] (at_shelf j)) e none
    part i (suc n) l =
        let c = found cs (i + n) (omega arith) in
        let o = found os (i + n) (omega (arith, r.as_many)) in
        let d = r.steps (i + n) c.0 o.0 c.1 o.1 in
        let e : suc (i + n) ≡ i + suc n = omega arith in
        subst (Use K value (at_shelf i) (take (suc n) (drop i cs)) (take (suc n) (drop i os))) (d.shelf ∙ ap at_shelf e)
        (subst₂ (λ a b. Use K value (at_shelf i) a b d.left.shelf) (sym (part_more cs i n c.0 c.1)) (sym (part_more os i n o.0 o.1)) (next (part i n (omega arith)) d.lent c.0 o.0 d.left d.does))

    pub came : (i : ℕ) → i ≤ length cs → Use K value first (take i cs) (take i os) (at_shelf i)
    came i l = let e : 0 + i ≡ i = omega arith in subst₂ (λ a b. Use K value a (take i cs) (take i os) b) r.starts (ap at_shelf e) (part 0 i (omega arith))

    pub onward : (i : ℕ) → i ≤ length cs → Use K value (at_shelf i) (drop i cs) (drop i os) s
    onward i l =
        let n = length cs - i in
        let e : i + n ≡ length cs = omega arith in
        subst₂ (λ a b. Use K value (at_shelf i) a b s) (take_all n (drop i cs) (omega (arith, length-drop i cs))) (take_all n (drop i os) (omega (arith, length-drop i os, r.as_many)))
        (subst (Use K value (at_shelf i) (take n (drop i cs)) (take n (drop i os))) (ap at_shelf e ∙ r.ends) (part i n (omega arith)))

    pub each : (i : ℕ) → i < length cs → (c : Call) (o : Outcome) → CallAt K value first cs os i c o
    each i l c o =
        let d = r.steps i (get_or cs i c) (get_or os i o) (slice_get-get_or cs i c l) (slice_get-get_or os i o (omega (arith, r.as_many))) in
        record {
          before = at_shelf i;
          lent = d.lent;
          left = d.left;
          until = came i (omega arith);
          does = d.does;
          with_it = subst (Use K value first (take (suc i) cs) (take (suc i) os)) (sym d.shelf) (came (suc i) (omega arith));
        }

    module _ (p i : ℕ) where
      -- none of the calls from i to before j made or cleared the place
      abbrev pub Spared : ℕ → Type 0
      Spared j = (k : ℕ) (c : Call) (o : Outcome) → i ≤ k → k < j → slice_get cs k ≡ Some c → slice_get os k ≡ Some o → ¬ (Changes c o p)

      untouched_for : (n : ℕ) → i + n ≤ length cs → Spared (i + n) → Untouched K value p (at_shelf i) (at_shelf (i + n))
      untouched_for zero l h = let e : i ≡ i + 0 = omega arith in subst (λ j. Untouched K value p (at_shelf i) (at_shelf j)) e still
      untouched_for (suc n) l h =
          let c = found cs (i + n) (omega arith) in
          let o = found os (i + n) (omega (arith, r.as_many)) in
          let d = r.steps (i + n) c.0 o.0 c.1 o.1 in
          let e : suc (i + n) ≡ i + suc n = omega arith in
          subst (Untouched K value p (at_shelf i)) (d.shelf ∙ ap at_shelf e)
          (later (untouched_for n (omega arith) (λ k x y low high. h k x y low (omega arith))) d.lent c.0 o.0 d.left d.does (h (i + n) c.0 o.0 (omega arith) (omega arith) c.1 o.1))

      pub untouched_to : (j : ℕ) → i ≤ j → j ≤ length cs → Spared j → Untouched K value p (at_shelf i) (at_shelf j)
      untouched_to j low high h = let e : i + (j - i) ≡ j = omega arith in subst (λ k. Untouched K value p (at_shelf i) (at_shelf k)) e (untouched_for (j - i) (omega arith) (λ k c o a b. h k c o a (omega arith)))

  -- calls that go on where others came to are one list of calls with them
  pub use_joined : (first s t : Shelf F) (cs ds : List Call) (os ps : List Outcome) → Use K value first cs os s → Use K value s ds ps t → Use K value first (cs ++ ds) (os ++ ps) t
  use_joined first s t cs ds os ps u none = subst₂ (λ a b. Use K value first a b s) (sym (append-nil cs)) (sym (append-nil os)) u
  use_joined first s t cs ds os ps u (next {cs = es} {os = qs} {s = m} v l c o w d) =
      subst₂ (λ a b. Use K value first a b w.shelf) (append_assoc cs es (c ∷ [])) (append_assoc os qs (o ∷ [])) (next (use_joined first s m cs es os qs u v) l c o w d)
