-- What comes of a call is settled, and of a list of calls. Assumes nothing.
use Rattle.std.proofs.Common.{◌≡◌, ℕ, ◌+◌, ◌<◌, min, List, [], ◌∷◌, ◌++◌, length, get_or, take, drop, sym, refl, ap, ◌∙◌, subst, ap₂, subst₂, inl, inr, arith, length-append, Ok, Err}
use native.Mathlib.Decide.{dec_lt}
use Rattle.field.specs.FiniteField.{FiniteField}
use Rattle.series.specs.Tables.{Table, weight, SameTable}
use Rattle.series.specs.Operations.{sum_table, scaled_table, product_table, after_table, turned_table}
use Rattle.series.specs.Reducing.{Reduced}
use Rattle.series.proofs.ReducedForms.{reduced_unique}
use Rattle.rows.specs.Layout.{table_size}
use Rattle.text.specs.Texts.{text_of}
use Rattle.text.specs.Facts.{ToldApart, Decided}
use Rattle.book.specs.Shelves.{empty, filled, State, at_place, entry, states_of, letters_of, begins, table}
use Rattle.book.specs.Calls.{Call, load, sum, scale, multiply, after, turn, reduce, weigh, compare, write, clear, Among, results}
use Rattle.book.specs.Refusing.{Refuses, Accepts}
use Rattle.book.specs.Verdicts.{Says}
use Rattle.book.specs.Doing.{with_verdict, with_text, Makes, Leaves, Does}
use Rattle.book.specs.Running.{given, taken_back, call_in, CarriesOut, Run, none, next}
use Rattle.book.specs.Settling.{InResult, SameState, OutcomesAreSettled}
use Rattle.book.specs.declared.call.Request.{Request}
use Rattle.book.specs.declared.refusal.Refusal.{Refusal}
use Rattle.book.specs.declared.outcome.Answer.{Answer}
use Rattle.book.specs.declared.outcome.Answer.TheVariants.{Code, Told, Count}
use Rattle.book.specs.Outcomes.{Outcome}
use Rattle.book.proofs.Places.{at_same}
use Rattle.book.proofs.Accepting.{placed}
use Rattle.book.proofs.SameStates.{same_equal, state_sym, table_equal, lends_same, empties_same, makes_same}
use Rattle.book.proofs.OneRefusal.{meets_same, refuses_one}
use Rattle.book.proofs.OneVerdict.{says_one}

module _ {V : Type 0} (K : FiniteField V) {F : Type 0} (value : F → V) (told_apart : ToldApart K) (decided : Decided K) where
  module _ (s s' t t' : State F) (e : SameState K value s s') where
    same : (p : ℕ) → table K value s.shelf p ≡ table K value s'.shelf p
    same p = table_equal K value s s' e p

    -- both return nothing, and make tables that agree
    make : (to : ℕ) (R R' : Table V) {a b d : Answer} → SameTable R R' → a ≡ d → b ≡ d → Makes K value s to R t → Makes K value s' to R' t' → (a ≡ b) × SameState K value t t'
    make to R R' agree x y m n = (x ∙ sym y, makes_same K value s s' e to R R' t t' agree m n)

    accepted : (c : Call) (a b : Answer) → Leaves K value s c a t → Leaves K value s' c b t' → (a ≡ b) × SameState K value t t'
    accepted (load text to) a b (x, (R, sized, is, m)) (y, (R', sized', is', n)) = make to R R' (told_apart R R' sized sized' (sym is ∙ is')) x y m n
    accepted (sum p q to) a b (x, m) (y, n) = make to (sum_table K (table K value s.shelf p) (table K value s.shelf q)) (sum_table K (table K value s'.shelf p) (table K value s'.shelf q)) (same_equal _ _ (ap₂ (sum_table K) (same p) (same q))) x y m n
    accepted (scale p c to) a b (x, m) (y, n) = make to (scaled_table K (K.decode c) (table K value s.shelf p)) (scaled_table K (K.decode c) (table K value s'.shelf p)) (same_equal _ _ (ap (scaled_table K (K.decode c)) (same p))) x y m n
    accepted (multiply p q to) a b (x, m) (y, n) = make to (product_table K (table K value s.shelf p) (table K value s.shelf q)) (product_table K (table K value s'.shelf p) (table K value s'.shelf q)) (same_equal _ _ (ap₂ (product_table K) (same p) (same q))) x y m n
    accepted (after p l to) a b (x, m) (y, n) = make to (after_table K l (table K value s.shelf p)) (after_table K l (table K value s'.shelf p)) (same_equal _ _ (ap (after_table K l) (same p))) x y m n
    accepted (turn p to) a b (x, m) (y, n) = make to (turned_table K (table K value s.shelf p)) (turned_table K (table K value s'.shelf p)) (same_equal _ _ (ap (turned_table K) (same p))) x y m n
    accepted (reduce p to) a b (x, (R, form, m)) (y, (R', form', n)) =
        let T = table K value s.shelf p in
        make to R R' (reduced_unique K T.letters (weight K T) R R' form (subst (λ z. Reduced K z.letters (weight K z) R') (sym (same p)) form')) x y m n
    accepted (weigh p w) a b (x, m) (y, n) = (x ∙ ap (λ z. Code (K.code (weight K z w))) (same p) ∙ sym y, lends_same K value s s' e s.lent s'.lent t t' e.lent m n)
    accepted (compare p q) a b (v, says, x, m) (v', says', y, n) =
        let d : v ≡ v' = says_one K (table K value s.shelf p) (table K value s.shelf q) v v' says (subst₂ (λ S T. Says K S T v') (sym (same p)) (sym (same q)) says') in
        (x ∙ ap Told d ∙ sym y, lends_same K value s s' e (with_verdict s.lent v) (with_verdict s'.lent v') t t' (ap₂ with_verdict e.lent d) m n)
    accepted (write p) a b (x, m) (y, n) =
        let d : text_of K (table K value s.shelf p) ≡ text_of K (table K value s'.shelf p) = ap (text_of K) (same p) in
        (x ∙ ap (λ z. Count (length z)) d ∙ sym y, lends_same K value s s' e (with_text s.lent (text_of K (table K value s.shelf p))) (with_text s'.lent (text_of K (table K value s'.shelf p))) t t' (ap₂ with_text e.lent d) m n)
    accepted (clear p) a b (x, m) (y, n) = (x ∙ sym y, empties_same K value s s' e p t t' m n)

    -- what refuses the one refuses the other
    refuses_same : (c : Call) (r : Refusal) → Refuses K s' c r → Refuses K s c r
    refuses_same c r h = record { meets = meets_same K value s' s (state_sym K value s s' e) c r h.meets; first = λ o m. h.first o (meets_same K value s s' e c o m) }

    pub one : (c : Call) (o o' : Outcome) → Does K value s c o t → Does K value s' c o' t' → (o ≡ o') × SameState K value t t'
    one c (Err q) (Err r) (x, d) (y, g) = (ap Err (refuses_one K decided s c q r x (refuses_same c r y)), subst₂ (SameState K value) (sym d) (sym g) e)
    one c (Err q) (Ok b) (x, d) (y, g) = absurd (y q (meets_same K value s s' e c q x.meets))
    one c (Ok a) (Err r) (x, d) (y, g) = absurd (x r (refuses_same c r y).meets)
    one c (Ok a) (Ok b) (x, d) (y, g) = let r = accepted c a b d g in (ap Ok r.0, r.1)

  state_refl : (s : State F) → SameState K value s s
  state_refl s = record { entries = refl; length_same = refl; numbers = λ i. refl; lent = refl }

  -- an element outside the result is the very element it was
  module _ (s t : State F) (eight : length s.shelf.entries ≡ 8) (i : ℕ) (x : F) where
    made_outside : (c : Call) (to : ℕ) (R : Table V) → Accepts K s c → Among (results c) to → Makes K value s to R t → ¬ (InResult c t i) → get_or t.shelf.memory i x ≡ get_or s.shelf.memory i x
    made_outside c to R acc m h u = go (dec_lt i (begins to)) (dec_lt i (begins to + table_size R.states R.letters))
      where
        there : entry t.shelf to ≡ filled R.states R.letters
        there = ap (λ z. at_place empty z to) h.entries ∙ at_same empty s.shelf.entries to (filled R.states R.letters) (placed K s c acc to (inr m)) eight

        go : Dec (i < begins to) → Dec (i < begins to + table_size R.states R.letters) → get_or t.shelf.memory i x ≡ get_or s.shelf.memory i x
        go (yes l) q = h.numbers.frame.below i x l
        go (no v) (yes l) = absurd (u (to, m, omega arith, subst (λ z. i < begins to + table_size (states_of z) (letters_of z)) (sym there) l))
        go (no v) (no w) = h.numbers.frame.above i x (omega arith)

    leaves_outside : (c : Call) (a : Answer) → Accepts K s c → Leaves K value s c a t → ¬ (InResult c t i) → get_or t.shelf.memory i x ≡ get_or s.shelf.memory i x
    leaves_outside (load text to) a acc (d, (R, sized, is, m)) u = made_outside (load text to) to R acc (inl refl) m u
    leaves_outside (sum p q to) a acc (d, m) u = made_outside (sum p q to) to _ acc (inl refl) m u
    leaves_outside (scale p c to) a acc (d, m) u = made_outside (scale p c to) to _ acc (inl refl) m u
    leaves_outside (multiply p q to) a acc (d, m) u = made_outside (multiply p q to) to _ acc (inl refl) m u
    leaves_outside (after p l to) a acc (d, m) u = made_outside (after p l to) to _ acc (inl refl) m u
    leaves_outside (turn p to) a acc (d, m) u = made_outside (turn p to) to _ acc (inl refl) m u
    leaves_outside (reduce p to) a acc (d, (R, form, m)) u = made_outside (reduce p to) to R acc (inl refl) m u
    leaves_outside (weigh p w) a acc (d, m) u = ap (λ z. get_or z.memory i x) m.shelf
    leaves_outside (compare p q) a acc (v, says, d, m) u = ap (λ z. get_or z.memory i x) m.shelf
    leaves_outside (write p) a acc (d, m) u = ap (λ z. get_or z.memory i x) m.shelf
    leaves_outside (clear p) a acc (d, m) u = ap (λ z. get_or z i x) m.memory

    does_outside : (c : Call) (o : Outcome) → Does K value s c o t → ¬ (InResult c t i) → get_or t.shelf.memory i x ≡ get_or s.shelf.memory i x
    does_outside c (Err r) d u = ap (λ z. get_or z.shelf.memory i x) d.1
    does_outside c (Ok a) d u = leaves_outside c a d.0 d.1 u

  others : (s t t' : State F) (c : Call) (o o' : Outcome) → length s.shelf.entries ≡ 8 → Does K value s c o t → Does K value s c o' t' → (i : ℕ) (x : F) → ¬ (InResult c t i) → get_or t.shelf.memory i x ≡ get_or t'.shelf.memory i x
  others s t t' c o o' eight d g i x u = does_outside s t eight i x c o d u ∙ sym (does_outside s t' eight i x c o' g (λ h. u (back h)))
    where
      entries : t.shelf.entries ≡ t'.shelf.entries
      entries = (one s s t t' (state_refl s) c o o' d g).1.entries

      back : InResult c t' i → InResult c t i
      back (p, m, low, high) = (p, m, low, subst (λ es. i < begins p + table_size (states_of (at_place empty es p)) (letters_of (at_place empty es p))) (sym entries) high)

  -- lists of calls
  snoc : {X : Type 0} (xs ys : List X) (x y : X) → xs ++ x ∷ [] ≡ ys ++ y ∷ [] → (xs ≡ ys) × (x ≡ y)
  snoc [] [] x y e = (refl, (cc))
  snoc [] (b ∷ ys) x y e = absurd (omega (arith, ap length e, length-append ys (y ∷ [])))
  snoc (a ∷ xs) [] x y e = absurd (omega (arith, ap length e, length-append xs (x ∷ [])))
  snoc (a ∷ xs) (b ∷ ys) x y e =
      let h : a ≡ b = cc in
      let g : xs ++ x ∷ [] ≡ ys ++ y ∷ [] = cc in
      let r = snoc xs ys x y g in
      (ap₂ ◌∷◌ h r.0, r.1)

  -- a run, and the last call of it
  record Last (first : State F) (rs : List Request) (r : Request) (os : List Outcome) (t : State F) : Type 0 where
    os₀ : List Outcome
    o : Outcome
    s : State F
    until : Run K value first rs os₀ s
    carried_out : CarriesOut K value s r o t
    outcomes : os ≡ os₀ ++ o ∷ []

  last : {first t : State F} {qs : List Request} {os : List Outcome} → Run K value first qs os t → (rs : List Request) (r : Request) → qs ≡ rs ++ r ∷ [] → Last first rs r os t
  last none rs r e = absurd (omega (arith, ap length e, length-append rs (r ∷ [])))
  last {first} (next {rs = qs} {os = os} {s = s} h q o t d) rs r e =
      let g = snoc qs rs q r e in
      record {
        os₀ = os;
        o = o;
        s = s;
        until = subst (λ z. Run K value first z os s) g.0 h;
        carried_out = subst (λ z. CarriesOut K value s z o t) g.1 d;
        outcomes = refl;
      }

  nothing : {first t : State F} {qs : List Request} {os : List Outcome} → Run K value first qs os t → qs ≡ [] → (os ≡ []) × (t ≡ first)
  nothing none e = (refl, refl)
  nothing (next {rs = qs} h q o u d) e = absurd (omega (arith, ap length e, length-append qs (q ∷ [])))

  given_same : (s s' : State F) (r : Request) → SameState K value s s' → SameState K value (given s r) (given s' r)
  given_same s s' r e = record { entries = e.entries; length_same = e.length_same; numbers = e.numbers; lent = ap (λ l. record { work = min r.work l.work; output = take r.output l.output; verdict = l.verdict }) e.lent }

  back_same : (s s' t t' : State F) (r : Request) → SameState K value s s' → SameState K value t t' → SameState K value (taken_back s r t) (taken_back s' r t')
  back_same s s' t t' r e g = record { entries = g.entries; length_same = g.length_same; numbers = g.numbers; lent = ap₂ (λ l m. record { work = l.work; output = m.output ++ drop r.output l.output; verdict = m.verdict }) e.lent g.lent }

  runs : {s s' t t' : State F} {rs : List Request} {os os' : List Outcome} → SameState K value s s' → Run K value s rs os t → Run K value s' rs os' t' → (os ≡ os') × SameState K value t t'
  runs {s} {s'} e none k = let z = nothing k refl in (sym z.0, subst (SameState K value s) (sym z.1) e)
  runs {s} {s'} e (next {rs = rs} {os = os} {s = m} h r o t d) k =
      let z = last k rs r refl in
      let w = runs e h z.until in
      let x = z.carried_out in
      let v = one (given m r) (given z.s r) d.left x.left (given_same m z.s r w.1) (call_in r) o z.o d.does x.does in
      (ap₂ (λ a b. a ++ b ∷ []) w.0 v.0 ∙ sym z.outcomes, subst₂ (SameState K value) (sym d.back) (sym x.back) (back_same m z.s d.left x.left r w.1 v.1))

  pub settled : OutcomesAreSettled K value
  settled = record {
    one = λ s s' t t' c o o' e. one s s' t t' e c o o';
    others = others;
    runs = λ s s' t t' rs os os' e. runs e;
  }
