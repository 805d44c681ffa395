-- Elimination of rows with tracked coefficients. Assumes nothing.
use Rattle.std.proofs.Common.{◌≡◌, ℕ, suc, ◌+◌, ◌<◌, ◌≤◌, ◌≢◌, sym, refl, ap, ◌∙◌, ap₂, arith}
use Rattle.field.specs.FiniteField.{FiniteField}
use Rattle.field.proofs.Laws.{ring, zero_plus, zero_times, plus_times, neg_zero}
use Rattle.series.specs.Spans.{Span, none, more}
use Rattle.series.specs.Families.{Of, mix}
use Rattle.series.specs.EliminationProgress.{Echelon}
use Rattle.field.specs.Rows.{Agree}
use Rattle.field.proofs.Rows.{sum_same}
use Rattle.series.proofs.SumLaws.{sum_zero, sum_plus, sum_times}
use Rattle.series.proofs.SpanLaws.{span_fewer, span_zero}
use Rattle.elimination.specs.Elimination.{Remainder}
use Rattle.elimination.proofs.Remainders.{remainder_room, remainder_same, remainder_nothing}
use Rattle.leading.specs.Tracking.{Tracks, Bare, Tracked, Combination, NewTracked}

module _ {V : Type 0} (K : FiniteField V) where
  infixl 65 ◌⊕◌
  infixl 70 ◌⊗◌
  open K use {plus as ◌⊕◌, times as ◌⊗◌, zero as 𝟘, one as 𝟙, opposite as neg, inverse as inv}

  mix_zero : (n : ℕ) (c : ℕ → V) (ps : ℕ → ℕ → V) (i : ℕ) → ((j : ℕ) → j < n → c j ≡ 𝟘) → mix K n c ps i ≡ 𝟘
  mix_zero n c ps i e = sum_zero K n (λ j. c j ⊗ ps j i) (λ j l. ap (λ v. v ⊗ ps j i) (e j l) ∙ zero_times K (ps j i))

  pub mix_same : (n : ℕ) (c b : ℕ → V) (ps qs : ℕ → ℕ → V) (i : ℕ) → ((j : ℕ) → j < n → c j ≡ b j) → ((j : ℕ) → j < n → ps j i ≡ qs j i) → mix K n c ps i ≡ mix K n b qs i
  mix_same n c b ps qs i e h = sum_same K n (λ j. c j ⊗ ps j i) (λ j. b j ⊗ qs j i) (λ j l. ap₂ ◌⊗◌ (e j l) (h j l))

  mix_times : (n : ℕ) (a : V) (c : ℕ → V) (ps : ℕ → ℕ → V) (i : ℕ) → mix K n (λ j. a ⊗ c j) ps i ≡ a ⊗ mix K n c ps i
  mix_times n a c ps i = sum_same K n (λ j. a ⊗ c j ⊗ ps j i) (λ j. a ⊗ (c j ⊗ ps j i)) (λ j l. K.times_assoc a (c j) (ps j i)) ∙ sum_times K n a (λ j. c j ⊗ ps j i)

  mix_plus : (n : ℕ) (c b : ℕ → V) (ps : ℕ → ℕ → V) (i : ℕ) → mix K n (λ j. c j ⊕ b j) ps i ≡ mix K n c ps i ⊕ mix K n b ps i
  mix_plus n c b ps i = sum_same K n (λ j. (c j ⊕ b j) ⊗ ps j i) (λ j. c j ⊗ ps j i ⊕ b j ⊗ ps j i) (λ j l. plus_times K (c j) (b j) (ps j i)) ∙ sum_plus K n (λ j. c j ⊗ ps j i) (λ j. b j ⊗ ps j i)

  -- a combination of rows with coefficients is one
  tracks_span : (d n m : ℕ) (ps q : ℕ → ℕ → V) → d ≤ 16 → n ≤ 16 → ((b : ℕ) → b < m → Tracks K d n ps (q b)) → (f : ℕ → V) → Span K (λ i. i < 32) (Of m q) f → Tracks K d n ps f
  tracks_span d n m ps q small few t f (none e) i l = e i (omega arith) ∙ sym (mix_zero n (λ j. f (16 + j)) ps i (λ j h. e (16 + j) (omega arith)))
  tracks_span d n m ps q small few t f (more c x z s u e) i l =
      let r = tracks_span d n m ps q small few t z u i l in
      let xs : x i ≡ mix K n (λ j. x (16 + j)) ps i = ap (λ g. g i) s.2 ∙ t s.0 s.1 i l ∙ sym (ap (λ g. mix K n (λ j. g (16 + j)) ps i) s.2) in
      e i (omega arith) ∙ ap₂ ◌⊕◌ (ap (λ v. c ⊗ v) xs ∙ sym (mix_times n c (λ j. x (16 + j)) ps i)) r
      ∙ sym (mix_plus n (λ j. c ⊗ x (16 + j)) (λ j. z (16 + j)) ps i)
      ∙ mix_same n (λ j. c ⊗ x (16 + j) ⊕ z (16 + j)) (λ j. f (16 + j)) ps ps i (λ j h. sym (e (16 + j) (omega arith))) (λ j h. refl)

  bare_span : (n m : ℕ) (q : ℕ → ℕ → V) → ((b : ℕ) → b < m → Bare K n (q b)) → (f : ℕ → V) → Span K (λ i. i < 32) (Of m q) f → Bare K n f
  bare_span n m q t f u j l h = span_zero K (λ i. i < 32) (16 + j) (omega arith) (λ x s. ap (λ g. g (16 + j)) s.2 ∙ t s.0 s.1 j l h) u

  -- only the numbers in front
  front_remainder : (d n : ℕ) (q : ℕ → ℕ → V) (p : ℕ → ℕ) (x y : ℕ → V) → d ≤ 32 → Remainder K 32 n q p x y → Remainder K d n q p x y
  front_remainder d n q p x y h r = record { taken = span_fewer K (λ i l. omega arith) r.taken; cleared = r.cleared }

  -- a new row needs room
  pub new_room : (d n : ℕ) (q : ℕ → ℕ → V) (p : ℕ → ℕ) (x y : ℕ → V) → d ≤ 32 → Echelon K (λ i. i < d) n q p → Remainder K 32 n q p x y → (b : ℕ) → b < d → y b ≢ 𝟘 → n < d
  new_room d n q p x y h e r b w u = remainder_room K d n q p x y e (front_remainder d n q p x y h r) b w u

  -- the row x, which has no coefficients, is reduced to y
  module _ (d n : ℕ) (ps q : ℕ → ℕ → V) (p : ℕ → ℕ) (small : d ≤ 16) (few : n ≤ 16) (tracked : Tracked K d n ps q) (x y : ℕ → V) (remainder : Remainder K 32 n q p x y) (bare : Bare K 0 x) where
    -- what was taken from x, by coefficients
    taken : (i : ℕ) → i < d → x i ⊕ neg (y i) ≡ mix K n (λ j. neg (y (16 + j))) ps i
    taken i l =
        tracks_span d n n ps q small few tracked.tracks (λ i. x i ⊕ neg (y i)) remainder.taken i l
        ∙ mix_same n (λ j. x (16 + j) ⊕ neg (y (16 + j))) (λ j. neg (y (16 + j))) ps ps i (λ j h. ap (λ v. v ⊕ neg (y (16 + j))) (bare j (omega arith) (omega arith)) ∙ zero_plus K (neg (y (16 + j)))) (λ j h. refl)

    y_bare : Bare K n y
    y_bare j l h =
        let e = bare_span n n q tracked.bare (λ i. x i ⊕ neg (y i)) remainder.taken j l h in
        let b = bare j (omega arith) h in
        sym (ap (λ v. v ⊕ y (16 + j)) (sym (ap (λ v. v ⊕ neg (y (16 + j))) b) ∙ e) ∙ zero_plus K (y (16 + j))) ∙ simp (ring, K)

    pub combination : ((i : ℕ) → i < d → y i ≡ 𝟘) → Combination K d n ps q p x y
    combination z =
        record {
          nothing = remainder_nothing K d n q p x y (front_remainder d n q p x y (omega arith) remainder) z;
          made = λ i l. sym (ap (λ v. x i ⊕ v) (ap neg (z i l) ∙ neg_zero K) ∙ K.plus_zero (x i)) ∙ taken i l;
          bare = y_bare;
        }

    pub new_tracked : (b : ℕ) (z : ℕ → V) → Echelon K (λ i. i < d) n q p → b < d → y b ≢ 𝟘
        → ((i : ℕ) → i < 16 → z i ≡ inv (y b) ⊗ y i) → ((j : ℕ) → j < 16 → j ≢ n → z (16 + j) ≡ inv (y b) ⊗ y (16 + j)) → z (16 + n) ≡ inv (y b)
        → NewTracked K d n ps q p x b z
    new_tracked b z echelon w u front back here =
        record {
          new = record { rest = y; remainder = front_remainder d n q p x y (omega arith) remainder; within = w; apart = u; scaled = λ j l. front j (omega arith); room = new_room d n q p x y (omega arith) echelon remainder b w u };
          tracks = tracks;
          bare = λ j l h. back j h (omega arith) ∙ ap (λ v. inv (y b) ⊗ v) (y_bare j (omega arith) h) ∙ simp (ring, K);
        }
      where
        -- y is x with what its coefficients make
        whole : (i : ℕ) → i < d → y i ≡ mix K n (λ j. y (16 + j)) ps i ⊕ x i
        whole i l =
            let m : mix K n (λ j. neg (y (16 + j))) ps i ≡ neg 𝟙 ⊗ mix K n (λ j. y (16 + j)) ps i = mix_same n (λ j. neg (y (16 + j))) (λ j. neg 𝟙 ⊗ y (16 + j)) ps ps i (λ j h. simp (ring, K)) (λ j h. refl) ∙ mix_times n (neg 𝟙) (λ j. y (16 + j)) ps i in
            let e = taken i l ∙ m in
            sym (ap (λ v. mix K n (λ j. y (16 + j)) ps i ⊕ (v ⊕ y i)) e ∙ simp (ring, K)) ∙ simp (ring, K)

        tracks : (qs : ℕ → ℕ → V) → ((j : ℕ) → j < n → Agree d (qs j) (ps j)) → Agree d (qs n) x → Tracks K d (suc n) qs z
        tracks qs same last i l =
            front i (omega arith) ∙ ap (λ v. inv (y b) ⊗ v) (whole i l) ∙ K.times_plus (inv (y b)) (mix K n (λ j. y (16 + j)) ps i) (x i)
            ∙ ap₂ ◌⊕◌ (sym (mix_times n (inv (y b)) (λ j. y (16 + j)) ps i) ∙ mix_same n (λ j. inv (y b) ⊗ y (16 + j)) (λ j. z (16 + j)) ps qs i (λ j h. sym (back j (omega arith) (omega arith))) (λ j h. sym (same j h i l))) (ap₂ ◌⊗◌ (sym here) (sym (last i l)))

  -- rows with the same entries have the same coefficients
  pub tracked_same : (d n : ℕ) (ps q q' : ℕ → ℕ → V) → d ≤ 16 → n ≤ 16 → ((b : ℕ) → b < n → Agree 32 (q' b) (q b)) → Tracked K d n ps q → Tracked K d n ps q'
  tracked_same d n ps q q' small few s t =
      record {
        tracks = λ b l i g. s b l i (omega arith) ∙ t.tracks b l i g ∙ mix_same n (λ j. q b (16 + j)) (λ j. q' b (16 + j)) ps ps i (λ j f. sym (s b l (16 + j) (omega arith))) (λ j f. refl);
        bare = λ b l j g f. s b l (16 + j) (omega arith) ∙ t.bare b l j g f;
      }

  -- the same of rows with the same entries, of a row x with the same numbers, and of a row z with the same entries
  module _ (d n : ℕ) (ps q q' : ℕ → ℕ → V) (p : ℕ → ℕ) (x x' : ℕ → V) (small : d ≤ 16) (s : (b : ℕ) → b < n → Agree 32 (q' b) (q b)) (e : Agree d x x') where
    left : (y : ℕ → V) → Remainder K d n q' p x y → Remainder K d n q p x' y
    left y r = remainder_same K d n q q' p x' x y (λ b l j h. s b l j (omega arith)) e r

    pub combination_same : (y : ℕ → V) → Combination K d n ps q' p x y → Combination K d n ps q p x' y
    combination_same y c = record { nothing = left (λ _. K.zero) c.nothing; made = λ i l. sym (e i l) ∙ c.made i l; bare = c.bare }

    pub new_tracked_same : (b : ℕ) (z z' : ℕ → V) → Agree 32 z' z → NewTracked K d n ps q' p x b z → NewTracked K d n ps q p x' b z'
    new_tracked_same b z z' h f =
        let w = f.new in
        let room = w.room in
        record {
          new = record { rest = w.rest; remainder = left w.rest w.remainder; within = w.within; apart = w.apart; scaled = λ j l. h j (omega arith) ∙ w.scaled j l; room = room };
          tracks = λ qs same last i l. h i (omega arith) ∙ f.tracks qs same (λ i l. last i l ∙ sym (e i l)) i l ∙ mix_same (suc n) (λ j. z (16 + j)) (λ j. z' (16 + j)) qs qs i (λ j g. sym (h (16 + j) (omega arith))) (λ j g. refl);
          bare = λ j l g. h (16 + j) (omega arith) ∙ f.bare j l g;
        }
