-- The walk through the words that finds the leading ones, step by step. Assumes nothing.
use Rattle.std.proofs.Common.{◌≡◌, ℕ, suc, ◌+◌, ◌-◌, ◌*◌, ◌<◌, ◌≤◌, List, [], ◌∷◌, ◌++◌, length, take, drop, get_or, sym, refl, ap, ◌∙◌, subst, ap₂, add-one, arith}
use Rattle.std.proofs.lemmas.List.{length-append}
use borrow.Rule.Slice.PartMut.{put_mid}
use native.Mathlib.Decide.{ℕ_discrete}
use Rattle.field.specs.FiniteField.{FiniteField}
use Rattle.field.proofs.Laws.{zero_times, neg_zero}
use Rattle.series.specs.Words.{Word, Over}
use Rattle.series.specs.Families.{mix}
use Rattle.series.specs.WalkProgress.{Scanned}
use Rattle.series.specs.EliminationProgress.{Echelon}
use Rattle.field.specs.Sums.{dot, move}
use Rattle.field.specs.Rows.{Agree, at, row_at, square_at, RowOf}
use Rattle.series.specs.Tables.{Table, weight, row}
use Rattle.series.proofs.Words.{over_append}
use Rattle.series.proofs.Weights.{row_push}
use Rattle.series.proofs.Families.{mix_one}
use Rattle.series.proofs.Echelons.{echelon_few}
use Rattle.series.proofs.Bases.{basis_none, basis_fresh, basis_not_fresh}
use Rattle.series.proofs.Places.{range, range_has, range_are}
use Rattle.series.proofs.ReducedForms.{leading_prefix}
use Rattle.series.proofs.Projections.{seen_leading, leading_seen}
use Rattle.series.proofs.Walks.{Upto, scan_none, scan_back, scan_skip, scan_add, scan_first, scan_letter, scan_word, scan_done}
use Rattle.rows.specs.Memory.{Written}
use Rattle.rows.proofs.Memory.{frame_below}
use Rattle.field.proofs.Rows.{length_part, at_part, dot_same}
use Rattle.rows.proofs.Splits.{at_front}
use Rattle.rows.proofs.Parts.{written_part, written_range, written_behind}
use Rattle.elimination.specs.Elimination.{NewRow}
use Rattle.elimination.proofs.Updates.{updated, updated_here, updated_other}
use Rattle.elimination.proofs.Bases.{basis_same, basis_grow}
use Rattle.elimination.proofs.Remainders.{echelon_same, new_same, new_one}
use Rattle.spanning.specs.Places.{vector_at, coefficients_at}
use Rattle.leading.specs.Tracking.{Tracks, Bare, Tracked, Combination, NewTracked, Combines, Extends}
use Rattle.leading.specs.Units.{unit}
use Rattle.spanning.specs.Views.{columns_of, Spanned}
use Rattle.leading.specs.declared.view.View.{View}
use Rattle.leading.specs.Forward.{viewed, sight, Leads, WordsHeld, Stepped, TryingBy, WalkedBy}
use Rattle.leading.proofs.UnitRows.{unit_here, unit_other}
use Rattle.spanning.proofs.Pushes.{push_len, push_old, push_here, each_more}
use Rattle.leading.proofs.TrackedRows.{mix_same, tracked_same, combination_same, new_tracked_same}

module _ {V : Type 0} (K : FiniteField V) where
  -- one coefficient more, which is zero
  mix_more : (n : ℕ) (c b : ℕ → V) (ps qs : ℕ → ℕ → V) (i : ℕ) → ((j : ℕ) → j < n → b j ≡ c j) → b n ≡ K.zero → ((j : ℕ) → j < n → qs j i ≡ ps j i) → mix K (suc n) b qs i ≡ mix K n c ps i
  mix_more n c b ps qs i e z h = ap₂ K.plus (mix_same K n b c qs ps i e h) (ap (λ x. K.times x (qs n i)) z ∙ zero_times K (qs n i)) ∙ K.plus_zero (mix K n c ps i)

module _ {F V : Type 0} (K : FiniteField V) (v : F → V) (view : View F) where
  abbrev T : Table V
  T = viewed K v view

  abbrev d : ℕ
  d = view.count

  abbrev columns : ℕ → ℕ → V
  columns = columns_of K v view.columns.now

  short : T.states ≤ 16
  short = view.table.shape.few_states

  abbrev k : ℕ
  k = T.letters

  abbrev Good : Word → Type 0
  Good = Leads K v view

  abbrev S : Word → ℕ → V
  S = sight K v view

  -- the tracked rows
  abbrev rows : List F → ℕ → ℕ → V
  rows ts = square_at K v ts 0 32

  abbrev pivot : List ℕ → ℕ → ℕ
  pivot ps b = get_or ps b 0

  over : (w : Word) → Good w → Over k w
  over w h = h.0

  module _ (span : Spanned K v T d view.columns.now) where
    prefix : (u x : Word) → Good (u ++ x) → Good u
    prefix u x h = leading_seen K T k d columns span u (leading_prefix K k (weight K T) u x (seen_leading K T k d columns span (u ++ x) h))

    front : (u : Word) (a : ℕ) → Good (u ++ a ∷ []) → Good u
    front u a h = prefix u (a ∷ []) h

  -- the rows of n words, their tracked rows, and the coefficients below an offset are as they were
  pub record Kept (n offset : ℕ) (rs ts ks rs' ts' ks' : List F) : Type 0 where
    pub len : (length rs' ≡ length rs) × ((length ts' ≡ length ts) × (length ks' ≡ length ks))
    pub low : (j : ℕ) → j < vector_at n → at K v rs' j ≡ at K v rs j
    pub mid : (j : ℕ) → j < n * 32 → at K v ts' (0 + j) ≡ at K v ts (0 + j)
    pub high : (j : ℕ) → j < offset → at K v ks' j ≡ at K v ks j

  room_kept : (rs ts ks rs' ts' ks' : List F) → (272 ≤ length rs) × ((544 ≤ length ts) × (2048 ≤ length ks))
      → (length rs' ≡ length rs) × ((length ts' ≡ length ts) × (length ks' ≡ length ks)) → (272 ≤ length rs') × ((544 ≤ length ts') × (2048 ≤ length ks'))
  room_kept rs ts ks rs' ts' ks' r e = (omega (arith, r.0, e.0), (omega (arith, r.1.0, e.1.0), omega (arith, r.1.1, e.1.1)))

  held_same : (count offset : ℕ) (words : ℕ → Word) (ps : List ℕ) (rs ts ks rs' ts' ks' : List F) → Kept count offset rs ts ks rs' ts' ks' → WordsHeld K v view count words ps rs ts ks → WordsHeld K v view count words ps rs' ts' ks'
  held_same count offset words ps rs ts ks rs' ts' ks' u h =
      record {
        spanned = h.spanned;
        room = room_kept rs ts ks rs' ts' ks' h.room u.len;
        rows = λ i l j g. u.low (vector_at i + j) (omega (arith, short)) ∙ h.rows i l j g;
        basis = basis_same K d count S words (rows ts) (rows ts') (pivot ps) (λ b l j g. u.mid (b * 32 + j) (omega arith)) h.basis;
        ones = λ b l. let w = h.basis.stairs.within b l in u.mid (b * 32 + pivot ps b) (omega arith) ∙ h.ones b l;
        tracked = tracked_same K d count (λ j. S (words j)) (rows ts) (rows ts') view.few (let c = few in omega (arith, view.few)) (λ b l j g. u.mid (b * 32 + j) (omega arith)) h.tracked;
      }
    where
      few : count ≤ d
      few = echelon_few K d count (rows ts) (pivot ps) h.basis.stairs

  -- coefficients below the offset stay where they are
  step_same : (count offset : ℕ) (rs ts ks rs' ts' ks' : List F) → Kept count offset rs ts ks rs' ts' ks' → (i a : ℕ) → i * 128 + a * 16 + 16 ≤ offset → Agree 16 (row_at K v ks' (coefficients_at i a)) (row_at K v ks (coefficients_at i a))
  step_same count offset rs ts ks rs' ts' ks' u i a l j h =
      u.high (coefficients_at i a + j) (omega arith)

  stepped_same : (count : ℕ) (words : ℕ → Word) (ks ks' : List F) (i a : ℕ) → count ≤ 16 → Agree 16 (row_at K v ks' (coefficients_at i a)) (row_at K v ks (coefficients_at i a)) → Stepped K v view count words ks i a → Stepped K v view count words ks' i a
  stepped_same count words ks ks' i a few e s =
      record {
        made = λ q l. s.made q l ∙ mix_same K count (row_at K v ks (coefficients_at i a)) (row_at K v ks' (coefficients_at i a)) (λ j. S (words j)) (λ j. S (words j)) q (λ j h. sym (e j (omega arith))) (λ j h. refl);
        bare = λ j l h. e j h ∙ s.bare j l h;
      }

  trying_moved : (i a count : ℕ) (ps : List ℕ) (rs ts ks rs' ts' ks' : List F) → Kept count (i * 128 + a * 16) rs ts ks rs' ts' ks' → TryingBy K v view i a count ps rs ts ks → TryingBy K v view i a count ps rs' ts' ks'
  trying_moved i a count ps rs ts ks rs' ts' ks' u r =
      let few = r.few in
      record {
        words = r.words;
        held = held_same count (i * 128 + a * 16) r.words ps rs ts ks rs' ts' ks' u r.held;
        few = few;
        inside = r.inside;
        scanned = r.scanned;
        past = λ m b l h g. stepped_same count r.words ks ks' m b (omega arith) (step_same count (i * 128 + a * 16) rs ts ks rs' ts' ks' u m b (omega arith)) (r.past m b l h g);
        here = λ b l h. stepped_same count r.words ks ks' i b (omega arith) (step_same count (i * 128 + a * 16) rs ts ks rs' ts' ks' u i b (omega arith)) (r.here b l h);
      }

  -- the word is not leading: its coefficients are written
  trying_skip : (i a count : ℕ) (ps : List ℕ) (rs ts ks rs' ts' ks' : List F) (r : TryingBy K v view i a count ps rs ts ks) (y : ℕ → V) → 1 ≤ a → a ≤ k → Kept count (i * 128 + a * 16) rs ts ks rs' ts' ks'
      → Combination K d count (λ j. S (r.words j)) (rows ts) (pivot ps) (S (r.words i ++ a ∷ [])) y
      → Agree 16 (row_at K v ks' (coefficients_at i a)) (λ j. K.opposite (y (16 + j)))
      → TryingBy K v view i (a + 1) count ps rs' ts' ks'
  unfolding trying_moved
  trying_skip i a count ps rs ts ks rs' ts' ks' r y some high u c here =
      let m = trying_moved i a count ps rs ts ks rs' ts' ks' u r in
      let words = r.words in
      let x = words i ++ a ∷ [] in
      let s = r.scanned in
      record {
        words = words;
        held = m.held;
        few = r.few;
        inside = r.inside;
        scanned = rw (add-one a) (scan_letter k Good over (front r.held.spanned) count words (words i) a (scan_skip k Good over (front r.held.spanned) count words x s (basis_not_fresh K (λ i. i < d) S k count words (rows ts) (pivot ps) x s r.held.basis (λ _. K.zero) c.nothing.taken (λ q l. refl))));
        past = m.past;
        here = λ b l h. each b l h (ℕ_discrete b a);
      }
    where
      new : Stepped K v view count r.words ks' i a
      new =
          let few = r.few in
          record {
            made = λ q l. c.made q l ∙ mix_same K count (λ j. K.opposite (y (16 + j))) (row_at K v ks' (coefficients_at i a)) (λ j. S (r.words j)) (λ j. S (r.words j)) q (λ j h. sym (here j (omega arith))) (λ j h. refl);
            bare = λ j l h. here j h ∙ ap K.opposite (c.bare j l h) ∙ neg_zero K;
          }

      each : (b : ℕ) → 1 ≤ b → b < a + 1 → Dec (b ≡ a) → Stepped K v view count r.words ks' i b
      each b l h (yes e) = subst (λ m. Stepped K v view count r.words ks' i m) (sym e) new
      each b l h (no z) = let few = r.few in stepped_same count r.words ks ks' i b (omega arith) (step_same count (i * 128 + a * 16) rs ts ks rs' ts' ks' u i b (omega arith)) (r.here b l (omega arith))

  -- one word more, x
  module _ (count offset : ℕ) (words : ℕ → Word) (rs ts ks rs' ts' ks' : List F) (ps ps' : List ℕ) (x : Word) (b : ℕ) (u : Kept count offset rs ts ks rs' ts' ks')
      (new : Agree T.states (row_at K v rs' (vector_at count)) (row K T x))
      (f : NewTracked K d count (λ j. S (words j)) (rows ts) (pivot ps) (S x) b (row_at K v ts' (count * 32)))
      (olds : (i : ℕ) → i < count → pivot ps' i ≡ pivot ps i) (here : pivot ps' count ≡ b) where
    abbrev more : ℕ → Word
    more = updated count words x

    more_old : (j : ℕ) → j < count → (q : ℕ) → S (more j) q ≡ S (words j) q
    more_old j l q = ap (λ u. S u q) (updated_other count words x j (omega arith))

    more_new : (q : ℕ) → S (more count) q ≡ S x q
    more_new q = ap (λ u. S u q) (updated_here count words x)

    -- the new row, as one of the tracked rows
    shift : (j : ℕ) → rows ts' count j ≡ row_at K v ts' (count * 32) j
    shift j = ap (at K v ts') (omega arith)

    row_new : NewRow K d count (rows ts) (pivot ps) (S x) b (rows ts' count)
    row_new = new_same K d count (rows ts) (pivot ps) (S x) (S x) b (row_at K v ts' (count * 32)) (rows ts' count) (λ j l. refl) (λ j l. shift j) f.new

    held_grow : WordsHeld K v view count words ps rs ts ks → WordsHeld K v view (suc count) more ps' rs' ts' ks'
    held_grow h =
        record {
          spanned = h.spanned;
          room = room_kept rs ts ks rs' ts' ks' h.room u.len;
          rows = each_more count words x (λ i w. Agree T.states (row_at K v rs' (vector_at i)) (row K T w)) (λ i l j g. u.low (vector_at i + j) (omega (arith, short)) ∙ h.rows i l j g) new;
          basis = basis_grow K d count S words (rows ts) (rows ts') (pivot ps) (pivot ps') x b h.basis row_new (λ b l j g. u.mid (b * 32 + j) (omega arith)) olds here;
          ones = each_more count words x (λ i w. rows ts' i (pivot ps' i) ≡ K.one)
              (λ i l. let p = h.basis.stairs.within i l in ap (rows ts' i) (olds i l) ∙ u.mid (i * 32 + pivot ps i) (omega arith) ∙ h.ones i l)
              (ap (rows ts' count) here ∙ new_one K d count (rows ts) (pivot ps) (S x) b (rows ts' count) row_new);
          tracked = record {
            tracks = each_more count words x (λ i w. Tracks K d (suc count) (λ j. S (more j)) (rows ts' i)) old_tracks new_tracks;
            bare = each_more count words x (λ i w. Bare K (suc count) (rows ts' i)) (λ i l j z t. u.mid (i * 32 + (16 + j)) (omega arith) ∙ h.tracked.bare i l j (omega arith) t) (λ j z t. shift (16 + j) ∙ f.bare j z t);
          };
        }
      where
        new_tracks : Tracks K d (suc count) (λ j. S (more j)) (rows ts' count)
        new_tracks q g =
            shift q ∙ f.tracks (λ j. S (more j)) (λ j z t s. more_old j z t) (λ t s. more_new t) q g
            ∙ mix_same K (suc count) (λ j. row_at K v ts' (count * 32) (16 + j)) (λ j. rows ts' count (16 + j)) (λ j. S (more j)) (λ j. S (more j)) q (λ j z. sym (shift (16 + j))) (λ j z. refl)

        old_tracks : (i : ℕ) → i < count → Tracks K d (suc count) (λ j. S (more j)) (rows ts' i)
        old_tracks i l q g =
            let room = f.new.room in
            u.mid (i * 32 + q) (omega arith) ∙ h.tracked.tracks i l q g
            ∙ sym (mix_more K count (λ j. rows ts i (16 + j)) (λ j. rows ts' i (16 + j)) (λ j. S (words j)) (λ j. S (more j)) q
            (λ j z. u.mid (i * 32 + (16 + j)) (omega arith)) (u.mid (i * 32 + (16 + count)) (omega arith) ∙ h.tracked.bare i l count (omega arith) (omega arith)) (λ j z. more_old j z q))

    stepped_grow : (i a : ℕ) → i < count → Agree 16 (row_at K v ks' (coefficients_at i a)) (row_at K v ks (coefficients_at i a)) → Stepped K v view count words ks i a → Stepped K v view (suc count) more ks' i a
    stepped_grow i a l e s =
        let room = f.new.room in
        record {
          made = λ q g.
              ap (λ u. S (u ++ a ∷ []) q) (updated_other count words x i (omega arith)) ∙ s.made q g
              ∙ sym (mix_more K count (row_at K v ks (coefficients_at i a)) (row_at K v ks' (coefficients_at i a)) (λ j. S (words j)) (λ j. S (more j)) q (λ j z. e j (omega arith)) (e count (omega arith) ∙ s.bare count (omega arith) (omega arith)) (λ j z. more_old j z q));
          bare = λ j z t. e j t ∙ s.bare j (omega arith) t;
        }

  -- the word is leading: its coefficients are a unit row
  trying_keep : (i a b count : ℕ) (ps ps' : List ℕ) (rs ts ks rs' ts' ks' : List F) (r : TryingBy K v view i a count ps rs ts ks) → 1 ≤ a → a ≤ k → Kept count (i * 128 + a * 16) rs ts ks rs' ts' ks'
      → Agree T.states (row_at K v rs' (vector_at count)) (row K T (r.words i ++ a ∷ []))
      → NewTracked K d count (λ j. S (r.words j)) (rows ts) (pivot ps) (S (r.words i ++ a ∷ [])) b (row_at K v ts' (count * 32))
      → ((j : ℕ) → j < count → pivot ps' j ≡ pivot ps j) → pivot ps' count ≡ b
      → Agree 16 (row_at K v ks' (coefficients_at i a)) (unit K count)
      → TryingBy K v view i (a + 1) (suc count) ps' rs' ts' ks'
  trying_keep i a b count ps ps' rs ts ks rs' ts' ks' r some high u new f olds here units =
      let inside = r.inside in
      let words = r.words in
      let s = r.scanned in
      let w = f.new in
      let fresh = basis_fresh K (λ i. i < d) S k count words (rows ts) (pivot ps) x s r.held.basis w.rest w.remainder.taken (range d) (range_has d) (range_are d) (over_append k (words i) (a ∷ []) (over (words i) (s.good i inside)) (some, high, tt)) w.remainder.cleared b w.within w.apart in
      let t = scan_letter k Good over (front r.held.spanned) (suc count) more' (words i) a (scan_add k Good over (front r.held.spanned) count words more' x s fresh (λ j h. updated_other count words x j (omega arith)) (updated_here count words x)) in
      record {
        words = more';
        held = held_grow count offset words rs ts ks rs' ts' ks' ps ps' x b u new f olds here r.held;
        few = w.room;
        inside = omega arith;
        scanned = rw (add-one a) (subst (λ u. Scanned Good (suc count) more' (u ++ suc a ∷ [])) (sym (updated_other count words x i (omega arith))) t);
        past = λ m b' l h z. old m b' (omega arith) (omega arith) (r.past m b' l h z);
        here = λ b' l h. each b' l h (ℕ_discrete b' a);
      }
    where
      x : Word
      x = r.words i ++ a ∷ []

      offset : ℕ
      offset = i * 128 + a * 16

      more' : ℕ → Word
      more' = updated count r.words x

      old : (m b' : ℕ) → m < count → m * 128 + b' * 16 + 16 ≤ i * 128 + a * 16 → Stepped K v view count r.words ks m b' → Stepped K v view (suc count) more' ks' m b'
      old m b' l h = stepped_grow count offset r.words rs ts ks rs' ts' ks' ps ps' x b u new f olds here m b' l (step_same count offset rs ts ks rs' ts' ks' u m b' h)

      last : Stepped K v view (suc count) more' ks' i a
      last =
          let inside = r.inside in
          let room = f.new.room in
          record {
            made = λ q l.
                ap (λ u. S (u ++ a ∷ []) q) (updated_other count r.words x i (omega arith)) ∙ sym (ap (λ u. S u q) (updated_here count r.words x))
                ∙ sym (mix_one K (λ i. i < d) (suc count) (λ j. S (more' j)) (row_at K v ks' (coefficients_at i a)) count (omega arith) (units count (omega arith) ∙ unit_here K count) (λ j z u. units j (omega arith) ∙ unit_other K count j u) q);
            bare = λ j l h. units j h ∙ unit_other K count j (omega arith);
          }

      each : (b' : ℕ) → 1 ≤ b' → b' < a + 1 → Dec (b' ≡ a) → Stepped K v view (suc count) more' ks' i b'
      each b' l h (yes e) = subst (λ m. Stepped K v view (suc count) more' ks' i m) (sym e) last
      each b' l h (no z) = old i b' r.inside (omega arith) (r.here b' l (omega arith))

  pub trying_walked : (i count : ℕ) (ps : List ℕ) (rs ts ks : List F) → TryingBy K v view i (k + 1) count ps rs ts ks → WalkedBy K v view (i + 1) count ps rs ts ks
  trying_walked i count ps rs ts ks r =
      let s = r.scanned in
      let inside = r.inside in
      let u : Upto Good count r.words (r.words i ++ k ∷ []) = scan_back Good count r.words (r.words i) k (rw (add-one k) at s) in
      record {
        words = r.words;
        held = r.held;
        few = r.few;
        upto = omega arith;
        next = λ l. rw (add-one i) (scan_word k Good over (front r.held.spanned) count r.words i (omega arith) u);
        done = λ e. record { ascends = s.ascends; good = s.good; whole = scan_done k Good over (front r.held.spanned) count r.words i (omega arith) u };
        past = λ m b l z h. each m b l z h (ℕ_discrete m i);
      }
    where
      each : (m b : ℕ) → m < i + 1 → 1 ≤ b → b ≤ k → Dec (m ≡ i) → Stepped K v view count r.words ks m b
      each m b l z h (yes e) = subst (λ n. Stepped K v view count r.words ks n b) (sym e) (r.here b z (omega arith))
      each m b l z h (no u) = r.past m b (omega arith) z h

  -- no word is found yet
  held_none : (ps : List ℕ) (rs ts ks : List F) → Spanned K v T d view.columns.now → (272 ≤ length rs) × ((544 ≤ length ts) × (2048 ≤ length ks)) → WordsHeld K v view 0 (λ i. []) ps rs ts ks
  held_none ps rs ts ks span room =
      record {
        spanned = span;
        room = room;
        rows = λ i l. absurd (omega arith);
        basis = basis_none K (λ i. i < d) S (λ i. []) (rows ts) (pivot ps);
        ones = λ i l. absurd (omega arith);
        tracked = record { tracks = λ b l. absurd (omega arith); bare = λ b l. absurd (omega arith) };
      }

  -- the empty word is not leading: none is
  walked_none : (ps : List ℕ) (rs ts ks : List F) (y : ℕ → V) → WordsHeld K v view 0 (λ i. []) ps rs ts ks → Combination K d 0 (λ j. S []) (rows ts) (pivot ps) (S []) y → WalkedBy K v view 0 0 ps rs ts ks
  walked_none ps rs ts ks y h c =
      let none = basis_not_fresh K (λ i. i < d) S k 0 (λ i. []) (rows ts) (pivot ps) [] (scan_none Good (λ i. [])) h.basis (λ _. K.zero) c.nothing.taken (λ q l. refl) in
      record {
        words = λ i. [];
        held = h;
        few = omega arith;
        upto = omega arith;
        next = λ l. absurd (omega arith);
        done = λ e. record { ascends = λ i j l h. absurd (omega arith); good = λ i l. absurd (omega arith); whole = λ x g. absurd (none (prefix h.spanned [] x g)) };
        past = λ m b l. absurd (omega arith);
      }

  -- it is the first
  walked_first : (b : ℕ) (ps ps' : List ℕ) (rs ts ks rs' ts' ks' : List F) → WordsHeld K v view 0 (λ i. []) ps rs ts ks → Kept 0 0 rs ts ks rs' ts' ks' → Agree T.states (row_at K v rs' (vector_at 0)) (row K T [])
      → NewTracked K d 0 (λ j. S []) (rows ts) (pivot ps) (S []) b (row_at K v ts' (0 * 32)) → pivot ps' 0 ≡ b → WalkedBy K v view 0 1 ps' rs' ts' ks'
  walked_first b ps ps' rs ts ks rs' ts' ks' h u new f here =
      let w = f.new in
      let words : ℕ → Word = updated 0 (λ i. []) [] in
      let first : words 0 ≡ [] = updated_here 0 (λ i. []) [] in
      let fresh = basis_fresh K (λ i. i < d) S k 0 (λ i. []) (rows ts) (pivot ps) [] (scan_none Good (λ i. [])) h.basis w.rest w.remainder.taken (range d) (range_has d) (range_are d) tt w.remainder.cleared b w.within w.apart in
      record {
        words = words;
        held = held_grow 0 0 (λ i. []) rs ts ks rs' ts' ks' ps ps' [] b u new f (λ i l. absurd (omega arith)) here h;
        few = w.room;
        upto = omega arith;
        next = λ l. scan_first k Good over (front h.spanned) words fresh first;
        done = λ e. absurd (omega arith);
        past = λ m b l. absurd (omega arith);
      }

  -- the row of the word i followed by the letter a is written behind the others, and what the view shows of it, in `saw`, is tried by the tracked rows, which lie in `basis`
  module _ (i a m : ℕ) (ps : List ℕ) (rs ts ks rs' basis rest saw : List F) (r : TryingBy K v view i a (length ps) ps rs ts ks) (some : 1 ≤ a) (high : a ≤ k)
      (counted : m ≡ length ps) (is : ts ≡ basis ++ rest) (long : length basis ≡ m * 32)
      (row_written : Written K v (vector_at m) T.states (move K T.states (T.step a) (row_at K v rs (vector_at i))) rs rs')
      (products : Agree d (at K v saw) (λ j. dot K T.states (row_at K v rs' (vector_at m)) (columns j))) where
    abbrev count : ℕ
    count = length ps

    w : Written K v (vector_at count) T.states (move K T.states (T.step a) (row_at K v rs (vector_at i))) rs rs'
    w = subst (λ m. Written K v (vector_at m) T.states (move K T.states (T.step a) (row_at K v rs (vector_at i))) rs rs') counted row_written

    basis_long : length basis ≡ count * 32
    basis_long = long ∙ ap (λ m. m * 32) counted

    abbrev q : ℕ → ℕ → V
    q = square_at K v basis 0 32

    row_next : Agree T.states (row_at K v rs' (vector_at count)) (row K T (r.words i ++ a ∷ []))
    row_next j l = w.done j l ∙ dot_same K T.states (r.held.rows i r.inside) (λ i h. refl) ∙ sym (ap (λ f. f j) (row_push K T (r.words i) a))

    sees : Agree d (at K v saw) (S (r.words i ++ a ∷ []))
    sees j l = products j l ∙ ap (λ m. dot K T.states (row_at K v rs' (vector_at m)) (columns j)) counted ∙ dot_same K T.states row_next (λ h z. refl)

    same : (b : ℕ) → b < count → Agree 32 (q b) (rows ts b)
    same b l j h = sym (ap (λ ts. at K v ts (0 + (b * 32 + j))) is ∙ at_front K v basis rest (0 + (b * 32 + j)) (omega (arith, basis_long)))

    pub stairs : (qs : List ℕ) → qs ≡ ps → Echelon K (λ i. i < d) (length qs) q (pivot qs)
    stairs qs e = subst (λ qs. Echelon K (λ i. i < d) (length qs) q (pivot qs)) (sym e) (echelon_same K d count (rows ts) q (pivot ps) (λ b l j h. same b l j (omega (arith, view.few))) r.held.basis.stairs)

    pub ones : (qs : List ℕ) → qs ≡ ps → (b : ℕ) → b < length qs → q b (pivot qs b) ≡ K.one
    ones qs e = subst (λ qs. (b : ℕ) → b < length qs → q b (pivot qs b) ≡ K.one) (sym e) (λ b l. let w = r.held.basis.stairs.within b l in same b l (pivot ps b) (omega (arith, view.few)) ∙ r.held.ones b l)

    tracked : Tracked K d count (λ j. S (r.words j)) q
    tracked = let few = r.few in tracked_same K d count (λ j. S (r.words j)) (rows ts) q view.few (omega (arith, view.few)) same r.held.tracked

    -- the row that is left is z, and the coefficients are written as `to`
    module _ (z to : List F) (wide : length z ≡ 32) where
      abbrev ts' : List F
      ts' = basis ++ (z ++ drop 32 rest)

      abbrev ks' : List F
      ks' = put_mid (coefficients_at i a) (coefficients_at i a + 16 - coefficients_at i a) ks to

      put : Written K v (count * 32) 32 (at K v z) ts ts'
      put =
          let few = r.few in
          let room = r.held.room.1.0 in
          let len = ap length is ∙ length-append basis rest in
          written_behind K v (count * 32) 32 basis rest is basis_long z (omega (arith, view.few, basis_long)) (record { len = wide; same = λ j l. refl })

      noted : {goal : ℕ → V} → RowOf K v 16 goal to → Written K v (coefficients_at i a) 16 goal ks ks'
      noted r' = let few = r.few in let inside = r.inside in let room = r.held.room.1.1 in written_range K v (coefficients_at i a) (coefficients_at i a + 16) 16 ks to (omega arith) (omega (arith, view.few, high, view.table.shape.few_letters)) r'

      kept : {goal : ℕ → V} → RowOf K v 16 goal to → Kept count (i * 128 + a * 16) rs ts ks rs' ts' ks'
      unfolding noted
      kept r' =
          let n = noted r' in
          record {
            len = (w.frame.len, (put.frame.len, n.frame.len));
            low = λ j l. frame_below K v w.frame j l;
            mid = λ j l. frame_below K v put.frame (0 + j) (omega arith);
            high = λ j l. frame_below K v n.frame j l;
          }

      pub tried_skip : (qs : List ℕ) → qs ≡ ps → Combines K d (length qs) q (pivot qs) (at K v saw) (at K v z)
          → (let c = take 16 (drop 16 (z ++ drop 32 rest)) in RowOf K v (length c) (λ j. K.opposite (at K v c j)) to) → TryingBy K v view i (a + 1) count ps rs' ts' ks'
      tried_skip qs e c o =
          let c = subst (λ qs. Combines K d (length qs) q (pivot qs) (at K v saw) (at K v z)) e c in
          let o = subst (λ m. RowOf K v m (λ j. K.opposite (at K v (take 16 (drop 16 (z ++ drop 32 rest))) j)) to) (length_part 16 32 (z ++ drop 32 rest) (omega arith) (omega (arith, length-append z (drop 32 rest)))) o in
          trying_skip i a count ps rs ts ks rs' ts' ks' r (at K v z) some high (kept o)
          (combination_same K d count (λ j. S (r.words j)) (rows ts) q (pivot ps) (at K v saw) (S (r.words i ++ a ∷ [])) view.few same sees (at K v z) (c (λ j. S (r.words j)) tracked))
          (λ j l. (noted o).done j l ∙ ap K.opposite (at_part K v 16 32 (z ++ drop 32 rest) j (omega arith) ∙ at_front K v z (drop 32 rest) (16 + j) (omega arith)))

      pub tried_keep : (b : ℕ) (qs ps' : List ℕ) → qs ≡ ps → ps' ≡ ps ++ b ∷ [] → Extends K d (length qs) q (pivot qs) (at K v saw) b (at K v z)
          → RowOf K v (length (take (coefficients_at i a + 16 - coefficients_at i a) (drop (coefficients_at i a) ks))) (unit K m) to → TryingBy K v view i (a + 1) (length ps') ps' rs' ts' ks'
      tried_keep b qs ps' e p c o =
          let few = r.few in let inside = r.inside in let room = r.held.room.1.1 in
          let c = subst (λ qs. Extends K d (length qs) q (pivot qs) (at K v saw) b (at K v z)) e c in
          let o = subst (λ m. RowOf K v (length (take (coefficients_at i a + 16 - coefficients_at i a) (drop (coefficients_at i a) ks))) (unit K m) to) counted o in
          let o = subst (λ m. RowOf K v m (unit K count) to) (length_part (coefficients_at i a) (coefficients_at i a + 16) ks (omega arith) (omega (arith, view.few, high, view.table.shape.few_letters)) ∙ omega arith) o in
          subst (λ m. TryingBy K v view i (a + 1) m ps' rs' ts' ks') (sym (push_len b ps ps' p))
          (trying_keep i a b count ps ps' rs ts ks rs' ts' ks' r some high (kept o) row_next
          (new_tracked_same K d count (λ j. S (r.words j)) (rows ts) q (pivot ps) (at K v saw) (S (r.words i ++ a ∷ [])) view.few same sees b (at K v z) (row_at K v ts' (count * 32)) put.done (c (λ j. S (r.words j)) tracked))
          (push_old b ps ps' p) (push_here b ps ps' p) (noted o).done)

  -- the start row is written to the first place, and what the view shows of it, in `saw`, is tried
  module _ (m : ℕ) (told : m ≡ T.states) (rs ts first saw : List F) (span : Spanned K v T d view.columns.now) (room : (272 ≤ length rs) × (544 ≤ length ts))
      (start : RowOf K v T.states T.start first) (products : Agree d (at K v saw) (λ j. dot K (length first) (at K v first) (columns j))) where
    abbrev begun : List F
    begun = first ++ drop m rs

    put_first : Written K v 0 T.states T.start rs begun
    put_first = subst (λ m. Written K v 0 T.states T.start rs (first ++ drop m rs)) (sym told) (written_part K v 0 T.states rs first start (omega (arith, room.0, short)))

    sees_empty : Agree d (at K v saw) (S [])
    sees_empty j l = subst (λ m. at K v saw j ≡ dot K m (at K v first) (columns j)) start.len (products j l) ∙ dot_same K T.states start.same (λ h z. refl)

    -- nothing is tracked yet
    none_tracked : (q : ℕ → ℕ → V) → Tracked K d 0 (λ j. S []) q
    none_tracked q = record { tracks = λ b l. absurd (omega arith); bare = λ b l. absurd (omega arith) }

    module _ (z ks : List F) (wide : length z ≡ 32) (wide_ks : 2048 ≤ length ks) where
      abbrev tried : List F
      tried = z ++ drop 32 ts

      put_tried : Written K v 0 32 (at K v z) ts tried
      put_tried = written_part K v 0 32 ts z (record { len = wide; same = λ j l. refl }) (omega (arith, room.1))

      before : (ps : List ℕ) → WordsHeld K v view 0 (λ i. []) ps rs ts ks
      before ps = held_none ps rs ts ks span (room.0, (room.1, wide_ks))

      kept_first : Kept 0 0 rs ts ks begun tried ks
      kept_first = record { len = (put_first.frame.len, (put_tried.frame.len, refl)); low = λ j l. absurd (omega arith); mid = λ j l. absurd (omega arith); high = λ j l. refl }

      pub empty_skip : (qs ps : List ℕ) → qs ≡ [] → ps ≡ [] → Combines K d (length qs) (square_at K v [] 0 32) (pivot qs) (at K v saw) (at K v z) → WalkedBy K v view 0 (length ps) ps begun tried ks
      empty_skip qs ps e h c =
          let c = subst (λ qs. Combines K d (length qs) (square_at K v [] 0 32) (pivot qs) (at K v saw) (at K v z)) e c in
          subst (λ ps. WalkedBy K v view 0 (length ps) ps begun tried ks) (sym h)
          (walked_none [] begun tried ks (at K v z) (held_none [] begun tried ks span (room_kept rs ts ks begun tried ks (room.0, (room.1, wide_ks)) kept_first.len))
          (combination_same K d 0 (λ j. S []) (rows tried) (square_at K v [] 0 32) (pivot []) (at K v saw) (S []) view.few (λ b l. absurd (omega arith)) sees_empty (at K v z) (c (λ j. S []) (none_tracked (square_at K v [] 0 32)))))

      pub empty_keep : (b : ℕ) (qs ps ps' : List ℕ) → qs ≡ [] → ps ≡ [] → ps' ≡ ps ++ b ∷ [] → Extends K d (length qs) (square_at K v [] 0 32) (pivot qs) (at K v saw) b (at K v z) → WalkedBy K v view 0 (length ps') ps' begun tried ks
      empty_keep b qs ps ps' e h p c =
          let c = subst (λ qs. Extends K d (length qs) (square_at K v [] 0 32) (pivot qs) (at K v saw) b (at K v z)) e c in
          let p = subst (λ ps. ps' ≡ ps ++ b ∷ []) h p in
          subst (λ m. WalkedBy K v view 0 m ps' begun tried ks) (sym (push_len b [] ps' p))
          (walked_first b [] ps' rs ts ks begun tried ks (before []) kept_first put_first.done
          (new_tracked_same K d 0 (λ j. S []) (rows ts) (square_at K v [] 0 32) (pivot []) (at K v saw) (S []) view.few (λ b l. absurd (omega arith)) sees_empty b (at K v z) (row_at K v tried (0 * 32)) put_tried.done (c (λ j. S []) (none_tracked (square_at K v [] 0 32))))
          (push_here b [] ps' p))
