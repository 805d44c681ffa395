-- The search for columns that span the columns of all words, step by step. Assumes nothing.
use Rattle.std.proofs.Common.{◌≡◌, ℕ, suc, ◌+◌, ◌-◌, ◌*◌, ◌<◌, ◌≤◌, List, [], ◌∷◌, ◌++◌, length, take, drop, get_or, sym, refl, ap, ◌∙◌, subst, arith}
use Rattle.std.proofs.lemmas.List.{length-append}
use native.Mathlib.Decide.{ℕ_discrete}
use Rattle.field.specs.FiniteField.{FiniteField}
use Rattle.series.specs.Words.{Word, Over}
use Rattle.series.specs.Spans.{Span}
use Rattle.series.specs.Families.{Of}
use Rattle.series.specs.EliminationProgress.{Basis}
use Rattle.field.specs.Sums.{dot}
use Rattle.field.specs.Rows.{Agree, at, row_at, square_at, RowOf}
use Rattle.series.specs.Tables.{Table, column}
use Rattle.series.proofs.SpanLaws.{span_same, span_span, span_member, span_more}
use Rattle.series.proofs.Echelons.{echelon_in}
use Rattle.series.proofs.Columns.{columns_covered}
use Rattle.series.proofs.Bases.{basis_none}
use Rattle.rows.specs.Memory.{Frame, Written}
use Rattle.rows.specs.Seen.{SquareOf}
use Rattle.rows.proofs.Memory.{frame_below}
use Rattle.rows.proofs.Parts.{column_product, row_before, written_behind, written_part}
use Rattle.elimination.specs.Elimination.{NothingLeft, NewRow}
use Rattle.elimination.proofs.Updates.{updated, updated_here, updated_other}
use Rattle.elimination.proofs.Bases.{basis_same, basis_grow}
use Rattle.elimination.proofs.Remainders.{nothing_same, new_same, new_one}
use Rattle.elimination.proofs.Offsets.{entry_before}
use Rattle.spanning.specs.Places.{vector_at}
use Rattle.spanning.specs.Views.{columns_of, Spanned}
use Rattle.spanning.specs.Backward.{Covered, ColumnsHeld, ColumnDueBy}
use Rattle.spanning.proofs.Pushes.{push_len, push_old, push_here, each_more}

module _ {F V : Type 0} (K : FiniteField V) (v : F → V) (T : Table V) (few_states : T.states ≤ 16) where
  abbrev n : ℕ
  n = T.states

  abbrev P : ℕ → Type 0
  P i = i < n

  -- the rows in echelon form
  abbrev rows : List F → ℕ → ℕ → V
  rows es = square_at K v es 0 n

  abbrev pivot : List ℕ → ℕ → ℕ
  pivot ps b = get_or ps b 0

  -- the columns of the first count words, and their rows, are as they were
  pub record Kept (count : ℕ) (cs es cs' es' : List F) : Type 0 where
    pub len : (length cs' ≡ length cs) × (length es' ≡ length es)
    pub low : (j : ℕ) → j < vector_at count → at K v cs' j ≡ at K v cs j
    pub high : (j : ℕ) → j < count * n → at K v es' (0 + j) ≡ at K v es (0 + j)

  -- all was tried: the columns span those of all words
  pub due_done : (i count : ℕ) (ps : List ℕ) (cs es : List F) → i ≡ count → ColumnDueBy K v T i 1 count ps cs es → Spanned K v T count cs
  due_done i count ps cs es e g =
      record {
        covers = λ w o.
            span_span K P (λ y m. span_same K P y (λ j l. ap (λ y. y j) m.2 ∙ sym (g.held.columns m.0 m.1 j l)) (span_member K P (m.0, m.1, refl)))
            (columns_covered K T T.letters (Of count (λ j. column K T (g.words j))) g.held.end_covered
            (λ a o y m. subst (λ z. Span K P (Of count (λ j. column K T (g.words j))) (λ i. dot K n (T.step a i) z)) (sym m.2) (let l = m.1 in g.past m.0 a (omega arith) o.0 o.1)) w o);
        covered = λ j l. span_same K P (columns_of K v cs j) (g.held.columns j l) (span_member K P (g.words j, g.held.overs j l, refl));
      }

  -- a column of which the rows leave nothing
  covered_nothing : (count : ℕ) (words : ℕ → Word) (q : ℕ → ℕ → V) (p : ℕ → ℕ) (x : Word) → Basis K P (column K T) count words q p → NothingLeft K n count q p (column K T x) → Covered K v T count words x
  covered_nothing count words q p x B u = span_span K P (λ y m. subst (Span K P (Of count (λ j. column K T (words j)))) (sym m.2) (B.from m.0 m.1)) (echelon_in K P count q (column K T x) (λ _. K.zero) u.taken (λ i l. refl))

  room_kept : (cs es cs' es' : List F) → (272 ≤ length cs) × (272 ≤ length es) → (length cs' ≡ length cs) × (length es' ≡ length es) → (272 ≤ length cs') × (272 ≤ length es')
  room_kept cs es cs' es' r e = (omega (arith, r.0, e.0), omega (arith, r.1, e.1))

  held_same : (count : ℕ) (words : ℕ → Word) (ps : List ℕ) (cs es cs' es' : List F) → Kept count cs es cs' es' → ColumnsHeld K v T count words ps cs es → ColumnsHeld K v T count words ps cs' es'
  held_same count words ps cs es cs' es' k s =
      record {
        room = room_kept cs es cs' es' s.room k.len;
        overs = s.overs;
        columns = λ j l i h. k.low (vector_at j + i) (omega arith) ∙ s.columns j l i h;
        basis = basis_same K n count (column K T) words (rows es) (rows es') (pivot ps) (λ b l j g. k.high (b * n + j) (entry_before b n j count l g)) s.basis;
        ones = λ b l. k.high (b * n + pivot ps b) (entry_before b n (pivot ps b) count l (s.basis.stairs.within b l)) ∙ s.ones b l;
        end_covered = s.end_covered;
      }

  -- the column is a combination of those found
  pub due_skip : (i a count : ℕ) (ps : List ℕ) (cs es cs' es' : List F) (g : ColumnDueBy K v T i a count ps cs es) → Kept count cs es cs' es' → NothingLeft K n count (rows es) (pivot ps) (column K T (a ∷ g.words i)) → ColumnDueBy K v T i (a + 1) count ps cs' es'
  due_skip i a count ps cs es cs' es' g k u = record { words = g.words; held = held_same count g.words ps cs es cs' es' k g.held; few = g.few; upto = g.upto; past = g.past; here = λ b l h. each b l h (ℕ_discrete b a) }
    where
      each : (b : ℕ) → 1 ≤ b → b < a + 1 → Dec (b ≡ a) → Covered K v T count g.words (b ∷ g.words i)
      each b l h (yes e) = subst (λ m. Covered K v T count g.words (m ∷ g.words i)) (sym e) (covered_nothing count g.words (rows es) (pivot ps) (a ∷ g.words i) g.held.basis u)
      each b l h (no z) = g.here b l (omega arith)

  -- the column of the word x is none
  module _ (count : ℕ) (words : ℕ → Word) (x : Word) where
    abbrev more : ℕ → Word
    more = updated count words x

    covered_more : (u : Word) → Covered K v T count words u → Covered K v T (suc count) more u
    covered_more u s = span_more K P (λ y m. (m.0, (let l = m.1 in omega arith), m.2 ∙ sym (ap (column K T) (updated_other count words x m.0 (let l = m.1 in omega arith))))) s

    covered_new : Covered K v T (suc count) more x
    covered_new = span_member K P (count, omega arith, sym (ap (column K T) (updated_here count words x)))

    held_grow : (b : ℕ) (ps ps' : List ℕ) (cs es cs' es' : List F) → (272 ≤ length cs) × (272 ≤ length es) → Over T.letters x → Kept count cs es cs' es'
        → ((j : ℕ) → j < count → Over T.letters (words j)) → ((j : ℕ) → j < count → Agree n (row_at K v cs (vector_at j)) (column K T (words j)))
        → Basis K P (column K T) count words (rows es) (pivot ps) → ((j : ℕ) → j < count → rows es j (pivot ps j) ≡ K.one)
        → Covered K v T (suc count) more [] → Agree n (row_at K v cs' (vector_at count)) (column K T x)
        → NewRow K n count (rows es) (pivot ps) (column K T x) b (row_at K v es' (count * n))
        → ((j : ℕ) → j < count → pivot ps' j ≡ pivot ps j) → pivot ps' count ≡ b
        → ColumnsHeld K v T (suc count) more ps' cs' es'
    held_grow b ps ps' cs es cs' es' room over k overs columns basis ones ended new w olds here =
        record {
          room = room_kept cs es cs' es' room k.len;
          overs = each_more count words x (λ j u. Over T.letters u) overs over;
          columns = each_more count words x (λ j u. Agree n (row_at K v cs' (vector_at j)) (column K T u)) (λ j l i h. k.low (vector_at j + i) (omega arith) ∙ columns j l i h) new;
          basis = basis_grow K n count (column K T) words (rows es) (rows es') (pivot ps) (pivot ps') x b basis row (λ b l j h. k.high (b * n + j) (entry_before b n j count l h)) olds here;
          ones = each_more count words x (λ j u. rows es' j (pivot ps' j) ≡ K.one) (λ j l. ap (rows es' j) (olds j l) ∙ k.high (j * n + pivot ps j) (entry_before j n (pivot ps j) count l (basis.stairs.within j l)) ∙ ones j l) (ap (rows es' count) here ∙ new_one K n count (rows es) (pivot ps) (column K T x) b (rows es' count) row);
          end_covered = ended;
        }
      where
        row : NewRow K n count (rows es) (pivot ps) (column K T x) b (rows es' count)
        row = new_same K n count (rows es) (pivot ps) (column K T x) (column K T x) b (row_at K v es' (count * n)) (rows es' count) (λ j l. refl) (λ j l. ap (at K v es') (omega arith)) w

  pub due_keep : (i a b count : ℕ) (ps ps' : List ℕ) (cs es cs' es' : List F) (g : ColumnDueBy K v T i a count ps cs es) → i < count → 1 ≤ a → a ≤ T.letters → Kept count cs es cs' es'
      → Agree n (row_at K v cs' (vector_at count)) (column K T (a ∷ g.words i))
      → NewRow K n count (rows es) (pivot ps) (column K T (a ∷ g.words i)) b (row_at K v es' (count * n))
      → ((j : ℕ) → j < count → pivot ps' j ≡ pivot ps j) → pivot ps' count ≡ b
      → ColumnDueBy K v T i (a + 1) (suc count) ps' cs' es'
  due_keep i a b count ps ps' cs es cs' es' g inside low high k new w olds here =
      let h = g.held in
      record {
        words = updated count g.words x;
        held = held_grow count g.words x b ps ps' cs es cs' es' h.room (low, high, h.overs i inside) k h.overs h.columns h.basis h.ones (covered_more count g.words x [] h.end_covered) new w olds here;
        few = w.room;
        upto = omega arith;
        past = λ m c l h z. old m (omega arith) c (covered_more count g.words x (c ∷ g.words m) (g.past m c l h z));
        here = λ c l h. old i (omega arith) c (each c l h (ℕ_discrete c a));
      }
    where
      x : Word
      x = a ∷ g.words i

      old : (m : ℕ) → m < count → (c : ℕ) → Covered K v T (suc count) (updated count g.words x) (c ∷ g.words m) → Covered K v T (suc count) (updated count g.words x) (c ∷ updated count g.words x m)
      old m l c = subst (λ y. Covered K v T (suc count) (updated count g.words x) (c ∷ y)) (sym (updated_other count g.words x m (omega arith)))

      each : (c : ℕ) → 1 ≤ c → c < a + 1 → Dec (c ≡ a) → Covered K v T (suc count) (updated count g.words x) (c ∷ g.words i)
      each c l h (yes e) = subst (λ m. Covered K v T (suc count) (updated count g.words x) (m ∷ g.words i)) (sym e) (covered_new count g.words x)
      each c l h (no z) = covered_more count g.words x (c ∷ g.words i) (g.here c l (omega arith))

  -- every letter was tried before the word i
  pub due_next : (i count : ℕ) (ps : List ℕ) (cs es : List F) → i < count → ColumnDueBy K v T i (T.letters + 1) count ps cs es → ColumnDueBy K v T (i + 1) 1 count ps cs es
  due_next i count ps cs es l g = record { words = g.words; held = g.held; few = g.few; upto = omega arith; past = λ m b h z t. each m b h z t (ℕ_discrete m i); here = λ b z h. absurd (omega arith) }
    where
      each : (m b : ℕ) → m < i + 1 → 1 ≤ b → b ≤ T.letters → Dec (m ≡ i) → Covered K v T count g.words (b ∷ g.words m)
      each m b h z t (yes e) = subst (λ y. Covered K v T count g.words (b ∷ g.words y)) (sym e) (g.here b z (omega arith))
      each m b h z t (no u) = g.past m b (omega arith) z t

  -- the end column is zero
  pub due_none : (ps : List ℕ) (cs es cs' es' : List F) → (272 ≤ length cs') × (272 ≤ length es') → NothingLeft K n 0 (rows es) (pivot ps) (column K T []) → ColumnDueBy K v T 0 1 0 ps cs' es'
  due_none ps cs es cs' es' room u =
      record {
        words = λ i. [];
        held = record {
          room = room;
          overs = λ j l. absurd (omega arith);
          columns = λ j l. absurd (omega arith);
          basis = basis_none K P (column K T) (λ i. []) (rows es') (pivot ps);
          ones = λ b l. absurd (omega arith);
          end_covered = covered_nothing 0 (λ i. []) (rows es) (pivot ps) [] (basis_none K P (column K T) (λ i. []) (rows es) (pivot ps)) u;
        };
        few = omega arith;
        upto = omega arith;
        past = λ m b l. absurd (omega arith);
        here = λ b l h. absurd (omega arith);
      }

  -- it is the first column
  pub due_first : (b : ℕ) (ps ps' : List ℕ) (cs es cs' es' : List F) → (272 ≤ length cs) × (272 ≤ length es) → Agree n (row_at K v cs' (vector_at 0)) (column K T []) → NewRow K n 0 (rows es) (pivot ps) (column K T []) b (row_at K v es' (0 * n)) → pivot ps' 0 ≡ b → Kept 0 cs es cs' es' → ColumnDueBy K v T 0 1 1 ps' cs' es'
  due_first b ps ps' cs es cs' es' room new w here k =
      record {
        words = updated 0 (λ i. []) [];
        held =
            held_grow 0 (λ i. []) [] b ps ps' cs es cs' es' room tt k (λ j l. absurd (omega arith)) (λ j l. absurd (omega arith)) (basis_none K P (column K T) (λ i. []) (rows es) (pivot ps)) (λ j l. absurd (omega arith))
            (covered_new 0 (λ i. []) []) new w (λ j l. absurd (omega arith)) here;
        few = w.room;
        upto = omega arith;
        past = λ m b l. absurd (omega arith);
        here = λ b l h. absurd (omega arith);
      }

  -- the column of the word i with the letter a before it is written behind the columns found, and tried
  module _ (i a m : ℕ) (told : m ≡ n) (ps : List ℕ) (cs es front back matrix next : List F) (g : ColumnDueBy K v T i a (length ps) ps cs es) (inside : i < length ps) (low : 1 ≤ a) (high : a ≤ T.letters)
      (is : cs ≡ front ++ back) (long : length front ≡ vector_at (length ps)) (sq : SquareOf K v n (T.step a) matrix)
      (product : let c = take (vector_at i + m - vector_at i) (drop (vector_at i) front) in RowOf K v (length c) (λ j. dot K (length c) (square_at K v matrix 0 (length c) j) (at K v c)) next) where
    abbrev count : ℕ
    count = length ps

    abbrev cs' : List F
    cs' = front ++ (next ++ drop m back)

    made : RowOf K v n (column K T (a ∷ g.words i)) next
    made =
        column_product K v sq (row_before K v (vector_at count) n front back is long (vector_at i) (omega arith) (g.held.columns i inside))
        (subst (λ m. let c = take (vector_at i + m - vector_at i) (drop (vector_at i) front) in RowOf K v (length c) (λ j. dot K (length c) (square_at K v matrix 0 (length c) j) (at K v c)) next) told product)

    written : Written K v (vector_at count) n (column K T (a ∷ g.words i)) cs cs'
    written =
        let room = g.held.room.0 in
        let few = g.few in
        let len = ap length is ∙ length-append front back in
        subst (λ m. Written K v (vector_at count) n (column K T (a ∷ g.words i)) cs (front ++ (next ++ drop m back))) (sym told) (written_behind K v (vector_at count) n front back is long next (omega arith) made)

    -- what trying it by the pivots qs leaves
    abbrev Left : List ℕ → List F → ℕ → Type 0
    Left qs es' m = Frame (length qs * m) m es es' × NothingLeft K m (length qs) (square_at K v es 0 m) (pivot qs) (at K v next)

    abbrev Added : ℕ → List ℕ → List F → ℕ → Type 0
    Added b qs es' m = Frame (length qs * m) m es es' × NewRow K m (length qs) (square_at K v es 0 m) (pivot qs) (at K v next) b (row_at K v es' (length qs * m))

    kept : (es' : List F) → Frame (count * n) n es es' → Kept count cs es cs' es'
    unfolding written
    kept es' f = let w = written.frame in record { len = (w.len, f.len); low = λ j l. frame_below K v w j l; high = λ j l. frame_below K v f (0 + j) (omega arith) }

    pub tried_skip : (qs : List ℕ) (es' : List F) → qs ≡ ps → Left qs es' (length next) → ColumnDueBy K v T i (a + 1) count ps cs' es'
    tried_skip qs es' e u =
        let u = subst (Left ps es') made.len (subst (λ qs. Left qs es' (length next)) e u) in
        due_skip i a count ps cs es cs' es' g (kept es' u.0) (nothing_same K n count (rows es) (pivot ps) (at K v next) (column K T (a ∷ g.words i)) made.same u.1)

    pub tried_keep : (b : ℕ) (qs ps' : List ℕ) (es' : List F) → qs ≡ ps → ps' ≡ ps ++ b ∷ [] → Added b qs es' (length next) → ColumnDueBy K v T i (a + 1) (length ps') ps' cs' es'
    tried_keep b qs ps' es' e p u =
        let u = subst (Added b ps es') made.len (subst (λ qs. Added b qs es' (length next)) e u) in
        let z = row_at K v es' (count * n) in
        subst (λ m. ColumnDueBy K v T i (a + 1) m ps' cs' es') (sym (push_len b ps ps' p))
        (due_keep i a b count ps ps' cs es cs' es' g inside low high (kept es' u.0) written.done
        (new_same K n count (rows es) (pivot ps) (at K v next) (column K T (a ∷ g.words i)) b z z made.same (λ j l. refl) u.1)
        (push_old b ps ps' p) (push_here b ps ps' p))

  -- the end column is written to the first place, and tried
  module _ (m : ℕ) (told : m ≡ n) (cs es first : List F) (room : (272 ≤ length cs) × (272 ≤ length es)) (made : RowOf K v n T.end first) where
    abbrev begun : List F
    begun = first ++ drop m cs

    put : Written K v 0 n T.end cs begun
    put = subst (λ m. Written K v 0 n T.end cs (first ++ drop m cs)) (sym told) (written_part K v 0 n cs first made (omega (arith, room.0)))

    -- what trying it by the pivots qs leaves
    abbrev Ended : List ℕ → List F → ℕ → Type 0
    Ended qs es' m = Frame (length qs * m) m es es' × NothingLeft K m (length qs) (square_at K v es 0 m) (pivot qs) (at K v first)

    abbrev Begun : ℕ → List ℕ → List F → ℕ → Type 0
    Begun b qs es' m = Frame (length qs * m) m es es' × NewRow K m (length qs) (square_at K v es 0 m) (pivot qs) (at K v first) b (row_at K v es' (length qs * m))

    pub end_skip : (qs ps : List ℕ) (es' : List F) → qs ≡ [] → ps ≡ [] → Ended qs es' (length first) → ColumnDueBy K v T 0 1 (length ps) ps begun es'
    end_skip qs ps es' e h u =
        let u = subst (Ended [] es') made.len (subst (λ qs. Ended qs es' (length first)) e u) in
        subst (λ ps. ColumnDueBy K v T 0 1 (length ps) ps begun es') (sym h)
        (due_none [] cs es begun es' (room_kept cs es begun es' room (put.frame.len, u.0.len)) (nothing_same K n 0 (rows es) (pivot []) (at K v first) T.end made.same u.1))

    pub end_keep : (b : ℕ) (qs ps ps' : List ℕ) (es' : List F) → qs ≡ [] → ps ≡ [] → ps' ≡ ps ++ b ∷ [] → Begun b qs es' (length first) → ColumnDueBy K v T 0 1 (length ps') ps' begun es'
    end_keep b qs ps ps' es' e h p u =
        let u = subst (Begun b [] es') made.len (subst (λ qs. Begun b qs es' (length first)) e u) in
        let p = subst (λ ps. ps' ≡ ps ++ b ∷ []) h p in
        let z = row_at K v es' (0 * n) in
        subst (λ m. ColumnDueBy K v T 0 1 m ps' begun es') (sym (push_len b [] ps' p))
        (due_first b [] ps' cs es begun es' room put.done (new_same K n 0 (rows es) (pivot []) (at K v first) T.end b z z made.same (λ j l. refl) u.1)
        (push_here b [] ps' p) (record { len = (put.frame.len, u.0.len); low = λ j l. absurd (omega arith); high = λ j l. absurd (omega arith) }))
