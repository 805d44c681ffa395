-- What becomes of the walk when a word is tried. Assumes nothing.
use Rattle.std.proofs.Common.{◌≡◌, ℕ, suc, ◌+◌, ◌*◌, ◌<◌, ◌≤◌, List, [], ◌∷◌, ◌++◌, length, get_or, sym, refl, ap, ◌∙◌, subst, add-one, arith, length-append}
use Rattle.field.specs.FiniteField.{FiniteField}
use Rattle.series.specs.Comparing.{Kept}
use Rattle.field.specs.Rows.{Agree, at, row_at, square_at}
use Rattle.series.specs.Tables.{Table, weight, pair}
use Rattle.series.specs.WalkProgress.{Scanned}
use Rattle.series.specs.Words.{Word, Over}
use Rattle.series.proofs.KeptWords.{kept_prefix}
use Rattle.series.proofs.Walks.{Upto, scan_none, scan_back, scan_skip, scan_add, scan_first, scan_letter, scan_word, scan_done}
use Rattle.rows.specs.Memory.{Frame}
use Rattle.elimination.specs.Elimination.{NothingLeft, NewRow}
use Rattle.walk.specs.Walking.{kept, Noted, Linked, Held, Ready, Passed}
use Rattle.walk.specs.declared.links.Link.{Link}
use Rattle.walk.specs.declared.links.Walk.{Walk}
use Rattle.walk.proofs.Differences.{push_over}
use Rattle.walk.proofs.HeldWords.{held_none, held_few, held_same, held_grow, held_kept, held_not_kept}
use Rattle.walk.proofs.LinkedWords.{pushed_before, pushed_here, linked_grow}
use Rattle.elimination.proofs.Remainders.{nothing_same, new_same}
use Rattle.elimination.proofs.Updates.{updated, updated_here, updated_other}

module _ {F V : Type 0} (K : FiniteField V) (v : F → V) (S T : Table V) where
  abbrev d : ℕ
  d = S.states + T.states

  over : (w : Word) → Kept K S T w → Over S.letters w
  over w h = h.0

  front : (u : Word) (a : ℕ) → Kept K S T (u ++ a ∷ []) → Kept K S T u
  front u a h = kept_prefix K S T u (a ∷ []) h

  -- one kept word more
  one_more : {w w' : Walk} {b : ℕ} {link : Link} → Noted w w' b link → kept w' ≡ suc (kept w)
  one_more {w} {w'} {b} {link} noted = ap length noted.pivots ∙ length-append w.pivots.items (b ∷ []) ∙ add-one (kept w)

  -- the word of the link is not kept
  pub ready_skip : (i a : ℕ) (w : Walk) (row rs rs' es es' : List F) (r : Ready K v S T i a w rs es)
      → Agree d (at K v row) (pair K S T (r.words i ++ a ∷ [])) → ((j : ℕ) → j < kept w * d → at K v rs' j ≡ at K v rs j)
      → NothingLeft K d (kept w) (square_at K v es 0 d) (λ b. get_or w.pivots.items b 0) (at K v row) → Frame (kept w * d) d es es'
      → Ready K v S T i (a + 1) w rs' es'
  ready_skip i a w row rs rs' es es' r e same u f =
      let n = kept w in
      let x = r.words i ++ a ∷ [] in
      let not = held_not_kept K v S T n r.words rs es w.pivots.items x r.held r.scanned (nothing_same K d n (square_at K v es 0 d) (λ b. get_or w.pivots.items b 0) (at K v row) (pair K S T x) e u) in
      record {
        words = r.words;
        held = held_same K v S T n r.words rs rs' es es' w.pivots.items same f r.held;
        linked = r.linked;
        few = r.few;
        inside = r.inside;
        scanned = rw (add-one a) (scan_letter S.letters (Kept K S T) over front n r.words (r.words i) a (scan_skip S.letters (Kept K S T) over front n r.words x r.scanned not));
      }

  -- the word of the link is kept
  pub ready_keep : (link : Link) (b : ℕ) (w w' : Walk) (row rs rs' es es' : List F) (r : Ready K v S T link.parent link.letter w rs es) → 1 ≤ link.letter → link.letter ≤ S.letters
      → Agree d (at K v row) (pair K S T (r.words link.parent ++ link.letter ∷ [])) → ((j : ℕ) → j < kept w * d → at K v rs' j ≡ at K v rs j) → Agree d (row_at K v rs' (kept w * d)) (at K v row)
      → weight K S (r.words link.parent ++ link.letter ∷ []) ≡ weight K T (r.words link.parent ++ link.letter ∷ [])
      → NewRow K d (kept w) (square_at K v es 0 d) (λ b. get_or w.pivots.items b 0) (at K v row) b (row_at K v es' (kept w * d)) → Frame (kept w * d) d es es'
      → Noted w w' b link
      → Ready K v S T link.parent (link.letter + 1) w' rs' es'
  ready_keep link b w w' row rs rs' es es' r low high e same written alike u f noted =
      let n = kept w in
      let i = link.parent in
      let a = link.letter in
      let x = r.words i ++ a ∷ [] in
      let words : ℕ → Word = updated n r.words x in
      let inside = r.inside in
      let more : kept w' ≡ suc n = one_more noted in
      let new = new_same K d n (square_at K v es 0 d) (λ b. get_or w.pivots.items b 0) (at K v row) (pair K S T x) b (row_at K v es' (n * d)) (row_at K v es' (n * d)) e (λ j l. refl) u in
      let good = held_kept K v S T n r.words rs es w.pivots.items x r.held r.scanned b (row_at K v es' (n * d)) (push_over K S T (r.words i) a (r.scanned.good i inside) low high) new in
      let grown = held_grow K v S T n r.words rs rs' es es' w.pivots.items same f r.held w'.pivots.items x b (λ j l. written j l ∙ e j l) new
      (pushed_before w.pivots.items w'.pivots.items n b 0 refl noted.pivots) (pushed_here w.pivots.items w'.pivots.items n b 0 refl noted.pivots) alike in
      let linked = linked_grow n r.words w.links.items w'.links.items link w.one_each inside noted.links r.linked in
      let o : words i ≡ r.words i = updated_other n r.words x i (omega arith) in
      let s = scan_letter S.letters (Kept K S T) over front (suc n) words (r.words i) a (scan_add S.letters (Kept K S T) over front n r.words words x r.scanned good (λ j h. updated_other n r.words x j (omega arith)) (updated_here n r.words x)) in
      record {
        words = words;
        held = subst (λ m. Held K v S T m words rs' es' w'.pivots.items) (sym more) grown;
        linked = subst (λ m. Linked m words w'.links.items) (sym more) linked;
        few = subst (λ m. m ≤ d) (sym more) (held_few K v S T (suc n) words rs' es' w'.pivots.items grown);
        inside = omega arith;
        scanned = subst (λ m. Scanned (Kept K S T) m words (words i ++ (a + 1) ∷ [])) (sym more) (rw (add-one a) (subst (λ u. Scanned (Kept K S T) (suc n) words (u ++ suc a ∷ [])) (sym o) s));
      }

  -- from word to word
  pub ready_passed : (i : ℕ) (w : Walk) (rs es : List F) → Ready K v S T i (S.letters + 1) w rs es → Passed K v S T (i + 1) w rs es
  ready_passed i w rs es r =
      let k = S.letters in
      let s = r.scanned in
      let inside = r.inside in
      let u : Upto (Kept K S T) (kept w) r.words (r.words i ++ k ∷ []) = scan_back (Kept K S T) (kept w) r.words (r.words i) k (rw (add-one k) at s) in
      record {
        words = r.words;
        held = r.held;
        linked = r.linked;
        few = r.few;
        upto = omega arith;
        ascends = s.ascends;
        good = s.good;
        next = λ l. rw (add-one i) (scan_word k (Kept K S T) over front (kept w) r.words i (omega arith) u);
        done = λ e. scan_done k (Kept K S T) over front (kept w) r.words i (omega arith) u;
      }

  -- the empty word is not kept, so that no word is
  pub passed_none : (w : Walk) (ps : List ℕ) (row rs es rs' es' : List F) → kept w ≡ 0 → Agree d (at K v row) (pair K S T [])
      → NothingLeft K d 0 (square_at K v es 0 d) (λ b. get_or ps b 0) (at K v row) → Passed K v S T 0 w rs' es'
  passed_none w ps row rs es rs' es' e start u =
      let not = held_not_kept K v S T 0 (λ i. []) rs es ps [] (held_none K v S T rs es ps) (scan_none (Kept K S T) (λ i. [])) (nothing_same K d 0 (square_at K v es 0 d) (λ b. get_or ps b 0) (at K v row) (pair K S T []) start u) in
      record {
        words = λ i. [];
        held = subst (λ n. Held K v S T n (λ i. []) rs' es' w.pivots.items) (sym e) (held_none K v S T rs' es' w.pivots.items);
        linked = record { root = λ l. refl; earlier = λ i l h. absurd (omega arith); follows = λ i l h. absurd (omega arith) };
        few = omega arith;
        upto = omega arith;
        ascends = λ i j l h. absurd (omega arith);
        good = λ i l. absurd (omega arith);
        next = λ l. absurd (omega arith);
        done = λ q x h. absurd (not (kept_prefix K S T [] x h));
      }

  -- the empty word is kept
  pub passed_first : (b : ℕ) (link : Link) (w w' : Walk) (row rs es rs' es' : List F) → kept w ≡ 0 → Agree d (at K v row) (pair K S T []) → Agree d (at K v rs') (at K v row)
      → weight K S [] ≡ weight K T []
      → NewRow K d 0 (square_at K v es 0 d) (λ b. get_or w.pivots.items b 0) (at K v row) b (row_at K v es' (0 * d)) → Frame (0 * d) d es es'
      → Noted w w' b link
      → Passed K v S T 0 w' rs' es'
  passed_first b link w w' row rs es rs' es' e start written alike u f noted =
      let none : ℕ → Word = λ i. [] in
      let words : ℕ → Word = updated 0 none [] in
      let ps = w.pivots.items in
      let ps' = w'.pivots.items in
      let one : kept w' ≡ 1 = one_more noted ∙ ap suc e in
      let new = new_same K d 0 (square_at K v es 0 d) (λ b. get_or ps b 0) (at K v row) (pair K S T []) b (row_at K v es' (0 * d)) (row_at K v es' (0 * d)) start (λ j l. refl) u in
      let good = held_kept K v S T 0 none rs es ps [] (held_none K v S T rs es ps) (scan_none (Kept K S T) none) b (row_at K v es' (0 * d)) tt new in
      let grown = held_grow K v S T 0 none rs rs' es es' ps (λ j l. absurd (omega arith)) f (held_none K v S T rs es ps) ps' [] b (λ j l. ap (at K v rs') {x = 0 * d + j} {y = j} (omega arith) ∙ written j l ∙ start j l) new
      (pushed_before ps ps' 0 b 0 e noted.pivots) (pushed_here ps ps' 0 b 0 e noted.pivots) alike in
      let first : words 0 ≡ [] = updated_here 0 none [] in
      let s : Scanned (Kept K S T) (kept w') words (words 0 ++ 1 ∷ []) = subst (λ n. Scanned (Kept K S T) n words (words 0 ++ 1 ∷ [])) (sym one) (scan_first S.letters (Kept K S T) over front words good first) in
      record {
        words = words;
        held = subst (λ n. Held K v S T n words rs' es' ps') (sym one) grown;
        linked = record { root = λ l. first; earlier = λ i l h. absurd (omega arith); follows = λ i l h. absurd (omega arith) };
        few = subst (λ n. n ≤ d) (sym one) (held_few K v S T 1 words rs' es' ps' grown);
        upto = omega arith;
        ascends = s.ascends;
        good = s.good;
        next = λ l. s;
        done = λ q. absurd (omega arith);
      }
