-- What reading a whole text leaves and returns. Assumes nothing.
use Rattle.std.proofs.Common.{◌≡◌, ℕ, ◌+◌, ◌-◌, ◌*◌, ◌<◌, ◌≤◌, List, [], ◌∷◌, ◌++◌, length, get_or, take, drop, sym, refl, ap, ◌∙◌, subst, append_assoc, append-nil, mul_assoc, arith}
use borrow.Rule.Slice.PartMut.{put_mid}
use Rattle.std.proofs.lemmas.List.{length-map, length-drop, length-append, map-append, drop-append-le, take-append-le, get_or-append_right, get_or-drop}
use Rattle.field.specs.FiniteField.{FiniteField}
use Rattle.rows.specs.Memory.{Frame}
use Rattle.rows.specs.Layout.{table_size, table_at}
use Rattle.columns.specs.Lines.{line}
use Rattle.reader.specs.Items.{after, close, Stops}
use Rattle.reader.specs.Steps.{left, Starts, Went}
use Rattle.text.specs.Texts.{Limits, table_items, body_items, body_of, text_of}
use Rattle.text.specs.Readings.{Accepts, Refuses, in_first, in_body, past}
use Rattle.text.specs.Rows.{codes_of}
use Rattle.faults.specs.declared.LoadFault.{LoadFault}
use Rattle.faults.specs.declared.LoadFault.TheVariants.{Beyond}
use Rattle.reader.specs.declared.Reader.{Reader}
use Rattle.text.proofs.Bodies.{body}
use Rattle.columns.proofs.Filled.{length_put}
use Rattle.text.proofs.Laid.{laid}
use Rattle.text.proofs.Rows.{down}

-- after a write to the front, what follows is as it was
pub frame_front : {X : Type 0} (b m : ℕ) (work ys : List X) → length ys ≡ b → b ≤ m → m ≤ length work → Frame 0 m work (put_mid 0 (b - 0) work ys)
frame_front b m work ys e h l = record {
  len = length_put 0 (b - 0) work ys (omega arith) (omega arith);
  below = λ k d i. absurd (omega arith);
  above = λ k d i.
      let there : b - 0 + (k - b) ≡ k = omega arith in
      get_or-append_right ys (drop (b - 0) work) b k d e (omega arith) ∙ get_or-drop (b - 0) work (k - b) d ∙ ap (λ j. get_or work j d) there;
}

pub frame_none : {X : Type 0} (m : ℕ) (work : List X) → Frame 0 m work work
frame_none m work = record { len = refl; below = λ k d i. refl; above = λ k d i. refl }

part_front : (n a : ℕ) (xs ys : List ℕ) → a + n ≤ length xs → take n (drop a (xs ++ ys)) ≡ take n (drop a xs)
part_front n a xs ys h = ap (take n) (drop-append-le a xs ys (omega arith)) ∙ take-append-le n (drop a xs) ys (simp length-drop (omega arith))

module _ {F V : Type 0} (K : FiniteField V) (value : F → V) where
  -- a table at the front of a longer list
  body_front : (n k : ℕ) (ys rest : List F) → length ys ≡ table_size n k → body_of K (table_at K value (ys ++ rest) 0 n k) ≡ body_of K (table_at K value ys 0 n k)
  body_front n k ys rest e =
      let c = λ (x : F). K.code (value x) in
      let cs = codes_of K value ys in
      let long : length cs ≡ table_size n k = length-map ys c ∙ e in
      let cells = mul_assoc k n n in
      let all : codes_of K value (ys ++ rest) ≡ cs ++ codes_of K value rest = map-append c ys rest in
      laid K value (ys ++ rest) 0 n k (omega (arith, length-append ys rest))
      ∙ ap (λ l. body n (k * n) (take n l) (take (k * n * n) (drop (0 + n) l)) (take n (drop (0 + n + k * n * n) l))) all
      ∙ (λ i. body n (k * n) (part_front n 0 cs (codes_of K value rest) (omega arith) i) (part_front (k * n * n) (0 + n) cs (codes_of K value rest) (omega arith) i) (part_front n (0 + n + k * n * n) cs (codes_of K value rest) (omega arith) i))
      ∙ sym (laid K value ys 0 n k (omega arith))

  module _ (text : List ℕ) (r : Reader) (starts : Starts r text) where
    begun : left r ≡ text
    begun = starts.whole

    pub first_refuses : (f : LoadFault) → Stops (table_items K) r.position (left r) f → Refuses K text f
    first_refuses f s = in_first (subst (λ l. Stops (table_items K) (record { line = 1; column = 1 }) l f) begun (subst (λ p. Stops (table_items K) p (left r) f) starts.position s))

    module _ (s : Reader) (n k : ℕ) (limits : Limits n k) (table : Went r s (line 84 (n ∷ k ∷ K.q ∷ [])) (after close r.position)) where
      second : s.position ≡ record { line = 2; column = 1 }
      second = table.position ∙ ap (after close) starts.position

      pub body_refuses : (f : LoadFault) → Stops (body_items K n k) s.position (left s) f → Refuses K text f
      body_refuses f stops = in_body n k (left s) limits (sym begun ∙ table.over) (subst (λ p. Stops (body_items K n k) p (left s) f) second stops)

      module _ (t : Reader) (b : ℕ) (work ys : List F) (long : length ys ≡ table_size n k) (rest : Went s t (body_of K (table_at K value ys 0 n k)) (down s.position (3 + k * n))) where
        whole : text ≡ text_of K (table_at K value (put_mid 0 b work ys) 0 n k) ++ left t
        unfolding text_of
        whole =
            sym begun ∙ table.over
            ∙ ap (λ l. line 84 (n ∷ k ∷ K.q ∷ []) ++ l) (rest.over ∙ ap (λ l. l ++ left t) (sym (body_front n k ys (drop b work) long)))
            ∙ sym (append_assoc (line 84 (n ∷ k ∷ K.q ∷ [])) (body_of K (table_at K value (put_mid 0 b work ys) 0 n k)) (left t))

        pub accepts : left t ≡ [] → Accepts K value text (record { states = n; letters = k; few_states = limits.states; some_letter = limits.some_letter; few_letters = limits.letters }) (put_mid 0 b work ys)
        accepts h = record { sized = limits; is = whole ∙ ap (λ l. text_of K (table_at K value (put_mid 0 b work ys) 0 n k) ++ l) h ∙ append-nil _ }

        pub past_refuses : 0 < length (left t) → Refuses K text (Beyond t.position)
        past_refuses h =
            past (table_at K value (put_mid 0 b work ys) 0 n k) (left t) limits h whole
            (ap Beyond (rest.position ∙ ap (λ p. down p (3 + k * n)) second ∙ (λ i. record { line = (let w : 2 + (3 + k * n) ≡ 5 + k * n = omega arith in w) i; column = 1 })))
