-- A text is accepted or refused, and refused for one fault. Assumes nothing.
use Rattle.std.proofs.Common.{◌≡◌, ℕ, zero, suc, ◌+◌, ◌-◌, ◌*◌, ◌^◌, ◌<◌, ◌≤◌, List, [], ◌∷◌, ◌++◌, map, length, sym, refl, ap, ◌∙◌, subst, append_assoc, append-nil, arith}
use Rattle.std.specs.List.{range_with_len, flat_map, AllByRecursion as All}
use Rattle.std.proofs.lemmas.List.{length-append}
use Rattle.field.specs.FiniteField.{FiniteField}
use Rattle.series.specs.Tables.{Table}
use Rattle.rows.specs.Layout.{table_at}
use Rattle.columns.specs.Lines.{numbers, line}
use Rattle.reader.specs.Items.{Item, Goes, Stops}
use Rattle.text.specs.Texts.{Limits, row_codes, code_items, matrix_line, matrix_items, table_items, body_items, body_of, text_of, text_size}
use Rattle.text.specs.Readings.{Sized, Refuses, in_first, in_body, past}
use Rattle.text.specs.Facts.{Decided, ReadBack, WrittenBack}
use Rattle.faults.specs.declared.LoadFault.{LoadFault}
use Rattle.faults.specs.declared.LoadFault.TheVariants.{Beyond}
use Rattle.reader.proofs.Runs.{goes_append, goes_row, value_goes}
use Rattle.text.proofs.Rows.{line_goes}
use Rattle.text.proofs.Told.{length_codes, length_is, first_told, told_apart}
use Rattle.reader.proofs.Single.{goes_not, stops_one}

goes_nil : Goes [] []
unfolding Goes
goes_nil = refl

joined_goes : (f : ℕ → List Item) (g : ℕ → List ℕ) (a m : ℕ) → ((i : ℕ) → a ≤ i → i < a + m → Goes (f i) (g i)) → Goes (flat_map f (range_with_len a m)) (flat_map g (range_with_len a m))
joined_goes f g a zero h = goes_nil
joined_goes f g a (suc m) h = goes_append (f a) _ _ _ (h a (omega arith) (omega arith)) (joined_goes f g (a + 1) m (λ i l u. h i (omega arith) (omega arith)))

module _ {V : Type 0} (K : FiniteField V) where
  field_small : K.q < 10 ^ 10
  field_small = omega (arith, K.q_high)

  codes_below : (x : ℕ → V) (a n : ℕ) → All (λ v. v ≤ K.q - 1) (map (λ i. K.code (x i)) (range_with_len a n))
  codes_below x a zero = tt
  codes_below x a (suc n) = (omega (arith, K.code_below (x a)), codes_below x (a + 1) n)

  codes_go : (n : ℕ) (x : ℕ → V) → Goes (code_items K n) (numbers (row_codes K n x))
  codes_go n x = goes_row (K.q - 1) n (row_codes K n x) (omega (arith, K.q_high)) (length_codes K n x) (codes_below x 0 n)

  table_goes : (n k : ℕ) → Limits n k → Goes (table_items K) (line 84 (n ∷ k ∷ K.q ∷ []))
  table_goes n k s =
      line_goes 84 _ _
      (value_goes 0 16 _ n _ (omega (arith, s.states)) (omega arith) s.states
      (value_goes 1 6 _ k _ (omega (arith, s.letters)) s.some_letter s.letters
      (value_goes K.q K.q _ K.q _ field_small (omega arith) (omega arith) goes_nil)))

  body_goes : (T : Table V) → Sized T → Goes (body_items K T.states T.letters) (body_of K T)
  unfolding body_of
  body_goes T s =
      let n = T.states in
      goes_append _ _ _ _ (line_goes 83 _ _ (codes_go n T.start))
      (goes_append _ _ _ _
      (joined_goes (λ a. flat_map (matrix_items K n a) (range_with_len 0 n)) (λ a. flat_map (matrix_line K T a) (range_with_len 0 n)) 1 T.letters
      (λ a l u. joined_goes (matrix_items K n a) (matrix_line K T a) 0 n
      (λ i v w.
      line_goes 77 _ _
      (value_goes a a _ a _ (omega (arith, s.letters)) (omega arith) (omega arith)
      (value_goes (i + 1) (i + 1) _ (i + 1) _ (omega (arith, s.states)) (omega arith) (omega arith)
      (codes_go n (T.step a i)))))))
      (goes_append _ _ _ _ (line_goes 69 _ _ (codes_go n T.end)) (line_goes 90 [] [] goes_nil)))

  text_is : (T : Table V) → text_of K T ≡ line 84 (T.states ∷ T.letters ∷ K.q ∷ []) ++ body_of K T
  unfolding text_of
  text_is T = refl

  module _ (text : List ℕ) where
    -- a table's text, with what follows, stops in no line
    not_first : (n k : ℕ) (rest : List ℕ) (f : LoadFault) → Limits n k → text ≡ line 84 (n ∷ k ∷ K.q ∷ []) ++ rest → Stops (table_items K) (record { line = 1; column = 1 }) text f → ⊥
    not_first n k rest f s e stops = goes_not (table_items K) _ _ rest f (table_goes n k s) (subst (λ l. Stops (table_items K) (record { line = 1; column = 1 }) l f) e stops)

    with_more : (T : Table V) (more : List ℕ) → text ≡ text_of K T ++ more → text ≡ line 84 (T.states ∷ T.letters ∷ K.q ∷ []) ++ (body_of K T ++ more)
    with_more T more e = e ∙ ap (λ l. l ++ more) (text_is T) ∙ append_assoc (line 84 (T.states ∷ T.letters ∷ K.q ∷ [])) (body_of K T) more

    not_body : (T : Table V) (more : List ℕ) (n k : ℕ) (rest : List ℕ) (f : LoadFault) → Sized T → text ≡ text_of K T ++ more → Limits n k → text ≡ line 84 (n ∷ k ∷ K.q ∷ []) ++ rest → Stops (body_items K n k) (record { line = 2; column = 1 }) rest f → ⊥
    not_body T more n k rest f s e limits d stops =
        let r = first_told K n k T.states T.letters rest _ limits s (sym d ∙ with_more T more e) in
        goes_not (body_items K T.states T.letters) _ _ more f (body_goes T s)
        (subst (λ l. Stops (body_items K T.states T.letters) (record { line = 2; column = 1 }) l f) r.2
        (subst (λ m. Stops (body_items K T.states m) (record { line = 2; column = 1 }) rest f) r.1
        (subst (λ m. Stops (body_items K m k) (record { line = 2; column = 1 }) rest f) r.0 stops)))

    same_size : (S T : Table V) (x y : List ℕ) → Sized S → Sized T → text ≡ text_of K S ++ x → text ≡ text_of K T ++ y → (S.states ≡ T.states) × (S.letters ≡ T.letters)
    same_size S T x y hs ht e d = let r = first_told K S.states S.letters T.states T.letters _ _ hs ht (sym (with_more S x e) ∙ with_more T y d) in (r.0, r.1)

    never_both : (T : Table V) (f : LoadFault) → Sized T → text ≡ text_of K T → Refuses K text f → ⊥
    never_both T f s e (in_first stops) = not_first T.states T.letters _ f s (e ∙ text_is T) stops
    never_both T f s e (in_body n k rest limits d stops) = not_body T [] n k rest f s (e ∙ sym (append-nil _)) limits d stops
    never_both T f s e (past S more sized longer d _) =
        let r = same_size T S [] more s sized (e ∙ sym (append-nil _)) d in
        let same : text_size T.states T.letters ≡ text_size S.states S.letters = λ i. text_size (r.0 i) (r.1 i) in
        omega (arith, same, length_is K T s, length_is K S sized, ap length e, ap length d, length-append (text_of K S) more)

    one_fault : (f g : LoadFault) → Refuses K text f → Refuses K text g → f ≡ g
    one_fault f g (in_first s) (in_first t) = stops_one _ _ _ f g s t
    one_fault f g (in_first s) (in_body n k rest limits e t) = absurd (not_first n k rest f limits e s)
    one_fault f g (in_first s) (past T more sized longer e _) = absurd (not_first T.states T.letters _ f sized (with_more T more e) s)
    one_fault f g (in_body n k rest limits e t) (in_first s) = absurd (not_first n k rest g limits e s)
    one_fault f g (in_body n k rest limits e s) (in_body m l rest' limits' e' t) =
        let r = first_told K n k m l rest rest' limits limits' (sym e ∙ e') in
        stops_one (body_items K n k) (record { line = 2; column = 1 }) rest f g s
        (subst (λ x. Stops (body_items K n k) (record { line = 2; column = 1 }) x g) (sym r.2)
        (subst (λ i. Stops (body_items K n i) (record { line = 2; column = 1 }) rest' g) (sym r.1)
        (subst (λ i. Stops (body_items K i l) (record { line = 2; column = 1 }) rest' g) (sym r.0) t)))
    one_fault f g (in_body n k rest limits e s) (past T more sized longer d _) = absurd (not_body T more n k rest f sized d limits e s)
    one_fault f g (past T more sized longer e _) (in_first s) = absurd (not_first T.states T.letters _ g sized (with_more T more e) s)
    one_fault f g (past T more sized longer e _) (in_body n k rest limits d s) = absurd (not_body T more n k rest g sized e limits d s)
    one_fault f g (past S more sized longer e h) (past T more' sized' longer' e' h') =
        let r = same_size S T more more' sized sized' e e' in
        h ∙ (λ i. Beyond (record { line = 5 + r.1 i * r.0 i; column = 1 })) ∙ sym h'

  pub decided : Decided K
  decided text = (never_both text, one_fault text)

  module _ {F : Type 0} (value : F → V) where
    pub read_back : ReadBack K value
    read_back T s = (λ shape work a. told_apart K T (table_at K value work 0 shape.states shape.letters) s a.sized a.is, λ f r. never_both (text_of K T) T f s refl r)

    pub written_back : WrittenBack K value
    written_back text shape work a = sym a.is
