-- What a call does, and what it enters in the book. Assumes nothing.
use Rattle.std.proofs.Common.{◌≡◌, ℕ, ◌≤◌, List, [], ◌∷◌, ◌++◌, reverse, length, sym, refl, ap, ◌∙◌, subst, ap₂, inl, inr, arith, Ok, Err}
use Rattle.field.specs.FiniteField.{FiniteField}
use Rattle.series.specs.Words.{Word, Over}
use Rattle.series.specs.Tables.{Table, weight, SameTable}
use Rattle.series.specs.Operations.{sum_table, scaled_table, product_table, after_table, turned_table}
use Rattle.series.specs.Reducing.{Reduced}
use Rattle.series.specs.Theorems.{Combines}
use Rattle.series.proofs.Words.{over_reverse}
use Rattle.series.proofs.Weights.{same_weight}
use Rattle.series.proofs.Operations.{after_weight, scaled_weight, sum_weight, turned_weight}
use Rattle.series.proofs.ProductTables.{product_weight}
use Rattle.series.proofs.ReducedForms.{reduced_weight, reduced_least}
use Rattle.rows.specs.Tables.{Weighs}
use Rattle.text.specs.Texts.{Limits}
use Rattle.text.specs.Facts.{ToldApart}
use Rattle.book.specs.Shelves.{State, Place, entry, letters_of, with_place, table}
use Rattle.book.specs.Calls.{Call, load, sum, scale, multiply, after, turn, reduce, weigh, compare, write, clear, Among, sources, results}
use Rattle.book.specs.Refusing.{Accepts}
use Rattle.book.specs.Doing.{Makes, Empties, Leaves, Does}
use Rattle.book.specs.Using.{Changes, Page, blank, holds, letters_on, weights_on, page, Enters, Hears, Fed}
use Rattle.book.specs.declared.outcome.Answer.{Answer}
use Rattle.book.specs.Outcomes.{Outcome}
use Rattle.book.proofs.Accepting.{placed, full, sum_alike, multiply_alike, sum_few, multiply_few, after_over}
use Rattle.book.proofs.Standing.{Stands, Source, source}

-- a reduced form is within the limits of the table that it is made of
reduced_limits : {V : Type 0} (K : FiniteField V) (T R : Table V) → Limits T.states T.letters → Reduced K T.letters (weight K T) R → Limits R.states R.letters
reduced_limits K T R lim c = record {
  states = omega (arith, reduced_least K T.letters (weight K T) R c T (λ u o. refl), lim.states);
  some_letter = omega (arith, c.letters, lim.some_letter);
  letters = omega (arith, c.letters, lim.letters);
}

-- a call made a table, and its weights were entered; or it cleared a place, and its page was blanked; or both are as they were
pub data InStep {V : Type 0} (K : FiniteField V) {F : Type 0} (value : F → V) (s t : State F) (B B' : List (Page V)) (Changed : ℕ → Type 0) : Type 0 where
  makes : (to : ℕ) (R : Table V) (j : ℕ) (f : Word → V) → Changed to → Place to → Limits R.states R.letters → R.letters ≡ j → Weighs K R f → Makes K value s to R t → B' ≡ with_place B to (holds j f) → InStep K value s t B B' Changed
  empties : (p : ℕ) → Changed p → Place p → Empties K value s p t → B' ≡ with_place B p blank → InStep K value s t B B' Changed
  rests : t.shelf ≡ s.shelf → B' ≡ B → InStep K value s t B B' Changed

module _ {V : Type 0} (K : FiniteField V) {F : Type 0} (value : F → V) (told_apart : ToldApart K) where
  module _ (s t : State F) (B : List (Page V)) (i : Stands K value s.shelf B) where
    -- the table of a place that the call reads
    reads : (c : Call) → Accepts K s c → (p : ℕ) → Among (sources c) p → Source K value s.shelf B p
    reads c acc p m = source K value s.shelf B p i (placed K s c acc p (inl m)) (full K s c acc p m)

    -- the call makes R, and the page that is entered has its weights
    enters : (c : Call) → Accepts K s c → (to : ℕ) → Among (results c) to → (R : Table V) (j : ℕ) (f : Word → V) → Limits R.states R.letters → R.letters ≡ j → Weighs K R f → Makes K value s to R t → (B' : List (Page V)) → B' ≡ with_place B to (holds j f) → InStep K value s t B B' (Among (results c))
    enters c acc to m R j f lim same weighs x B' e = makes to R j f m (placed K s c acc to (inr m)) lim same weighs x e

    -- the same where R is made of two tables, and its weights of theirs
    combined : (c : Call) → Accepts K s c → (p q to : ℕ) → Among (sources c) p → Among (sources c) q → Among (results c) to
        → (make : Table V → Table V → Table V) (op : V → V → V) → Combines K make op → (make (table K value s.shelf p) (table K value s.shelf q)).letters ≡ letters_of (entry s.shelf p)
        → (make (table K value s.shelf p) (table K value s.shelf q)).states ≤ 16 → letters_of (entry s.shelf p) ≡ letters_of (entry s.shelf q)
        → Makes K value s to (make (table K value s.shelf p) (table K value s.shelf q)) t
        → (B' : List (Page V)) → B' ≡ with_place B to (holds (letters_on K (page K B p)) (λ w. op (weights_on K (page K B p) w) (weights_on K (page K B q) w))) → InStep K value s t B B' (Among (results c))
    combined c acc p q to m n r make op combines letters few alike x B' e =
        let one = reads c acc p m in
        let two = reads c acc q n in
        let S = table K value s.shelf p in
        let T = table K value s.shelf q in
        enters c acc to r (make S T) (letters_on K (page K B p)) (λ w. op (weights_on K (page K B p) w) (weights_on K (page K B q) w))
        (record { states = few; some_letter = omega (arith, letters, one.limits.some_letter); letters = omega (arith, letters, one.limits.letters) }) (letters ∙ one.letters)
        (λ w o. let o' : Over S.letters w = subst (λ m. Over m w) letters o in combines S T w ∙ ap₂ op (one.weighs w o') (two.weighs w (subst (λ m. Over m w) alike o'))) x B' e

    accepted : (B' : List (Page V)) (c : Call) (a : Answer) → Accepts K s c → Leaves K value s c a t → Enters K B c B' → InStep K value s t B B' (Among (results c))
    accepted B' (load text to) a acc (d, (R, sized, is, x)) (T, also, same, e) =
        let agree : SameTable R T = told_apart R T sized also (sym is ∙ same) in
        enters (load text to) acc to (inl refl) R T.letters (weight K T) sized agree.letters (same_weight K R T agree) x B' e
    accepted B' (sum p q to) a acc (d, x) e = combined (sum p q to) acc p q to (inl refl) (inr (inl refl)) (inl refl) (sum_table K) K.plus (sum_weight K) refl (sum_few K s p q to acc) (sum_alike K s p q to acc) x B' e
    accepted B' (scale p c to) a acc (d, x) e =
        let one = reads (scale p c to) acc p (inl refl) in
        let T = table K value s.shelf p in
        enters (scale p c to) acc to (inl refl) (scaled_table K (K.decode c) T) (letters_on K (page K B p)) (λ w. K.times (K.decode c) (weights_on K (page K B p) w)) one.limits one.letters
        (λ w o. scaled_weight K (K.decode c) T w ∙ ap (K.times (K.decode c)) (one.weighs w o)) x B' e
    accepted B' (multiply p q to) a acc (d, x) e = combined (multiply p q to) acc p q to (inl refl) (inr (inl refl)) (inl refl) (product_table K) K.times (product_weight K) refl (multiply_few K s p q to acc) (multiply_alike K s p q to acc) x B' e
    accepted B' (after p b to) a acc (d, x) e =
        let one = reads (after p b to) acc p (inl refl) in
        let letter = after_over K s p b to acc in
        let T = table K value s.shelf p in
        enters (after p b to) acc to (inl refl) (after_table K b T) (letters_on K (page K B p)) (λ w. weights_on K (page K B p) (b ∷ w)) one.limits one.letters
        (λ w o. after_weight K b T w ∙ one.weighs (b ∷ w) (letter.0, letter.1, o)) x B' e
    accepted B' (turn p to) a acc (d, x) e =
        let one = reads (turn p to) acc p (inl refl) in
        let T = table K value s.shelf p in
        enters (turn p to) acc to (inl refl) (turned_table K T) (letters_on K (page K B p)) (λ w. weights_on K (page K B p) (reverse w)) one.limits one.letters
        (λ w o. turned_weight K T w ∙ one.weighs (reverse w) (over_reverse T.letters w o)) x B' e
    accepted B' (reduce p to) a acc (d, (R, form, x)) e =
        let one = reads (reduce p to) acc p (inl refl) in
        let T = table K value s.shelf p in
        enters (reduce p to) acc to (inl refl) R (letters_on K (page K B p)) (weights_on K (page K B p)) (reduced_limits K T R one.limits form) (form.letters ∙ one.letters)
        (λ w o. let o' : Over T.letters w = subst (λ m. Over m w) form.letters o in reduced_weight K T.letters (weight K T) R form w o' ∙ one.weighs w o') x B' e
    accepted B' (weigh p w) a acc (d, x) e = rests x.shelf e
    accepted B' (compare p q) a acc (v, says, d, x) e = rests x.shelf e
    accepted B' (write p) a acc (d, x) e = rests x.shelf e
    accepted B' (clear p) a acc (d, x) e = empties p (inl refl) (placed K s (clear p) acc p (inl (inl refl))) x e

    -- what a call did, and what it entered in the book
    pub heard : (B' : List (Page V)) (c : Call) (o : Outcome) → Does K value s c o t → Hears K B c o B' → InStep K value s t B B' (Changes c o)
    heard B' c (Err r) d e = rests (ap (λ z. z.shelf) d.1) e
    heard B' c (Ok a) d e = accepted B' c a d.0 d.1 e

module _ {V : Type 0} (K : FiniteField V) {F : Type 0} (value : F → V) where
  -- what is done can be entered
  enters_some : (s t : State F) (B : List (Page V)) (c : Call) (a : Answer) → Leaves K value s c a t → (B' : List (Page V)) × Enters K B c B'
  enters_some s t B (load text to) a (d, (R, sized, is, x)) = (with_place B to (holds R.letters (weight K R)), (R, sized, is, refl))
  enters_some s t B (sum p q to) a x = (with_place B to (holds (letters_on K (page K B p)) (λ w. K.plus (weights_on K (page K B p) w) (weights_on K (page K B q) w))), refl)
  enters_some s t B (scale p c to) a x = (with_place B to (holds (letters_on K (page K B p)) (λ w. K.times (K.decode c) (weights_on K (page K B p) w))), refl)
  enters_some s t B (multiply p q to) a x = (with_place B to (holds (letters_on K (page K B p)) (λ w. K.times (weights_on K (page K B p) w) (weights_on K (page K B q) w))), refl)
  enters_some s t B (after p b to) a x = (with_place B to (holds (letters_on K (page K B p)) (λ w. weights_on K (page K B p) (b ∷ w))), refl)
  enters_some s t B (turn p to) a x = (with_place B to (holds (letters_on K (page K B p)) (λ w. weights_on K (page K B p) (reverse w))), refl)
  enters_some s t B (reduce p to) a x = (with_place B to (holds (letters_on K (page K B p)) (weights_on K (page K B p))), refl)
  enters_some s t B (weigh p w) a x = (B, refl)
  enters_some s t B (compare p q) a x = (B, refl)
  enters_some s t B (write p) a x = (B, refl)
  enters_some s t B (clear p) a x = (with_place B p blank, refl)

  pub hears_some : (s t : State F) (B : List (Page V)) (c : Call) (o : Outcome) → Does K value s c o t → (B' : List (Page V)) × Hears K B c o B'
  hears_some s t B c (Err r) d = (B, refl)
  hears_some s t B c (Ok a) d = enters_some s t B c a d.1

-- the book of one call more
module _ {V : Type 0} (K : FiniteField V) where
  pub fed_last : (B B' : List (Page V)) (cs : List Call) (os : List Outcome) (c : Call) (o : Outcome) → length cs ≡ length os → Fed K B (cs ++ c ∷ []) (os ++ o ∷ []) B' → (B₁ : List (Page V)) × Fed K B cs os B₁ × Hears K B₁ c o B'
  fed_last B B' [] [] c o e (B₁, h, d) = (B, refl, subst (λ z. Hears K B c o z) (sym d) h)
  fed_last B B' [] (x ∷ os) c o e f = absurd (omega arith)
  fed_last B B' (d ∷ cs) [] c o e f = absurd (omega arith)
  fed_last B B' (d ∷ cs) (x ∷ os) c o e (B₁, h, f) = let r = fed_last B₁ B' cs os c o (omega arith) f in (r.0, (B₁, h, r.1), r.2)

  pub fed_next : (B B₁ B' : List (Page V)) (cs : List Call) (os : List Outcome) (c : Call) (o : Outcome) → length cs ≡ length os → Fed K B cs os B₁ → Hears K B₁ c o B' → Fed K B (cs ++ c ∷ []) (os ++ o ∷ []) B'
  fed_next B B₁ B' [] [] c o e f h = (B', subst (λ z. Hears K z c o B') f h, refl)
  fed_next B B₁ B' [] (x ∷ os) c o e f h = absurd (omega arith)
  fed_next B B₁ B' (d ∷ cs) [] c o e f h = absurd (omega arith)
  fed_next B B₁ B' (d ∷ cs) (x ∷ os) c o e (B₂, g, f) h = (B₂, g, fed_next B₂ B₁ B' cs os c o (omega arith) f h)
