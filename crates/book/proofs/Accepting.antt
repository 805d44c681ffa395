-- What an accepted call may count on. Assumes nothing.
use Rattle.std.proofs.Common.{◌≡◌, ℕ, suc, ◌+◌, ◌*◌, ◌≤◌, ◌≢◌, ◌⊎◌, [], ◌∷◌, refl, ap, inl, inr, arith}
use native.Mathlib.Decide.{ℕ_discrete, dec_le}
use Rattle.field.specs.FiniteField.{FiniteField}
use Rattle.series.specs.Words.{Word, Over}
use Rattle.rows.specs.Weighing.{FirstOutside}
use Rattle.book.specs.Shelves.{empty, State, Place, entry, states_of, letters_of}
use Rattle.book.specs.Calls.{Call, sum, multiply, after, weigh, Among, Names, sources}
use Rattle.book.specs.Refusing.{outside, vacant, sum_letters, multiply_letters, sum_states, multiply_states, weigh_letter, after_letter, Accepts}
use Rattle.book.specs.declared.refusal.Refusal.TheVariants.{PlaceOutside, PlaceEmpty, LettersDiffer, StatesOver, LetterOutside}
use Rattle.book.proofs.Places.{place?}

-- a word is over 1 to k, or has a first letter outside
pub over_or_outside : (k : ℕ) (w : Word) → Over k w ⊎ ((i : ℕ) × FirstOutside k w i)
over_or_outside k [] = inl tt
over_or_outside k (a ∷ w) = go (dec_le 1 a) (dec_le a k) (over_or_outside k w)
  where
    here : ((1 ≤ a) × (a ≤ k) → ⊥) → (i : ℕ) × FirstOutside k (a ∷ w) i
    here u = (1, record { front = []; letter = a; rest = w; parts = refl; good = tt; outside = u; position = refl })

    go : Dec (1 ≤ a) → Dec (a ≤ k) → Over k w ⊎ ((i : ℕ) × FirstOutside k w i) → Over k (a ∷ w) ⊎ ((i : ℕ) × FirstOutside k (a ∷ w) i)
    go (yes h) (yes l) (inl o) = inl (h, l, o)
    go (yes h) (yes l) (inr (i, f)) = inr (suc i, record { front = a ∷ f.front; letter = f.letter; rest = f.rest; parts = ap (λ v. a ∷ v) f.parts; good = (h, l, f.good); outside = f.outside; position = omega (arith, f.position) })
    go (yes h) (no u) q = inr (here (λ o. u o.1))
    go (no u) l q = inr (here (λ o. u o.0))

pub not_other : (m n : ℕ) → ¬ (m ≢ n) → m ≡ n
not_other m n h = go (ℕ_discrete m n)
  where
    go : Dec (m ≡ n) → m ≡ n
    go (yes e) = e
    go (no u) = absurd (h u)

module _ {V : Type 0} (K : FiniteField V) {F : Type 0} (s : State F) where
  pub placed : (c : Call) → Accepts K s c → (p : ℕ) → Names c p → Place p
  placed c acc p m = go (place? p)
    where
      go : Dec (Place p) → Place p
      go (yes l) = l
      go (no u) = absurd (acc PlaceOutside (outside p m u))

  pub full : (c : Call) → Accepts K s c → (p : ℕ) → Among (sources c) p → entry s.shelf p ≢ empty
  full c acc p m e = acc PlaceEmpty (vacant p m e)

  pub sum_alike : (p q to : ℕ) → Accepts K s (sum p q to) → letters_of (entry s.shelf p) ≡ letters_of (entry s.shelf q)
  sum_alike p q to acc = not_other (letters_of (entry s.shelf p)) (letters_of (entry s.shelf q)) (λ h. acc LettersDiffer (sum_letters h))

  pub multiply_alike : (p q to : ℕ) → Accepts K s (multiply p q to) → letters_of (entry s.shelf p) ≡ letters_of (entry s.shelf q)
  multiply_alike p q to acc = not_other (letters_of (entry s.shelf p)) (letters_of (entry s.shelf q)) (λ h. acc LettersDiffer (multiply_letters h))

  pub sum_few : (p q to : ℕ) → Accepts K s (sum p q to) → states_of (entry s.shelf p) + states_of (entry s.shelf q) ≤ 16
  sum_few p q to acc = go (dec_le (states_of (entry s.shelf p) + states_of (entry s.shelf q)) 16)
    where
      go : Dec (states_of (entry s.shelf p) + states_of (entry s.shelf q) ≤ 16) → states_of (entry s.shelf p) + states_of (entry s.shelf q) ≤ 16
      go (yes l) = l
      go (no u) = absurd (acc StatesOver (sum_states (omega arith)))

  pub multiply_few : (p q to : ℕ) → Accepts K s (multiply p q to) → states_of (entry s.shelf p) * states_of (entry s.shelf q) ≤ 16
  multiply_few p q to acc = go (dec_le (states_of (entry s.shelf p) * states_of (entry s.shelf q)) 16)
    where
      go : Dec (states_of (entry s.shelf p) * states_of (entry s.shelf q) ≤ 16) → states_of (entry s.shelf p) * states_of (entry s.shelf q) ≤ 16
      go (yes l) = l
      go (no u) = absurd (acc StatesOver (multiply_states (omega arith)))

  -- the letters of a word that nothing refuses
  word_over : (k : ℕ) (w : Word) → ((i : ℕ) → FirstOutside k w i → ⊥) → Over k w
  word_over k w h = go (over_or_outside k w)
    where
      go : Over k w ⊎ ((i : ℕ) × FirstOutside k w i) → Over k w
      go (inl o) = o
      go (inr (i, f)) = absurd (h i f)

  pub weigh_over : (p : ℕ) (w : Word) → Accepts K s (weigh p w) → Over (letters_of (entry s.shelf p)) w
  weigh_over p w acc = word_over (letters_of (entry s.shelf p)) w (λ i f. acc (LetterOutside i) (weigh_letter f))

  pub after_over : (p a to : ℕ) → Accepts K s (after p a to) → Over (letters_of (entry s.shelf p)) (a ∷ [])
  after_over p a to acc = word_over (letters_of (entry s.shelf p)) (a ∷ []) (λ i f. acc (LetterOutside i) (after_letter f))
