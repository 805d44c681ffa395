-- Reported words. Assumes nothing.
use Rattle.std.proofs.Common.{◌≡◌, ℕ, ◌+◌, ◌-◌, ◌<◌, List, [], ◌∷◌, ◌++◌, length, take, drop, set, replicate, reverse, sym, ap, ◌∙◌, subst, append_assoc, arith, length-append, take_at, drop_at}
use Rattle.std.proofs.lemmas.List.{drop-set-lt, drop-drop, drop-replicate, take_more_set, reverse-append}
use Rattle.field.specs.FiniteField.{FiniteField}
use Rattle.series.specs.Tables.{Table}
use Rattle.series.specs.Words.{Word}
use Rattle.search.specs.Answers.{spelling, Padded, Reported}
use Rattle.walk.specs.Comparing.{FirstDifference}
use Rattle.search.specs.Spelling.{Spells}
use Rattle.walk.specs.Walking.{link_at, Linked}
use Rattle.walk.specs.declared.links.Link.{Link}
use Rattle.search.specs.declared.word.ReportedWord.{ReportedWord}

module _ (r : ReportedWord) (w : Word) (s : Spells r w) where
  pub spelt_word : spelling r ≡ w
  spelt_word = ap (take r.length) s.letters_are ∙ take_at w (replicate (31 - length w) 0) r.length (sym s.length_is)

  pub spelt_padded : Padded r
  spelt_padded =
      record {
        fits = omega (arith, s.fits, s.length_is);
        zeros = ap (drop r.length) s.letters_are ∙ drop_at w (replicate (31 - length w) 0) r.length (sym s.length_is) ∙ ap (λ n. replicate (31 - n) 0) (sym s.length_is);
      }

-- a linked word is one letter longer than its parent
pub linked_longer : (count : ℕ) (words : ℕ → Word) (links : List Link) → Linked count words links → (j : ℕ) → 0 < j → j < count → length (words j) ≡ length (words (link_at links j).parent) + 1
linked_longer count words links l j z b = ap length (l.follows j z b) ∙ length-append (words (link_at links j).parent) ((link_at links j).letter ∷ [])

-- one letter more is written behind those that are, which stand backwards
pub letter_written : (u w : Word) (a n : ℕ) (xs : List ℕ) → n < length xs → (u ++ a ∷ []) ++ reverse (take n xs) ≡ w → u ++ reverse (take (n + 1) (set xs n a)) ≡ w
letter_written u w a n xs l e =
    ap (λ q. u ++ q) (ap reverse (take_more_set xs n a l) ∙ reverse-append (take n xs) (a ∷ []))
    ∙ sym (append_assoc u (a ∷ []) (reverse (take n xs))) ∙ e

-- zeros stand behind it
pub zeros_behind : (a n : ℕ) (xs : List ℕ) → n < 31 → drop n xs ≡ replicate (31 - n) 0 → drop (n + 1) (set xs n a) ≡ replicate (31 - (n + 1)) 0
zeros_behind a n xs l e =
    drop-set-lt (n + 1) xs n a (omega arith) ∙ sym (drop-drop 1 n xs) ∙ ap (drop 1) e ∙ drop-replicate 1 (31 - n) 0 ∙ ap (λ m. replicate m 0) (omega arith)

-- a least difference that is reported
pub reported : {V : Type 0} (K : FiniteField V) (S T : Table V) (r : ReportedWord) (w : Word) (tried left right : ℕ) → Spells r w → FirstDifference K S T w tried left right → Reported K S T r tried left right
reported K S T r w tried left right s d = record { padded = spelt_padded r w s; first = subst (λ u. FirstDifference K S T u tried left right) (sym (spelt_word r w s)) d }
