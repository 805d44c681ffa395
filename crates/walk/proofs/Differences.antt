-- How the walk through the tried words ends. Assumes nothing.
use Rattle.std.proofs.Common.{◌≡◌, ℕ, ◌+◌, ◌*◌, ◌<◌, ◌≤◌, [], ◌∷◌, ◌++◌, sym, refl, subst, inl, inr, mul_comm, arith}
use Rattle.std.proofs.lemmas.Nat.{mul-le}
use Rattle.field.specs.FiniteField.{FiniteField}
use Rattle.series.specs.Comparing.{Alike, Kept, Tried}
use Rattle.series.specs.Listing.{Listed, Count}
use Rattle.series.specs.Tables.{Table, weight}
use Rattle.series.specs.WalkProgress.{Scanned}
use Rattle.series.specs.Words.{Word, Over}
use Rattle.series.proofs.KeptWords.{kept_decide, found_difference, found_short, tried_listed}
use Rattle.series.proofs.Listings.{followed_list}
use Rattle.series.proofs.Orders.{none_before}
use Rattle.series.proofs.Walks.{Upto, scan_none, scan_followed}
use Rattle.series.proofs.Words.{over_append}
use Rattle.walk.specs.Comparing.{NotAfter, AllAlike, FirstDifference}
use Rattle.walk.specs.Pairs.{Unlike}

upto_counted : (Good : Word → Type 0) (n : ℕ) (words : ℕ → Word) (x : Word) → Upto Good n words x → Count (NotAfter Good x) n
upto_counted Good n words x u =
    (words, record { ascends = u.ascends; good = λ i l. (u.good i l, u.before i l); whole = λ v g. u.whole v g.0 g.1 })

module _ {V : Type 0} (K : FiniteField V) (S T : Table V) where
  pub push_over : (u : Word) (a : ℕ) → Kept K S T u → 1 ≤ a → a ≤ S.letters → Over S.letters (u ++ a ∷ [])
  push_over u a h l g = over_append S.letters u (a ∷ []) h.0 (l, g, tt)

  -- the kept word i with the letter a differs, and no kept word before it does
  pub longer_difference : (count : ℕ) (words : ℕ → Word) (i a left right : ℕ) → count ≤ S.states + T.states → i < count → 1 ≤ a → a ≤ S.letters → Scanned (Kept K S T) count words (words i ++ a ∷ [])
      → ((i : ℕ) → i < count → weight K S (words i) ≡ weight K T (words i)) → Unlike K (weight K S (words i ++ a ∷ [])) (weight K T (words i ++ a ∷ [])) left right
      → FirstDifference K S T (words i ++ a ∷ []) (1 + i * S.letters + a) left right
  longer_difference count words i a left right few inside low high s alike u =
      let o = push_over (words i) a (s.good i inside) low high in
      record {
        difference = found_difference K S T count words (words i ++ a ∷ []) s alike o u.differs;
        left_is = u.left_is;
        right_is = u.right_is;
        tried_counted = upto_counted (Tried K S T) (1 + i * S.letters + a) (followed_list S.letters words) (words i ++ a ∷ []) (scan_followed (Kept K S T) S.letters count words i a inside low high s);
        short = found_short K S T count words (words i ++ a ∷ []) s alike o u.differs;
        few_tried = omega (arith, mul-le (i + 1) S.letters (S.states + T.states) S.letters (omega arith) (omega arith), mul_comm S.letters (S.states + T.states));
      }

  pub empty_difference : (left right : ℕ) → Unlike K (weight K S []) (weight K T []) left right → FirstDifference K S T [] 1 left right
  empty_difference left right u =
      record {
        difference = record { over = tt; differs = u.differs; least = λ w h. absurd (none_before w h) };
        left_is = u.left_is;
        right_is = u.right_is;
        tried_counted = (
          (λ i. []),
          record {
            ascends = λ i j h b. absurd (omega arith);
            good = λ i h. (inl refl, inr refl);
            whole = λ w g. elim g.1 [ inl h ↦ absurd (none_before w h) | inr e ↦ (0, omega arith, e) ];
          },
        );
        short = found_short K S T 0 (λ i. []) [] (scan_none (Kept K S T) (λ i. [])) (λ i h. absurd (omega arith)) tt u.differs;
        few_tried = omega arith;
      }

  pub difference_refutes : (w : Word) (tried left right : ℕ) → FirstDifference K S T w tried left right → ¬ (Alike K S T)
  difference_refutes w tried left right l e = l.difference.differs (e w l.difference.over)

  -- all kept words weigh alike
  pub no_difference : (kept : ℕ) (words : ℕ → Word) → Listed (Kept K S T) kept words → kept ≤ S.states + T.states
      → ((i : ℕ) → i < kept → weight K S (words i) ≡ weight K T (words i)) → AllAlike K S T (1 + S.letters * kept) kept
  no_difference kept words l few alike =
      record {
        alike = kept_decide K S T (λ w h. let r = l.whole w h in subst (λ y. weight K S y ≡ weight K T y) (sym r.2) (alike r.0 r.1));
        tried_counted = (followed_list S.letters words, tried_listed K S T kept words l);
        kept_counted = (words, l);
        tried_by_kept = refl;
        few_kept = few;
      }

-- tables with few states and letters
pub few_tried_words : (k d : ℕ) → k ≤ 6 → d ≤ 32 → 1 + k * d ≤ 193
few_tried_words k d h l = omega (arith, mul-le k d 6 32 h l)
