-- Words that are noted by their links to earlier words. Assumes nothing.
use Rattle.std.proofs.Common.{◌≡◌, ℕ, suc, ◌<◌, List, [], ◌∷◌, ◌++◌, length, get_or, sym, ap, ◌∙◌, arith}
use native.Mathlib.Decide.{ℕ_discrete}
use Rattle.std.proofs.lemmas.List.{get_or_append_left, get_or_at}
use Rattle.series.specs.Words.{Word}
use Rattle.walk.specs.Walking.{link_at, Linked}
use Rattle.walk.specs.declared.links.Link.{Link}
use Rattle.elimination.proofs.Updates.{updated, updated_here, updated_other}

-- a list with one element more
module _ {X : Type 0} (xs ys : List X) (n : ℕ) (x d : X) (long : length xs ≡ n) (more : ys ≡ xs ++ x ∷ []) where
  pub pushed_before : (j : ℕ) → j < n → get_or ys j d ≡ get_or xs j d
  pushed_before j l = ap (λ zs. get_or zs j d) more ∙ get_or_append_left xs (x ∷ []) d j (omega arith)

  pub pushed_here : get_or ys n d ≡ x
  pushed_here = ap (λ zs. get_or zs n d) more ∙ get_or_at xs x [] d n long

-- one word more
pub linked_grow : (count : ℕ) (words : ℕ → Word) (links links' : List Link) (link : Link) → length links ≡ count → link.parent < count
    → links' ≡ links ++ link ∷ [] → Linked count words links → Linked (suc count) (updated count words (words link.parent ++ link.letter ∷ [])) links'
linked_grow count words links links' link long l more h =
    record {
      root = λ z. updated_other count words x 0 (omega arith) ∙ h.root (omega arith);
      earlier = λ j z b. earlier j z (ℕ_discrete j count) b;
      follows = λ j z b. follows j z (ℕ_discrete j count) b;
    }
  where
    x : Word
    x = words link.parent ++ link.letter ∷ []

    none : Link
    none = record { parent = 0; letter = 0 }

    here : (j : ℕ) → j ≡ count → link_at links' j ≡ link
    here j q = ap (link_at links') q ∙ pushed_here links links' count link (record { parent = 0; letter = 0 }) long more

    before : (j : ℕ) → j < count → link_at links' j ≡ link_at links j
    before j b = pushed_before links links' count link (record { parent = 0; letter = 0 }) long more j b

    earlier : (j : ℕ) → 0 < j → Dec (j ≡ count) → j < suc count → (link_at links' j).parent < j
    earlier j z (yes q) b = let s = ap (λ k. k.parent) (here j q) in omega arith
    earlier j z (no u) b = let s = ap (λ k. k.parent) (before j (omega arith)) in let r = h.earlier j z (omega arith) in omega arith

    follows : (j : ℕ) → 0 < j → Dec (j ≡ count) → j < suc count → updated count words x j ≡ updated count words x (link_at links' j).parent ++ (link_at links' j).letter ∷ []
    follows j z (yes q) b =
        ap (updated count words x) q ∙ updated_here count words x
        ∙ sym (ap (λ k. updated count words x k.parent ++ k.letter ∷ []) (here j q) ∙ ap (λ w. w ++ link.letter ∷ []) (updated_other count words x link.parent (omega arith)))
    follows j z (no u) b =
        let old : j < count = omega arith in
        let r = h.earlier j z old in
        updated_other count words x j u ∙ h.follows j z old
        ∙ sym (ap (λ k. updated count words x k.parent ++ k.letter ∷ []) (before j old) ∙ ap (λ w. w ++ (link_at links j).letter ∷ []) (updated_other count words x (link_at links j).parent (omega arith)))
