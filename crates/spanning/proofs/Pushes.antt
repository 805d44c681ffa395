-- One pivot more, and one vector more. Assumes nothing.
use Rattle.std.proofs.Common.{◌≡◌, ℕ, suc, ◌<◌, List, [], ◌∷◌, ◌++◌, length, get_or, sym, ap, ◌∙◌, subst, arith, rules}
use Rattle.std.proofs.lemmas.List.{length-append, places}
use native.Mathlib.Decide.{ℕ_discrete}
use Rattle.elimination.proofs.Updates.{updated, updated_here, updated_other}

module _ (b : ℕ) (ps ps' : List ℕ) (e : ps' ≡ ps ++ b ∷ []) where
  pub push_len : length ps' ≡ suc (length ps)
  push_len = ap length e ∙ search (rules, length-append)

  pub push_old : (j : ℕ) → j < length ps → get_or ps' j 0 ≡ get_or ps j 0
  push_old j l = ap (λ ps. get_or ps j 0) e ∙ search (rules, places)

  pub push_here : get_or ps' (length ps) 0 ≡ b
  push_here = ap (λ qs. get_or qs (length ps) 0) e ∙ search (rules, places)

-- what holds of the first n, and of x behind them
pub each_more : {X : Type 0} (n : ℕ) (f : ℕ → X) (x : X) (Q : ℕ → X → Type 0) → ((j : ℕ) → j < n → Q j (f j)) → Q n x → (j : ℕ) → j < suc n → Q j (updated n f x j)
each_more n f x Q olds new j l = go (ℕ_discrete j n)
  where
    go : Dec (j ≡ n) → Q j (updated n f x j)
    go (yes e) = subst (λ m. Q m (updated n f x m)) (sym e) (subst (Q n) (sym (updated_here n f x)) new)
    go (no u) = subst (Q j) (sym (updated_other n f x j u)) (olds j (omega arith))
