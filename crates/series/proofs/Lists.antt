-- Members of lists. Assumes nothing.
use Rattle.std.proofs.Common.{◌≡◌, ◌⊎◌, List, [], ◌∷◌, ◌++◌, map, sym, refl, ap, subst, inl, inr}

-- x stands in the list
abbrev pub Among : {A : Type 0} → List A → A → Type 0
Among [] x = ⊥
Among (y ∷ ys) x = (x ≡ y) ⊎ Among ys x

module _ {A : Type 0} where
  pub among_left : (xs ys : List A) (x : A) → Among xs x → Among (xs ++ ys) x
  among_left [] ys x a = absurd a
  among_left (z ∷ xs) ys x (inl e) = inl e
  among_left (z ∷ xs) ys x (inr a) = inr (among_left xs ys x a)

  pub among_right : (xs ys : List A) (x : A) → Among ys x → Among (xs ++ ys) x
  among_right [] ys x a = a
  among_right (z ∷ xs) ys x a = inr (among_right xs ys x a)

  pub among_either : (xs ys : List A) (x : A) → Among (xs ++ ys) x → Among xs x ⊎ Among ys x
  among_either [] ys x a = inr a
  among_either (z ∷ xs) ys x (inl e) = inl (inl e)
  among_either (z ∷ xs) ys x (inr a) = go (among_either xs ys x a)
    where
      go : Among xs x ⊎ Among ys x → Among (z ∷ xs) x ⊎ Among ys x
      go (inl b) = inl (inr b)
      go (inr b) = inr b

  module _ {B : Type 0} (f : A → B) where
    pub among_map : (xs : List A) (x : A) → Among xs x → Among (map f xs) (f x)
    among_map [] x a = absurd a
    among_map (z ∷ xs) x (inl e) = inl (ap f e)
    among_map (z ∷ xs) x (inr a) = inr (among_map xs x a)

    pub among_map_back : (xs : List A) (y : B) → Among (map f xs) y → (x : A) × Among xs x × (y ≡ f x)
    among_map_back [] y a = absurd a
    among_map_back (z ∷ xs) y (inl e) = (z, inl refl, e)
    among_map_back (z ∷ xs) y (inr a) = let r = among_map_back xs y a in (r.0, inr r.1, r.2)

  module _ (D : A → Type 0) (decide : (x : A) → Dec (D x)) where
    with_if : (x : A) → Dec (D x) → List A → List A
    with_if x (yes d) xs = x ∷ xs
    with_if x (no u) xs = xs

    pub those : List A → List A
    those [] = []
    those (x ∷ xs) = with_if x (decide x) (those xs)

    with_head : (x : A) (d : Dec (D x)) (xs : List A) → D x → Among (with_if x d xs) x
    unfolding with_if
    with_head x (yes d) xs h = inl refl
    with_head x (no u) xs h = absurd (u h)

    with_tail : (x : A) (d : Dec (D x)) (xs : List A) (y : A) → Among xs y → Among (with_if x d xs) y
    unfolding with_if
    with_tail x (yes d) xs y a = inr a
    with_tail x (no u) xs y a = a

    with_back : (x : A) (d : Dec (D x)) (xs : List A) (y : A) → Among (with_if x d xs) y → ((y ≡ x) × D x) ⊎ Among xs y
    unfolding with_if
    with_back x (yes d) xs y (inl e) = inl (e, d)
    with_back x (yes d) xs y (inr a) = inr a
    with_back x (no u) xs y a = inr a

    pub among_those : (xs : List A) (x : A) → Among xs x → D x → Among (those xs) x
    unfolding those
    among_those [] x a h = absurd a
    among_those (z ∷ xs) x (inl e) h = subst (λ y. Among (with_if z (decide z) (those xs)) y) (sym e) (with_head z (decide z) (those xs) (subst D e h))
    among_those (z ∷ xs) x (inr a) h = with_tail z (decide z) (those xs) x (among_those xs x a h)

    pub among_those_back : (xs : List A) (x : A) → Among (those xs) x → Among xs x × D x
    unfolding those
    among_those_back [] x a = absurd a
    among_those_back (z ∷ xs) x a = go (with_back z (decide z) (those xs) x a) (λ b. among_those_back xs x b)
      where
        go : ((x ≡ z) × D z) ⊎ Among (those xs) x → (Among (those xs) x → Among xs x × D x) → ((x ≡ z) ⊎ Among xs x) × D x
        go (inl e) before = (inl e.0, subst D (sym e.0) e.1)
        go (inr b) before = (inr (before b).0, (before b).1)

    -- one of the list, or none
    pub find : (xs : List A) → ((x : A) × Among xs x × D x) ⊎ ((x : A) → Among xs x → ¬ (D x))
    find [] = inr (λ x a. absurd a)
    find (z ∷ xs) = go (decide z) (find xs)
      where
        go : Dec (D z) → ((x : A) × Among xs x × D x) ⊎ ((x : A) → Among xs x → ¬ (D x)) → ((x : A) × Among (z ∷ xs) x × D x) ⊎ ((x : A) → Among (z ∷ xs) x → ¬ (D x))
        go (yes d) r = inl (z, inl refl, d)
        go (no u) (inl r) = inl (r.0, inr r.1, r.2)
        go (no u) (inr r) = inr (λ x. elim [ inl e ↦ (λ d. u (subst D e d)) | inr a ↦ r x a ])
