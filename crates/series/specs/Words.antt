-- Words, and shortlex, their order. Assumes nothing.
use Rattle.std.specs.Prelude.{◌≡◌, ℕ, ◌<◌, ◌≤◌, ◌⊎◌, List, [], ◌∷◌, length}

-- a word is a list of letters, which are numbers
abbrev pub Word : Type 0
Word = List ℕ

-- each letter is one of 1 to k
abbrev pub Over : ℕ → Word → Type 0
Over k [] = Unit {0}
Over k (a ∷ w) = (1 ≤ a) × (a ≤ k) × Over k w

-- where two words first differ, the first has the smaller letter
abbrev pub Smaller : Word → Word → Type 0
Smaller [] v = ⊥
Smaller (a ∷ u) [] = ⊥
Smaller (a ∷ u) (b ∷ v) = (a < b) ⊎ ((a ≡ b) × Smaller u v)

-- shortlex: the shorter word first, and of two as long the one with the smaller letter where they first differ. Its definition stays
-- shut, so that the theory rests on the laws of WordOrders, which no other order has.
infix 50 ◌≺◌
unfoldable pub ◌≺◌ : Word → Word → Type 0
u ≺ v = (length u < length v) ⊎ ((length u ≡ length v) × Smaller u v)
