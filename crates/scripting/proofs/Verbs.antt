-- The verb that a word names, found among all. Assumes nothing.
use Rattle.std.proofs.Common.{◌≡◌, ◌≢◌, ℕ, ◌<◌, List, [], ◌∷◌, length, refl, subst, arith}
use Rattle.std.specs.Prelude.{Option, Some, None, MatchOption, MatchResult}
use Rattle.std.specs.Borrow.{Bor}
use Rattle.std.specs.List.{AllWithin, HoldsAt}
use Rattle.std.specs.Option.{ok_or, option_copied}
use Rattle.scripting.specs.Naming.{name_of}
use Rattle.scripting.specs.declared.mistake.Reason.{Reason}
use Rattle.scripting.specs.declared.verb.Verb.{Verb}
use Rattle.scripting.specs.declared.verb.Verb.TheVariants.{Field, Open, Lend, Text, Load, Sum, Scale, Multiply, After, Turn, Reduce, Weigh, Compare, Write, Clear}

abbrev pub verbs : List Verb
verbs = Field ∷ Open ∷ Lend ∷ Text ∷ Load ∷ Sum ∷ Scale ∷ Multiply ∷ After ∷ Turn ∷ Reduce ∷ Weigh ∷ Compare ∷ Write ∷ Clear ∷ []

-- what holds of each of them holds of every verb
pub each_verb : (Q : Verb → Type 0) → AllWithin Q verbs 0 15 → (v : Verb) → Q v
each_verb Q a v = elim v as Q [
  | Field ↦ a 0 Field (omega arith) (omega arith)
  | Open ↦ a 1 Field (omega arith) (omega arith)
  | Lend ↦ a 2 Field (omega arith) (omega arith)
  | Text ↦ a 3 Field (omega arith) (omega arith)
  | Load ↦ a 4 Field (omega arith) (omega arith)
  | Sum ↦ a 5 Field (omega arith) (omega arith)
  | Scale ↦ a 6 Field (omega arith) (omega arith)
  | Multiply ↦ a 7 Field (omega arith) (omega arith)
  | After ↦ a 8 Field (omega arith) (omega arith)
  | Turn ↦ a 9 Field (omega arith) (omega arith)
  | Reduce ↦ a 10 Field (omega arith) (omega arith)
  | Weigh ↦ a 11 Field (omega arith) (omega arith)
  | Compare ↦ a 12 Field (omega arith) (omega arith)
  | Write ↦ a 13 Field (omega arith) (omega arith)
  | Clear ↦ a 14 Field (omega arith) (omega arith)
]

-- the verb found, or none
pub named : (word : List ℕ) (all : List Verb) (r : Option (Bor Verb)) (why : Reason) → all ≡ verbs
    → MatchOption r (AllWithin (λ v. name_of v ≢ word) all 0 (length all)) (λ x. (name_of x.now ≡ word) × (i : ℕ) × (i < length all) × HoldsAt (λ y. y ≡ x.now) all i × AllWithin (λ v. name_of v ≢ word) all 0 i)
    → MatchResult (ok_or (option_copied r) why) (λ v. name_of v ≡ word) (λ r. (r ≡ why) × ((v : Verb) → name_of v ≢ word))
named word all None why e a = (refl, each_verb (λ v. name_of v ≢ word) (subst (λ l. AllWithin (λ v. name_of v ≢ word) l 0 (length l)) e a))
named word all (Some x) why e f = f.0
