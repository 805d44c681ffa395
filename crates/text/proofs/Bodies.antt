-- The lines after the first. Assumes nothing.
use Rattle.std.proofs.Common.{◌≡◌, ℕ, zero, suc, ◌+◌, ◌-◌, ◌<◌, List, [], ◌∷◌, ◌++◌, replicate, refl, ap, ◌∙◌, subst, arith}
use Rattle.std.specs.List.{range_with_len, flat_map}
use Rattle.columns.specs.Lines.{line, row_due, next}
use Rattle.reader.specs.Items.{Item, first, ranged, close, along, after, line_items, Stops}
use Rattle.reader.specs.Steps.{Went, Expects, Turned, RowsDue}
use Rattle.text.specs.Rows.{row_line}
use Rattle.faults.specs.declared.Position.{Position}
use Rattle.faults.specs.declared.LoadFault.{LoadFault}
use Rattle.columns.specs.declared.line.Due.{Due}
use Rattle.columns.specs.declared.line.Due.TheVariants.{Start, Matrix}
use Rattle.reader.specs.declared.Reader.{Reader}
use Rattle.reader.proofs.Runs.{went_more}
use Rattle.text.proofs.Rows.{items_at, down, down_down}

-- the lines, from the codes of a start row, of the rows of all matrices and of an end column
abbrev pub body : ℕ → ℕ → List ℕ → List ℕ → List ℕ → List ℕ
body n m start rows end = line 83 start ++ (flat_map (row_line n rows) (range_with_len 0 m) ++ (line 69 end ++ line 90 []))

-- what is due in them
abbrev pub items : ℕ → ℕ → ℕ → List Item
items high n m = line_items 83 (replicate n (ranged 0 high)) ++ (flat_map (items_at high n) (range_with_len 0 m) ++ (line_items 69 (replicate n (ranged 0 high)) ++ line_items 90 []))

-- a line by its first byte
pub went_first : (r s : Reader) (b d : ℕ) (vs : List ℕ) (p : Position) → b ≡ d → Went r s (line b vs) p → Went r s (line d vs) p
went_first r s b d vs p e w = subst (λ x. Went r s (line x vs) p) e w

pub went_byte : (r s : Reader) (b d : ℕ) (p : Position) → b ≡ d → Went r s (b ∷ []) p → Went r s (d ∷ []) p
went_byte r s b d p e w = subst (λ x. Went r s (x ∷ []) p) e w

pub first_stops : (b d : ℕ) (is : List Item) (p : Position) (bs : List ℕ) (f : LoadFault) → b ≡ d → Stops (first b ∷ is) p bs f → Stops (first d ∷ is) p bs f
first_stops b d is p bs f e s = subst (λ x. Stops (first x ∷ is) p bs f) e s

-- where a matrix line is left, one is due
pub row_due_some : (m : ℕ) → 0 < m → row_due m ≡ Matrix
row_due_some zero h = absurd (omega arith)
row_due_some (suc m) h = refl

row_due_next : (due then : Due) (j m : ℕ) → j < m → due ≡ row_due (m - j) → then ≡ next (m - j - 1) due → then ≡ row_due (m - (j + 1))
row_due_next due then j m h e t =
    let w : m - j - 1 ≡ m - (j + 1) = omega arith in
    t ∙ ap (next (m - j - 1)) (e ∙ row_due_some (m - j) (omega arith)) ∙ ap row_due w

pub rows_due_next : (s t : Reader) (j m : ℕ) → j < m → RowsDue s (m - j) → Turned s t → RowsDue t (m - (j + 1))
rows_due_next s t j m h e turned = record {
  due = row_due_next s.due t.due j m h e.due (turned.due ∙ ap (λ k. next k s.due) e.rows);
  rows = let w : m - j - 1 - 1 ≡ m - (j + 1) - 1 = omega arith in turned.rows ∙ ap (λ k. k - 1) e.rows ∙ w;
}

-- after the start line the matrix lines are due
pub start_turned : (r s : Reader) (m : ℕ) → Expects r Start m → Turned r s → RowsDue s m
start_turned r s m e turned = record { due = turned.due ∙ (λ i. next (e.rows i) (e.due i)); rows = turned.rows ∙ ap (λ k. k - 1) e.rows }

pub body_went : (n m : ℕ) (r s t u x y : Reader) (start rows end : List ℕ) → Went r s (line 83 start) (after close r.position) → Went s t (flat_map (row_line n rows) (range_with_len 0 m)) (down s.position m) → Went t u (line 69 end) (after close t.position) → Went u x (90 ∷ []) (along u.position 1) → Went x y (10 ∷ []) (after close x.position) → Went r y (body n m start rows end) (down r.position (3 + m))
body_went n m r s t u x y start rows end one two three four five =
    went_more r s y _ _ _ _ one
    (went_more s t y _ _ _ _ two
    (went_more t u y _ _ _ _ three
    (went_more u x y _ _ _ _ four
    (subst (Went x y (10 ∷ [])) stands five))))
  where
    third : u.position ≡ down r.position (2 + m)
    third =
        three.position ∙ ap (λ p. down p 1) (two.position ∙ ap (λ p. down p m) one.position ∙ down_down r.position 1 m (1 + m) refl)
        ∙ down_down r.position (1 + m) 1 (2 + m) (omega arith)

    stands : after close x.position ≡ down r.position (3 + m)
    stands = ap (λ p. down p 1) (four.position ∙ ap (λ p. along p 1) third) ∙ (λ i. record { line = (let w : r.position.line + (2 + m) + 1 ≡ r.position.line + (3 + m) = omega arith in w) i; column = 1 })
