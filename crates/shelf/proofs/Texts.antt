-- A text at the front of the output. Assumes nothing.
use Rattle.std.proofs.Common.{◌≡◌, ℕ, ◌≤◌, List, ◌++◌, length, take, drop, sym, ap, ◌∙◌, ap₂, take-append-drop, length-take-le}

pub front_written : (r : ℕ) (text out out' : List ℕ) → take r out' ≡ text → drop r out' ≡ drop r out → r ≤ length out' → (r ≡ length text) × (out' ≡ text ++ drop (length text) out)
front_written r text out out' e f l =
    let long : r ≡ length text = sym (length-take-le r out' l) ∙ ap length e in
    (long, sym (take-append-drop r out') ∙ ap₂ (λ xs ys. xs ++ ys) e (f ∙ ap (λ n. drop n out) long))
