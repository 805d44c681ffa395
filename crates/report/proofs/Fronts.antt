-- A line at the front of an output. Assumes nothing.
use Rattle.std.proofs.Common.{◌≡◌, ℕ, ◌≤◌, List, ◌++◌, length, take, drop, sym, ap, ◌∙◌, append_assoc, arith}
use Rattle.std.proofs.lemmas.List.{take-append-drop, drop-append-le, length-take-le}

-- what is written to the first n bytes, and what stands behind them
pub front_of_whole : (l out left : List ℕ) (n count : ℕ) → count ≤ n → n ≤ length out → left ≡ l ++ drop count (take n out) → left ++ drop n out ≡ l ++ drop count out
front_of_whole l out left n count few fits is =
    ap (λ x. x ++ drop n out) is ∙ append_assoc l (drop count (take n out)) (drop n out)
    ∙ ap (λ x. l ++ x) (sym (drop-append-le count (take n out) (drop n out) (omega (arith, length-take-le n out fits))) ∙ ap (drop count) (take-append-drop n out))
