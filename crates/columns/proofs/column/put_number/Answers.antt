use Rattle.std.proofs.Common.{◌≡◌, sym, ap, ◌∙◌, inl, inr, ⊎_elim, arith}
use Rattle.columns.proofs.Begun.{cell, cell_blank, cell_digit, put_more, put_all}
use Rattle.columns.proofs.column.put_number.Goals as goal
use Rattle.columns.proofs.column.put_number.Goals.{then-rest-eq0+then-i-lt10, else-rest-eq0}

pub loop-i-preserved : goal.loop-i-preserved
loop-i-preserved c =
    let byte : c.if-rest-eq0.columns ≡ cell c.loop-i.i c.loop-i.rest =
    elim c.if-rest-eq0.branch [
      | then-rest-eq0+then-i-lt10 w ↦ w.columns-is ∙ sym (ap (cell c.loop-i.i) w.if-rest-eq0.true ∙ cell_blank _ (omega arith))
      | else-rest-eq0 w ↦ w.columns-is ∙ sym (cell_digit _ _ (⊎_elim (λ h. inr (omega (arith, h.1))) (λ n. inl (omega arith)) w.else-rest-eq0.either))
    ] in
    put_more _ _ _ _ _ (omega arith) (omega arith) byte c.loop-i.invariant

pub returns : goal.returns
returns c = record { written = put_all _ _ _ _ c.requires.ten_digits (omega arith) c.loop-i.invariant }
