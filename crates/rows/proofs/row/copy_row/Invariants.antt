use Rattle.std.specs.Prelude.{◌≡◌, take}
use Rattle.rows.proofs.row.copy_row.Given as goal

-- the first elements are copied
abbrev pub invariant-loop-j : goal.invariant-loop-j
invariant-loop-j g l = take l.j l.to ≡ take l.j l.from
