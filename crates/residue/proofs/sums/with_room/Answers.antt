use Rattle.std.proofs.Common.{◌%◌, ap, ◌∙◌}
use Rattle.residue.specs.Operations.{residue_of}
use Rattle.residue.proofs.Late.{residue_again}
use Rattle.residue.proofs.sums.with_room.Goals as goal

pub returns-then-sum-gt-ROOM-clause-same_residue : goal.returns-then-sum-gt-ROOM-clause-same_residue
returns-then-sum-gt-ROOM-clause-same_residue g c =
    let pr = g.bound-1.prime in
    ap (λ q. residue_of g.row.P pr (c.args.sum % q)) c.order.ensures.is_order ∙ residue_again pr c.args.sum
