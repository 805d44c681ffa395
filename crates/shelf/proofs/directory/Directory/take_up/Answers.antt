use Rattle.std.proofs.Common.{◌-◌, ◌++◌, length, ap, ap₂, subst₂}
use borrow.Rule.Slice.PartMut.{same_len_mid}
use Rattle.book.specs.Calls.{call_of}
use Rattle.book.specs.Doing.{Does}
use Rattle.shelf.specs.Views.{state}
use Rattle.shelf.proofs.Fronts.{take_min, drop_min, length_min}
use Rattle.shelf.proofs.directory.Directory.take_up.Goals as goal

pub returns : goal.returns
returns g c =
    let K = g.F.Field.field in
    let v = g.F.Field.value in
    let r = c.args.request.now in
    let work = c.args.work.now in
    let out = c.args.output.now in
    let left = state c.make.new.self c.make.new.shelf (length c.make.new.work) c.make.new.output c.make.new.verdict in
    record {
      carried_out = record {
        left = left;
        does = subst₂ (λ n o. Does K v (state c.args.self.now c.args.shelf.now n o c.args.verdict.now) (call_of r.call) c.make.result left)
            (length_min work r.work c.min-elements.result c.min-elements.ensures) (take_min out r.output c.min-bytes.result c.min-bytes.ensures) c.make.ensures.does;
        back = ap₂ (λ n o. state c.make.new.self c.make.new.shelf n o c.make.new.verdict)
            (same_len_mid 0 (c.min-elements.result - 0) work c.make.new.work c.make.auto.work)
            (ap (λ xs. c.make.new.output ++ xs) (drop_min out r.output c.min-bytes.result c.min-bytes.ensures));
      };
    }
