use Rattle.std.proofs.Common.{length, rules}
use Rattle.book.specs.Shelves.{Lent}
use Rattle.shelf.proofs.Cleared.{clear_does}
use Rattle.shelf.proofs.directory.Directory.make.Goals as goal

pub returns-in-Load : goal.returns-in-Load
returns-in-Load g c =
    let rest : Lent = record { work = length c.args.work.now; output = c.args.output.now; verdict = c.args.verdict.now } in
    let does = c.load.ensures.does rest in
    search rules

pub returns-in-Sum : goal.returns-in-Sum
returns-in-Sum g c =
    let rest : Lent = record { work = length c.args.work.now; output = c.args.output.now; verdict = c.args.verdict.now } in
    let does = c.sum.ensures.does rest in
    search rules

pub returns-in-Scale : goal.returns-in-Scale
returns-in-Scale g c =
    let rest : Lent = record { work = length c.args.work.now; output = c.args.output.now; verdict = c.args.verdict.now } in
    let does = c.scale.ensures.does rest in
    search rules

pub returns-in-Multiply : goal.returns-in-Multiply
returns-in-Multiply g c =
    let rest : Lent = record { work = length c.args.work.now; output = c.args.output.now; verdict = c.args.verdict.now } in
    let does = c.multiply.ensures.does rest in
    search rules

pub returns-in-After : goal.returns-in-After
returns-in-After g c =
    let rest : Lent = record { work = length c.args.work.now; output = c.args.output.now; verdict = c.args.verdict.now } in
    let does = c.after.ensures.does rest in
    search rules

pub returns-in-Turn : goal.returns-in-Turn
returns-in-Turn g c =
    let rest : Lent = record { work = length c.args.work.now; output = c.args.output.now; verdict = c.args.verdict.now } in
    let does = c.turn.ensures.does rest in
    search rules

pub returns-in-Reduce : goal.returns-in-Reduce
returns-in-Reduce g c =
    let rest : Lent = record { work = length c.args.work.now; output = c.args.output.now; verdict = c.args.verdict.now } in
    let does = c.reduce.ensures.does rest in
    search rules

pub returns-in-Weigh : goal.returns-in-Weigh
returns-in-Weigh g c =
    let rest : Lent = record { work = length c.args.work.now; output = c.args.output.now; verdict = c.args.verdict.now } in
    let does = c.weigh.ensures.does rest in
    search rules

pub returns-in-Compare : goal.returns-in-Compare
returns-in-Compare g c =
    let rest : Lent = record { work = length c.args.work.now; output = c.args.output.now; verdict = c.args.verdict.now } in
    let does = c.compare.ensures.does rest in
    search rules

pub returns-in-Write : goal.returns-in-Write
returns-in-Write g c =
    let rest : Lent = record { work = length c.args.work.now; output = c.args.output.now; verdict = c.args.verdict.now } in
    let does = c.write.ensures.does rest in
    search rules

pub returns-in-Clear : goal.returns-in-Clear
returns-in-Clear g c =
    let does = clear_does g.F.Field.field g.F.Field.value c.args.self.now c.clear.new.self c.args.shelf.now (length c.args.work.now) c.args.output.now c.args.verdict.now c.in-Clear.place c.clear.result c.clear.ensures.clears in
    search rules
