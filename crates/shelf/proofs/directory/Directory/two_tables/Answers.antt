use Rattle.std.proofs.Common.{length, sym, refl, ap, ◌∙◌, inl, inr}
use Rattle.book.specs.Shelves.{letters_of}
use Rattle.shelf.specs.Views.{state}
use Rattle.shelf.proofs.Entries.{found_at, empty_at}
use Rattle.shelf.proofs.Gating.{broken}
use Rattle.shelf.proofs.Pairing.{letters_differ, letters_agree, pair_outside, pair_short, pair_empty, pair_past}
use Rattle.shelf.proofs.directory.Directory.two_tables.Goals as goal

pub returns-in_err-first-clause-checked : goal.returns-in_err-first-clause-checked
returns-in_err-first-clause-checked g c = λ a rest pair.
    let K = g.F.Field.field in
    let s = state c.args.self.now c.args.shelf.now (length c.args.work.now) rest.output rest.verdict in
    broken K s a 5 c.from_residual.result c.from_residual.ensures.1 (pair_outside K s a c.args.first c.args.second c.args.to pair c.args.first (inl (inl refl)) _ c.in_err-first.ensures)

pub returns-in_err-second-clause-checked : goal.returns-in_err-second-clause-checked
returns-in_err-second-clause-checked g c = λ a rest pair.
    let K = g.F.Field.field in
    let s = state c.args.self.now c.args.shelf.now (length c.args.work.now) rest.output rest.verdict in
    broken K s a 5 c.from_residual-in_err-second.result c.from_residual-in_err-second.ensures.1 (pair_outside K s a c.args.first c.args.second c.args.to pair c.args.second (inl (inr (inl refl))) _ c.in_err-second.ensures)

pub returns-in_err-to-clause-checked : goal.returns-in_err-to-clause-checked
returns-in_err-to-clause-checked g c = λ a rest pair.
    let K = g.F.Field.field in
    let s = state c.args.self.now c.args.shelf.now (length c.args.work.now) rest.output rest.verdict in
    broken K s a 5 c.from_residual-in_err-to.result c.from_residual-in_err-to.ensures.1 (pair_outside K s a c.args.first c.args.second c.args.to pair c.args.to (inr (inl refl)) _ c.in_err-to.ensures)

pub returns-in_err-room-clause-checked : goal.returns-in_err-room-clause-checked
returns-in_err-room-clause-checked g c = λ a rest pair.
    let K = g.F.Field.field in
    let s = state c.args.self.now c.args.shelf.now (length c.args.work.now) rest.output rest.verdict in
    broken K s a 5 c.from_residual-in_err-room.result c.from_residual-in_err-room.ensures.1 (pair_short K s a c.args.first c.args.second c.args.to pair c.in_ok-first.first c.in_ok-second.second c.in_ok-to.to c.in_ok-first.ensures c.in_ok-second.ensures c.in_ok-to.ensures _ c.in_err-room.ensures.err)

pub returns-in_err-left-clause-checked : goal.returns-in_err-left-clause-checked
returns-in_err-left-clause-checked g c = λ a rest pair.
    let K = g.F.Field.field in
    let s = state c.args.self.now c.args.shelf.now (length c.args.work.now) rest.output rest.verdict in
    broken K s a 5 c.from_residual-in_err-left.result c.from_residual-in_err-left.ensures.1 (pair_empty K s a c.args.first c.args.second c.args.to pair c.in_ok-first.first c.in_ok-second.second c.in_ok-to.to c.in_ok-first.ensures c.in_ok-second.ensures c.in_ok-to.ensures (c.in_ok-room.ensures.ok.memory, c.in_ok-room.ensures.ok.working) c.args.first (inl refl) _ (empty_at c.args.self.now c.in_ok-first.first c.args.first c.in_ok-first.ensures _ c.in_err-left.ensures.err))

pub returns-in_err-right-clause-checked : goal.returns-in_err-right-clause-checked
returns-in_err-right-clause-checked g c = λ a rest pair.
    let K = g.F.Field.field in
    let s = state c.args.self.now c.args.shelf.now (length c.args.work.now) rest.output rest.verdict in
    broken K s a 5 c.from_residual-in_err-right.result c.from_residual-in_err-right.ensures.1 (pair_empty K s a c.args.first c.args.second c.args.to pair c.in_ok-first.first c.in_ok-second.second c.in_ok-to.to c.in_ok-first.ensures c.in_ok-second.ensures c.in_ok-to.ensures (c.in_ok-room.ensures.ok.memory, c.in_ok-room.ensures.ok.working) c.args.second (inr (inl refl)) _ (empty_at c.args.self.now c.in_ok-second.second c.args.second c.in_ok-second.ensures _ c.in_err-right.ensures.err))

pub returns-then-letters-clause-checked : goal.returns-then-letters-clause-checked
returns-then-letters-clause-checked g c = λ a rest pair.
    let K = g.F.Field.field in
    let s = state c.args.self.now c.args.shelf.now (length c.args.work.now) rest.output rest.verdict in
    let l = c.in_ok-left.left in
    let r = c.in_ok-right.right in
    let left = found_at c.args.self.now c.in_ok-first.first c.args.first c.in_ok-first.ensures c.args.shelf.now l c.in_ok-left.ensures.ok in
    let right = found_at c.args.self.now c.in_ok-second.second c.args.second c.in_ok-second.ensures c.args.shelf.now r c.in_ok-right.ensures.ok in
    let past = pair_past K s a c.args.first c.args.second c.args.to pair c.in_ok-first.first c.in_ok-second.second c.in_ok-to.to c.in_ok-first.ensures c.in_ok-second.ensures c.in_ok-to.ensures (c.in_ok-room.ensures.ok.memory, c.in_ok-room.ensures.ok.working) l.shape r.shape left.told right.told in
    letters_differ K s a c.args.first c.args.second c.args.to pair past (λ e. c.if-letters.true (c.letters.ensures.told ∙ sym (ap letters_of left.told) ∙ e ∙ ap letters_of right.told ∙ sym c.letters-2.ensures.told))

pub returns-clause-checked : goal.returns-clause-checked
returns-clause-checked g c = λ a rest pair.
    let K = g.F.Field.field in
    let s = state c.args.self.now c.args.shelf.now (length c.args.work.now) rest.output rest.verdict in
    let l = c.in_ok-left.left in
    let r = c.in_ok-right.right in
    let left = found_at c.args.self.now c.in_ok-first.first c.args.first c.in_ok-first.ensures c.args.shelf.now l c.in_ok-left.ensures.ok in
    let right = found_at c.args.self.now c.in_ok-second.second c.args.second c.in_ok-second.ensures c.args.shelf.now r c.in_ok-right.ensures.ok in
    let past = pair_past K s a c.args.first c.args.second c.args.to pair c.in_ok-first.first c.in_ok-second.second c.in_ok-to.to c.in_ok-first.ensures c.in_ok-second.ensures c.in_ok-to.ensures (c.in_ok-room.ensures.ok.memory, c.in_ok-room.ensures.ok.working) l.shape r.shape left.told right.told in
    letters_agree K s a c.args.first c.args.second c.args.to pair past (ap letters_of left.told ∙ sym c.letters.ensures.told ∙ c.if-letters.false ∙ c.letters-2.ensures.told ∙ sym (ap letters_of right.told))
