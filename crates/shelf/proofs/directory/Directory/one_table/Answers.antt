use Rattle.std.proofs.Common.{◌≢◌, [], ◌∷◌, length, refl, inl, inr}
use Rattle.book.specs.Shelves.{empty, entry}
use Rattle.shelf.specs.Views.{state}
use Rattle.shelf.proofs.Entries.{found_at, empty_at}
use Rattle.shelf.proofs.Gating.{of_one, within_one, not_empty, broken, absent, short, unfilled, past_4}
use Rattle.shelf.proofs.directory.Directory.one_table.Goals as goal

pub returns-in_err-place-clause-checked : goal.returns-in_err-place-clause-checked
returns-in_err-place-clause-checked g c = λ a rest reads.
    let s = state c.args.self.now c.args.shelf.now (length c.args.work.now) rest.output rest.verdict in
    broken g.F.Field.field s a 4 c.from_residual.result c.from_residual.ensures.1
    (absent g.F.Field.field s a (c.args.place ∷ []) (c.args.to ∷ []) 8192 reads c.args.place (inl (inl refl)) _ c.in_err-place.ensures)

pub returns-in_err-to-clause-checked : goal.returns-in_err-to-clause-checked
returns-in_err-to-clause-checked g c = λ a rest reads.
    let s = state c.args.self.now c.args.shelf.now (length c.args.work.now) rest.output rest.verdict in
    broken g.F.Field.field s a 4 c.from_residual-in_err-to.result c.from_residual-in_err-to.ensures.1
    (absent g.F.Field.field s a (c.args.place ∷ []) (c.args.to ∷ []) 8192 reads c.args.to (inr (inl refl)) _ c.in_err-to.ensures)

pub returns-in_err-room-clause-checked : goal.returns-in_err-room-clause-checked
returns-in_err-room-clause-checked g c = λ a rest reads.
    let s = state c.args.self.now c.args.shelf.now (length c.args.work.now) rest.output rest.verdict in
    let first = within_one c.in_ok-place.place c.args.place c.in_ok-place.ensures in
    let others = within_one c.in_ok-to.to c.args.to c.in_ok-to.ensures in
    broken g.F.Field.field s a 4 c.from_residual-in_err-room.result c.from_residual-in_err-room.ensures.1
    (short g.F.Field.field s a (c.args.place ∷ []) (c.args.to ∷ []) 8192 reads first others _ c.in_err-room.ensures.err)

pub returns-in_err-table-clause-checked : goal.returns-in_err-table-clause-checked
returns-in_err-table-clause-checked g c = λ a rest reads.
    let s = state c.args.self.now c.args.shelf.now (length c.args.work.now) rest.output rest.verdict in
    let first = within_one c.in_ok-place.place c.args.place c.in_ok-place.ensures in
    let others = within_one c.in_ok-to.to c.args.to c.in_ok-to.ensures in
    let there = c.in_ok-room.ensures.ok in
    broken g.F.Field.field s a 4 c.from_residual-in_err-table.result c.from_residual-in_err-table.ensures.1
    (unfilled g.F.Field.field s a (c.args.place ∷ []) (c.args.to ∷ []) 8192 reads first others there.memory there.working c.args.place (inl refl) _
    (empty_at c.args.self.now c.in_ok-place.place c.args.place c.in_ok-place.ensures _ c.in_err-table.ensures.err))

pub returns-clause-checked : goal.returns-clause-checked
returns-clause-checked g c = λ a rest reads.
    let s = state c.args.self.now c.args.shelf.now (length c.args.work.now) rest.output rest.verdict in
    let first = within_one c.in_ok-place.place c.args.place c.in_ok-place.ensures in
    let others = within_one c.in_ok-to.to c.args.to c.in_ok-to.ensures in
    let there = c.in_ok-room.ensures.ok in
    let t = c.in_ok-table.table in
    let found = found_at c.args.self.now c.in_ok-place.place c.args.place c.in_ok-place.ensures c.args.shelf.now t c.in_ok-table.ensures.ok in
    past_4 g.F.Field.field s a (c.args.place ∷ []) (c.args.to ∷ []) 8192 reads first others there.memory there.working
    (of_one (λ q. entry s.shelf q ≢ empty) (not_empty (entry s.shelf c.args.place) t.shape.states t.shape.letters found.told))
