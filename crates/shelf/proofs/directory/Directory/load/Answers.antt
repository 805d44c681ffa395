use Rattle.std.proofs.Common.{[], ◌∷◌, length, refl, ap, inl, inr}
use Rattle.rows.specs.Layout.{table_at}
use Rattle.rows.specs.Seen.{table_of}
use Rattle.book.specs.Calls.{load}
use Rattle.book.specs.declared.outcome.Answer.TheVariants.{Done}
use Rattle.shelf.specs.Views.{state}
use Rattle.shelf.proofs.Gating.{within_one, makes_of_none, absent, short, past_4}
use Rattle.shelf.proofs.Made.{seen_front, made, refused}
use Rattle.shelf.proofs.Late.{load_accepts, load_refuses}
use Rattle.shelf.proofs.directory.Directory.load.Goals as goal

pub returns-in_err-to : goal.returns-in_err-to
returns-in_err-to g c =
    let a = load c.args.text.now c.args.to in
    record {
      does = λ rest.
          let s = state c.args.self.now c.args.shelf.now (length c.args.work.now) rest.output rest.verdict in
          refused g.F.Field.field g.F.Field.value s s a (λ _. Done) c.from_residual.result c.from_residual.ensures.1
          (absent g.F.Field.field s a [] (c.args.to ∷ []) 8192 (makes_of_none a c.args.to refl refl refl) c.args.to (inr (inl refl)) _ c.in_err-to.ensures) refl;
    }

pub returns-in_err-room : goal.returns-in_err-room
returns-in_err-room g c =
    let a = load c.args.text.now c.args.to in
    record {
      does = λ rest.
          let s = state c.args.self.now c.args.shelf.now (length c.args.work.now) rest.output rest.verdict in
          refused g.F.Field.field g.F.Field.value s s a (λ _. Done) c.from_residual-in_err-room.result c.from_residual-in_err-room.ensures.1
          (short g.F.Field.field s a [] (c.args.to ∷ []) 8192 (makes_of_none a c.args.to refl refl refl) (λ q m. absurd m) (within_one c.in_ok-to.to c.args.to c.in_ok-to.ensures) _ c.in_err-room.ensures.err) refl;
    }

pub returns : goal.returns
returns g c =
    let K = g.F.Field.field in
    let v = g.F.Field.value in
    let es = c.args.self.now in
    let mem = c.args.shelf.now in
    let a = load c.args.text.now c.args.to in
    let z = c.in_ok-shape.shape in
    let R = table_at K v c.read_table.new.work 0 z.states z.letters in
    let h = c.in_ok-shape.ensures.accepted in
    let there = c.in_ok-room.ensures.ok in
    record {
      does = λ rest.
          let s = state es mem (length c.args.work.now) rest.output rest.verdict in (
            load_accepts K s c.args.text.now c.args.to
                (past_4 K s a [] (c.args.to ∷ []) 8192 (makes_of_none a c.args.to refl refl refl) (λ q m. absurd m) (within_one c.in_ok-to.to c.args.to c.in_ok-to.ensures) there.memory there.working (λ q m. absurd m))
                R h.sized h.is,
            (
              refl,
              (
                R,
                h.sized,
                h.is,
                made K v es c.keep.new.self mem c.keep.new.shelf c.args.work.now c.read_table.new.work c.args.to (table_of K v c.new.result) R R (seen_front K v c.new.result c.read_table.new.work z z.states z.letters c.new.ensures.of_shape c.new.ensures.in_front refl refl) refl
                    c.in_ok-to.ensures c.keep.ensures.kept c.read_table.auto.work rest.output rest.verdict,
              ),
            ),
          );
    }

pub returns-in_err-shape : goal.returns-in_err-shape
returns-in_err-shape g c =
    let K = g.F.Field.field in
    let es = c.args.self.now in
    let mem = c.args.shelf.now in
    let a = load c.args.text.now c.args.to in
    let there = c.in_ok-room.ensures.ok in
    record {
      does = λ rest.
          let s = state es mem (length c.args.work.now) rest.output rest.verdict in
          refused K g.F.Field.value s _ a (λ _. Done) c.from_residual-in_err-shape.result c.from_residual-in_err-shape.ensures.1
          (load_refuses K s c.args.text.now c.args.to
          (past_4 K s a [] (c.args.to ∷ []) 8192 (makes_of_none a c.args.to refl refl refl) (λ q m. absurd m) (within_one c.in_ok-to.to c.args.to c.in_ok-to.ensures) there.memory there.working (λ q m. absurd m))
          _ c.in_err-shape.ensures.refused)
          (ap (λ n. state es mem n rest.output rest.verdict) c.read_table.auto.work);
    }
