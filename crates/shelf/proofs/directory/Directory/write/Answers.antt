use Rattle.std.proofs.Common.{◌≡◌, ◌<◌, ◌≤◌, [], ◌∷◌, length, sym, refl, ap, ◌∙◌, subst, inl, arith}
use Rattle.text.specs.Texts.{text_size, text_of}
use Rattle.rows.specs.Seen.{table_of}
use Rattle.book.specs.Shelves.{empty, states_of, letters_of, entry, table}
use Rattle.book.specs.Calls.{write}
use Rattle.book.specs.declared.outcome.Answer.TheVariants.{Count}
use Rattle.shelf.specs.Views.{shelf_of, state}
use Rattle.shelf.proofs.Entries.{found_at, empty_at}
use Rattle.shelf.proofs.Gating.{of_one, within_one, reads_one, not_empty, absent, no_memory, unfilled, past_4}
use Rattle.shelf.proofs.Made.{table_found, refused}
use Rattle.shelf.proofs.Late.{write_accepts, write_refuses}
use Rattle.shelf.proofs.Texts.{front_written}
use Rattle.shelf.proofs.directory.Directory.write.Goals as goal

pub returns-in_err-place : goal.returns-in_err-place
returns-in_err-place g c =
    let a = write c.args.place in
    record {
      does = λ rest.
          let s = state c.args.self.now c.args.shelf.now rest.work c.args.output.now rest.verdict in
          refused g.F.Field.field g.F.Field.value s s a Count c.from_residual.result c.from_residual.ensures.1
          (absent g.F.Field.field s a (c.args.place ∷ []) (c.args.place ∷ []) 0 (reads_one a c.args.place 0 refl refl refl) c.args.place (inl (inl refl)) _ c.in_err-place.ensures) refl;
    }

pub returns-then-shelf-lt-SHELF : goal.returns-then-shelf-lt-SHELF
returns-then-shelf-lt-SHELF g c =
    let a = write c.args.place in
    let places = within_one c.in_ok-place.place c.args.place c.in_ok-place.ensures in
    record {
      does = λ rest. (no_memory g.F.Field.field (state c.args.self.now c.args.shelf.now rest.work c.args.output.now rest.verdict) a (c.args.place ∷ []) (c.args.place ∷ []) 0 (reads_one a c.args.place 0 refl refl refl) places places c.if-shelf-lt-SHELF.true, refl);
    }

pub returns-in_err-table : goal.returns-in_err-table
returns-in_err-table g c =
    let a = write c.args.place in
    let places = within_one c.in_ok-place.place c.args.place c.in_ok-place.ensures in
    record {
      does = λ rest.
          let s = state c.args.self.now c.args.shelf.now rest.work c.args.output.now rest.verdict in
          refused g.F.Field.field g.F.Field.value s s a Count c.from_residual-in_err-table.result c.from_residual-in_err-table.ensures.1
          (unfilled g.F.Field.field s a (c.args.place ∷ []) (c.args.place ∷ []) 0 (reads_one a c.args.place 0 refl refl refl) places places c.if-shelf-lt-SHELF.false (omega arith) c.args.place (inl refl) _ (empty_at c.args.self.now c.in_ok-place.place c.args.place c.in_ok-place.ensures _ c.in_err-table.ensures.err)) refl;
    }

pub returns-then-output-text_size : goal.returns-then-output-text_size
returns-then-output-text_size g c =
    let a = write c.args.place in
    let t = c.in_ok-table.table in
    let found = found_at c.args.self.now c.in_ok-place.place c.args.place c.in_ok-place.ensures c.args.shelf.now t c.in_ok-table.ensures.ok in
    let places = within_one c.in_ok-place.place c.args.place c.in_ok-place.ensures in
    let short : length c.args.output.now < text_size t.shape.states t.shape.letters = subst (λ m. length c.args.output.now < m) (c.text_size.ensures.counted ∙ ap (λ z. text_size z.states z.letters) c.shape.ensures.told) c.if-output-text_size.true in
    record {
      does = λ rest.
          let s = state c.args.self.now c.args.shelf.now rest.work c.args.output.now rest.verdict in (
            write_refuses g.F.Field.field s c.args.place
                (past_4 g.F.Field.field s a (c.args.place ∷ []) (c.args.place ∷ []) 0 (reads_one a c.args.place 0 refl refl refl) places places c.if-shelf-lt-SHELF.false (omega arith)
                (of_one (λ q. entry s.shelf q ≡ empty → ⊥) (not_empty (entry s.shelf c.args.place) t.shape.states t.shape.letters found.told)))
                (subst (λ e. length c.args.output.now < text_size (states_of e) (letters_of e)) (sym found.told) short),
            refl,
          );
    }

pub returns : goal.returns
returns g c =
    let K = g.F.Field.field in
    let v = g.F.Field.value in
    let es = c.args.self.now in
    let mem = c.args.shelf.now in
    let a = write c.args.place in
    let t = c.in_ok-table.table in
    let found = found_at c.args.self.now c.in_ok-place.place c.args.place c.in_ok-place.ensures c.args.shelf.now t c.in_ok-table.ensures.ok in
    let places = within_one c.in_ok-place.place c.args.place c.in_ok-place.ensures in
    let room : text_size t.shape.states t.shape.letters ≤ length c.args.output.now = subst (λ m. m ≤ length c.args.output.now) (c.text_size.ensures.counted ∙ ap (λ z. text_size z.states z.letters) c.shape.ensures.told) c.if-output-text_size.false in
    let same : table_of K v t ≡ table K v (shelf_of es mem) c.args.place = table_found K v es mem c.args.place t found in
    let front = front_written c.write_table.result (text_of K (table K v (shelf_of es mem) c.args.place)) c.args.output.now c.write_table.new.output (c.write_table.ensures.written ∙ ap (text_of K) same) c.write_table.ensures.later_bytes_kept
    (omega (arith, c.write_table.ensures.counted, c.write_table.auto.output, room)) in
    record {
      does = λ rest.
          let s = state es mem rest.work c.args.output.now rest.verdict in (
            write_accepts K s c.args.place
                (past_4 K s a (c.args.place ∷ []) (c.args.place ∷ []) 0 (reads_one a c.args.place 0 refl refl refl) places places c.if-shelf-lt-SHELF.false (omega arith)
                (of_one (λ q. entry s.shelf q ≡ empty → ⊥) (not_empty (entry s.shelf c.args.place) t.shape.states t.shape.letters found.told)))
                (subst (λ e. text_size (states_of e) (letters_of e) ≤ length c.args.output.now) (sym found.told) room),
            (ap Count front.0, record { shelf = refl; lent = ap (λ o. record { work = rest.work; output = o; verdict = rest.verdict }) front.1 }),
          );
    }
