use Rattle.std.proofs.Common.{◌≡◌, ◌<◌, ◌≤◌, [], length, take, drop, refl, ap, subst, subst₂, arith, length-take, length-take-le}
use Rattle.std.proofs.lemmas.List.{take_all}
use native.Mathlib.Nat.{min-le_left, min-le_right}
use Rattle.book.specs.Running.{Run, none}
use Rattle.book.specs.declared.call.Call.TheVariants.{Load}
use Rattle.shelf.specs.Views.{state}
use Rattle.shelf.proofs.Runs.{drop_more_set, run_more, run_follows}
use Rattle.shelf.proofs.directory.Directory.perform.Goals as goal

pub loop-i-init : goal.loop-i-init
loop-i-init g c = (none, refl)

pub loop-i-preserved : goal.loop-i-preserved
loop-i-preserved g c =
    let n = c.min-count.result in
    let room : c.loop-i.i < length c.loop-i.outcomes = omega (arith, c.min-count.ensures, min-le_right (length c.args.requests.now) (length c.args.outcomes.now), length-take n c.args.requests.now, min-le_left n (length c.args.requests.now), c.loop-i-test.true, c.loop-i.auto.outcomes) in (
      run_more g.F.Field.field g.F.Field.value
          (state c.args.self.now c.args.shelf.now (length c.args.work.now) c.args.output.now c.args.verdict.now)
          (state c.loop-i.self c.loop-i.shelf (length c.loop-i.work) c.loop-i.output c.loop-i.verdict)
          (state c.take_up.new.self c.take_up.new.shelf (length c.take_up.new.work) c.take_up.new.output c.take_up.new.verdict)
          (take n c.args.requests.now) c.loop-i.outcomes c.loop-i.i (record { call = Load (record { ref_ptr = (0, 0); now = [] }) 0; work = 0; output = 0 }) c.take_up.result c.loop-i-test.true room c.loop-i.invariant.0 c.take_up.ensures.carried_out,
      drop_more_set c.loop-i.outcomes c.args.outcomes.now c.loop-i.i c.take_up.result c.loop-i.invariant.1,
    )

pub returns : goal.returns
returns g c =
    let K = g.F.Field.field in
    let v = g.F.Field.value in
    let first = state c.args.self.now c.args.shelf.now (length c.args.work.now) c.args.output.now c.args.verdict.now in
    let left = state c.loop-i.self c.loop-i.shelf (length c.loop-i.work) c.loop-i.output c.loop-i.verdict in
    let n = c.min-count.result in
    let asked = c.args.requests.now in
    let few : n ≤ length asked = omega (arith, c.min-count.ensures, min-le_left (length asked) (length c.args.outcomes.now)) in
    let long : length (take n asked) ≡ n = length-take-le n asked few in
    let all : c.loop-i.i ≡ n = omega (arith, long, c.loop-i-test.false, c.loop-i.auto.i-end) in
    let run : Run K v first (take n asked) (take n c.loop-i.outcomes) left = subst₂ (λ rs os. Run K v first rs os left) (take_all c.loop-i.i (take n asked) (omega (arith, all, long))) (ap (λ m. take m c.loop-i.outcomes) all) c.loop-i.invariant.0 in
    let law = c.uses_follow_the_book.ensures.law in
    record {
      as_many_as_fit = c.min-count.ensures;
      runs = run;
      later_outcomes_kept = subst (λ m. drop m c.loop-i.outcomes ≡ drop m c.args.outcomes.now) all c.loop-i.invariant.1;
      follows_from_open = λ opened. run_follows K v law first left (take n asked) (take n c.loop-i.outcomes) run opened;
      law = law;
    }
