use Rattle.std.proofs.Common.{◌≡◌, ◌≢◌, refl, rules, tests}
use Rattle.std.proofs.lemmas.Iterator.{first_from_find, YieldsList-from_slice}
use Rattle.scripting.specs.Naming.{name_of}
use Rattle.scripting.proofs.Verbs.{named, verbs}
use Rattle.scripting.proofs.verb.VerbTryFromRefSliceU8.try_from.Goals as goal

pub returns : goal.returns
returns c =
    let first = first_from_find _ _ c.find-found.result (λ v. name_of v ≡ c.args.word.now) (λ v. name_of v ≢ c.args.word.now) c.find-found.ensures.ran (YieldsList-from_slice _ c.iter.ensures.rest) (λ x q k. search (rules, tests)) (λ x q k. search (rules, tests)) in
    rw (c.ok_or.ensures.value, c.copied.ensures) (named _ verbs c.find-found.result _ refl first)
