use Rattle.std.proofs.Common.{◌≡◌, ℕ, List, Some, None, Bor, refl, ap, rules}
use Rattle.std.specs.Option.{option_map}
use Rattle.scripting.specs.Reading.{texts_in}
use Rattle.scripting.proofs.reading.load.Goals as goal

pub returns-in-Some : goal.returns-in-Some
returns-in-Some c =
    let e : Some c.in-Some.bytes.now.now ≡ texts_in c.args.texts.now c.args.name.now = ap (option_map (λ (x : Bor (List ℕ)). x.now)) c.in-Some.ensures.value in
    record { loads = rw (← e) (c.in_ok-text.text, search rules, refl) }

pub returns : goal.returns
returns c =
    let e : None ≡ texts_in c.args.texts.now c.args.name.now = ap (option_map (λ (x : Bor (List ℕ)). x.now)) c.in_default.ensures.value in
    record { loads = rw (← e) (c.in_ok-name-2.name, search rules, refl) }
