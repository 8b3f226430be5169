use Rattle.std.proofs.Common.{◌≡◌, ◌∙◌, ℕ, List, sym, subst}
use Rattle.json.proofs.Found.{Some_inj}
use Rattle.vrp_json.specs.WrittenTimes.{WritesTime}
use Rattle.vrp_json.proofs.written.time_in.Goals as goal

pub returns-in-None : goal.returns-in-None
returns-in-None c = λ text is second writes.
    let same : text ≡ c.in-Some.text.now = Some_inj text c.in-Some.text.now (sym is ∙ sym c.in-Some.ensures) in
    c.in-None.ensures second (subst (λ (t : List ℕ). WritesTime t second) same writes)
