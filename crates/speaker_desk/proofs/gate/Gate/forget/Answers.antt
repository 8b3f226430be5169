use Rattle.std.proofs.Common.{◌≡◌, ℕ, Bool, List, ap, nat_eq, not, rules}
use Rattle.std.proofs.lemmas.Fn.{filter_same}
use Rattle.speaker_desk.specs.Waiting.{Waiting, others}
use Rattle.speaker_desk.proofs.gate.Gate.forget.Goals as goal

abbrev waiting_of : List ℕ → ℕ → Bool → Waiting
waiting_of slots until is_open = record { slots = slots; until = until; is_open = is_open }

pub returns : goal.returns
returns c =
    let kept : c.retain.new.self.items ≡ others c.args.slot c.self.inside.slots.items = filter_same _ (λ (other : ℕ). not (nat_eq other c.args.slot)) _ (λ x b f' k. search rules) _ _ c.retain.ensures.filtered in
    rw (← c.self.view_is) (ap (λ (slots : List ℕ). waiting_of slots c.self.inside.until c.self.inside.is_open) kept)
