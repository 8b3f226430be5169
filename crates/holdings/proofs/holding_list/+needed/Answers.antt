use Rattle.std.proofs.Common.{◌≡◌, ◌∷◌, Some, inl, inr, sym, ◌∙◌, rules}
use Rattle.holdings.specs.Bounded.{AreUnlike}
use Rattle.holdings.specs.HoldingLists.{KeepsListed, list_of}
use Rattle.holdings.proofs.holding_list.+needed.Goals.{in-Some, in-None}
use Rattle.holdings.proofs.holding_list.+needed.Goals as goal

pub returns-then-deref-eq0-clause-listed : goal.returns-then-deref-eq0-clause-listed
returns-then-deref-eq0-clause-listed g t c =
    let whole : c.args.list.value ≡ record { octets = c.behind-list.inside.sent; slots = c.behind-list.inside.slots } ∷ list_of c.behind-list.inside.more = search rules in
    let fewer : KeepsListed (list_of c.match-take.more) (list_of c.behind-list.inside.more) = elim c.match-take.branch [
      | in-Some w ↦ let taken : c.behind-list.inside.more ≡ Some w.in-Some.more = search rules in rw (w.more-is, taken) w.needed-more.ensures.listed
      | in-None w ↦ rw w.more-is (λ octets there. absurd there)
    ] in
    λ octets there. rw whole (inr (fewer octets there))

pub returns-clause-listed : goal.returns-clause-listed
returns-clause-listed g t c =
    let whole : c.args.list.value ≡ record { octets = c.behind-list.inside.sent; slots = c.behind-list.inside.slots } ∷ list_of c.behind-list.inside.more = search rules in
    let fewer : KeepsListed (list_of c.match-take.more) (list_of c.behind-list.inside.more) = elim c.match-take.branch [
      | in-Some w ↦ let taken : c.behind-list.inside.more ≡ Some w.in-Some.more = search rules in rw (w.more-is, taken) w.needed-more.ensures.listed
      | in-None w ↦ rw w.more-is (λ octets there. absurd there)
    ] in
    let first : c.behind-list-3.inside.sent ≡ c.behind-list.inside.sent = search rules in
    λ octets there. rw whole (elim there [ inl is ↦ inl (sym first ∙ is) | inr behind ↦ inr (fewer octets behind) ])

pub returns-clause-unlike : goal.returns-clause-unlike
returns-clause-unlike g t c =
    let whole : c.args.list.value ≡ record { octets = c.behind-list.inside.sent; slots = c.behind-list.inside.slots } ∷ list_of c.behind-list.inside.more = search rules in
    let fewer : KeepsListed (list_of c.match-take.more) (list_of c.behind-list.inside.more) = elim c.match-take.branch [
      | in-Some w ↦ let taken : c.behind-list.inside.more ≡ Some w.in-Some.more = search rules in rw (w.more-is, taken) w.needed-more.ensures.listed
      | in-None w ↦ rw w.more-is (λ octets there. absurd there)
    ] in
    let more : AreUnlike (list_of c.behind-list.inside.more) → AreUnlike (list_of c.match-take.more) = elim c.match-take.branch [
      | in-Some w ↦ let taken : c.behind-list.inside.more ≡ Some w.in-Some.more = search rules in rw (w.more-is, taken) w.needed-more.ensures.unlike
      | in-None w ↦ rw w.more-is (λ unlike. tt)
    ] in
    let first : c.behind-list-3.inside.sent ≡ c.behind-list.inside.sent = search rules in
    λ unlike. let was = rw whole at unlike in ((λ there. was.0 (fewer c.behind-list.inside.sent (rw first at there))), more was.1)
