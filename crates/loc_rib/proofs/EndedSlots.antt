use Rattle.std.proofs.Common.{◌≡◌, ◌≢◌, ◌==◌, ℕ, Option, Some, None, cond, refl, sym, ap, ◌∙◌, subst, inl, inr}
use Rattle.std.specs.Option.{IsSome}
use Rattle.std.proofs.lemmas.Bool.{cases_eq, eq-eqb, ne_eqb}
use Rattle.decision.specs.BookContents.{BookState, offer_at}
use Rattle.decision.specs.declared.candidate.Candidate.{Candidate}
use Rattle.net_prefix.specs.PrefixOrder.{prefix_cmp}
use Rattle.net_prefix.specs.declared.prefix.Prefix.{Prefix}
use Rattle.rib_in.proofs.SlotWalks.{other_route}
use Rattle.rib_in.specs.LatestRoutes.{RouteTable, is_route, route_at}

-- The candidates of a slot whose session has ended.

-- those of the other slots are as they were
abbrev pub KeepsOthers : ℕ → BookState → BookState → Type 0
KeepsOthers slot old now = (s : ℕ) (p : Prefix) → s ≢ slot → offer_at now s p ≡ offer_at old s p

pub others_first : (slot : ℕ) (book : BookState) → KeepsOthers slot book book
others_first slot book s p other = refl

pub others_more : (slot : ℕ) (p : Prefix) (old now new : BookState) → KeepsOthers slot old now → ((s : ℕ) (q : Prefix) → offer_at new s q ≡ cond (is_route slot p s q) None (offer_at now s q)) → KeepsOthers slot old new
others_more slot p old now new kept out s q other = out s q ∙ ap (λ b. cond b None (offer_at now s q)) (other_route (prefix_cmp p q) slot s other) ∙ kept s q other

unrouted : (o : Option Candidate) → (IsSome o → ⊥) → o ≡ None
unrouted None never = refl
unrouted (Some c) never = absurd (never refl)

-- without routes the slot has no candidates
pub offers_gone : (slot : ℕ) (adj_in : RouteTable) (old now : BookState) → ((s : ℕ) (p : Prefix) → IsSome (offer_at now s p) → IsSome (route_at adj_in s p)) → KeepsOthers slot old now
    → ((p : Prefix) → route_at adj_in slot p ≡ None) → (s : ℕ) (p : Prefix) → offer_at now s p ≡ cond (s == slot) None (offer_at old s p)
offers_gone slot adj_in old now routed kept none s p =
    elim (cases_eq s slot) [
      | inl same ↦
          let nothing : offer_at now slot p ≡ None = unrouted (offer_at now slot p) (λ there. let some = subst (λ o. IsSome o) (none p) (routed slot p there) in absurd (cc)) in
          ap (λ x. offer_at now x p) same ∙ nothing ∙ sym (ap (λ b. cond b None (offer_at old s p)) (eq-eqb s slot same))
      | inr other ↦ kept s p other ∙ sym (ap (λ b. cond b None (offer_at old s p)) (ne_eqb s slot other))
    ]
