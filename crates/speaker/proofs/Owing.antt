use Rattle.std.proofs.Common.{◌≡◌, ◌≢◌, ◌&&◌, ◌⊎◌, ℕ, Bool, true, false, not, List, Option, Some, None, cond, refl, sym, ap, ◌∙◌, subst, inl, inr}
use Rattle.std.specs.Option.{IsSome}
use Rattle.std.specs.Str.{bytes_eq}
use Rattle.std.proofs.lemmas.Slice.Eq.{bytes_eq-Decides}
use Rattle.net_prefix.specs.declared.prefix.Prefix.{Prefix}
use Rattle.routing.specs.Owing.{announced_of, withdrawn_of}
use Rattle.speaker.specs.Serving.{IsGone, IsHad}

-- What a served peer is owed, by what is exported to it, what it holds and what it has asked for again.

-- what is withdrawn is held and isn't exported
pub withdrawn_parts : (export held : Option (List ℕ)) → IsSome (withdrawn_of export held) → (export ≡ None) × IsSome held
withdrawn_parts None held some = (refl, some)
withdrawn_parts (Some octets) held some = absurd (cc)

pub gone_idle : (exports : Prefix → Option (List ℕ)) (q : Prefix) (held : Option (List ℕ)) (asked : Bool) → withdrawn_of (exports q) held ≡ None → IsGone exports q held asked
gone_idle exports q held asked none gone = sym (ap (λ e. withdrawn_of e held) gone) ∙ none

-- what is announced is exported and isn't held just so, or was asked for again
pub announced_news : (export held : Option (List ℕ)) (asked : Bool) (octets : List ℕ) → export ≡ Some octets → IsSome (announced_of export held asked) → (held ≢ Some octets) ⊎ (asked ≡ true)
announced_news export held true octets is some = inr refl
announced_news export held false octets is some = inl (λ same.
    let here : IsSome (announced_of (Some octets) (Some octets) false) = subst (λ h. IsSome (announced_of (Some octets) h false)) same (subst (λ e. IsSome (announced_of e held false)) is some) in
    never (bytes_eq octets octets) ((bytes_eq-Decides octets octets).1 refl) here)
  where
    never : (b : Bool) → b ≡ true → IsSome (cond (b && not false) None (Some octets)) → ⊥
    never true is some = cc
    never false is some = cc

had_of : (octets : List ℕ) (held : Option (List ℕ)) (asked : Bool) → announced_of (Some octets) held asked ≡ None → (held ≡ Some octets) × (asked ≡ false)
had_of octets None asked none = absurd (cc)
had_of octets (Some held) asked none = by_test (bytes_eq held octets) asked refl none
  where
    by_test : (same asked : Bool) → bytes_eq held octets ≡ same → cond (same && not asked) None (Some octets) ≡ None → (Some held ≡ Some octets) × (asked ≡ false)
    by_test true false same none = (ap Some ((bytes_eq-Decides held octets).0 same), refl)
    by_test true true same none = absurd (cc)
    by_test false asked other none = absurd (cc)

pub had_idle : (exports : Prefix → Option (List ℕ)) (q : Prefix) (held : Option (List ℕ)) (asked : Bool) → announced_of (exports q) held asked ≡ None → IsHad exports q held asked
had_idle exports q held asked none octets is = had_of octets held asked (sym (ap (λ e. announced_of e held asked) is) ∙ none)
