-- Which sets are let in.
use Rattle.std.proofs.Common.{◌≡◌, ◌≢◌, ◌∙◌, ℕ, List, length, Some, Result, Ok, Err, MatchResult, refl, sym, subst}
use Rattle.net_prefix.specs.declared.payload.Vrp.{Vrp}
use Rattle.cache_program.specs.Rereads.{IsKeptOut, IsLetIn, Served}
use Rattle.cache_watch.specs.declared.reread.ListFault.{ListFault}
use Rattle.cache_watch.specs.declared.reread.ListFault.TheVariants.{Other}

-- where an operator accepts one of so many payloads, one that has as many is, and no other
pub shown : {T : Type 0} (r : Result T ListFault) (payloads refused age : ℕ) (set : List Vrp) (served : Served) → payloads ≡ length set
    → MatchResult r (λ passed. payloads ≡ refused) (λ why. (why ≡ Other payloads refused) × (payloads ≢ refused))
    → MatchResult r (λ passed. IsLetIn (Some refused) age set served) (λ why. IsKeptOut (Some refused) age set served why)
shown (Ok passed) payloads refused age set served len is = record { young = refl; passes = refl; shown = sym len ∙ is }
shown (Err why) payloads refused age set served len (is, other) = subst (λ (w : ListFault). IsKeptOut (Some refused) age set served w) (sym is) (refl, len, other)
