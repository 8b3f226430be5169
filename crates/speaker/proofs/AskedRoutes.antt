-- What is asked of one route is of the run.
use Rattle.std.proofs.Common.{◌≡◌, ℕ, Option, sym, subst}
use Rattle.decision.specs.declared.candidate.Candidate.{Candidate}
use Rattle.net_prefix.specs.declared.prefix.Prefix.{Prefix}
use Rattle.routing.specs.Offers.{IsOffer}
use Rattle.routing.specs.Tables.{Tables, link_at, payloads_under}
use Rattle.runs.specs.Agreement.{Agrees, tables_after}
use Rattle.runs.specs.Runs.{Run, payloads_after}
use Rattle.runs.specs.SpeakerState.{SpeakerState, in_force_of, tables_of}
use Rattle.runs.specs.declared.config.Config.{Config}
use Rattle.speaker.proofs.Calls.{tables_same}

tables_shown : (config : Config) (r : Run) (s : SpeakerState) → Agrees config r s → tables_after config r ≡ tables_of s
tables_shown config r s a = tables_same config r s.conf s.payloads (link_at s.links) s.adj_in (sym a.holds.conf) a.holds.payloads a.holds.slots a.holds.networks

-- the payloads in force
pub agreed_in_force : (config : Config) (r : Run) (s : SpeakerState) → Agrees config r s → in_force_of s ≡ payloads_after config r
agreed_in_force config r s a i = payloads_under (a.holds.conf i) (a.holds.payloads i)

-- the candidate that a slot's route makes
pub offer_shown : (config : Config) (r : Run) (s : SpeakerState) (slot : ℕ) (prefix : Prefix) (found : Option Candidate) → IsOffer (tables_of s) slot prefix found → Agrees config r s → IsOffer (tables_after config r) slot prefix found
offer_shown config r s slot prefix found is a = subst (λ (t : Tables). IsOffer t slot prefix found) (sym (tables_shown config r s a)) is
