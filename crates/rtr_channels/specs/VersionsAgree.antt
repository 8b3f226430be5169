-- When a client holds just what its cache published (our own).
use Rattle.std.specs.Prelude.{◌≡◌, ◌<◌, ◌^◌, ℕ, List, Some, length}
use Rattle.std.specs.List.{Contains}
use Rattle.net_prefix.specs.declared.payload.Vrp.{Vrp}
use Rattle.rtr_cache.specs.declared.other_session.OtherSession.{OtherSession}
use Rattle.rtr_codec.specs.ClientTable.{Base}
use Rattle.rtr_codec.specs.declared.intervals.Intervals.{Intervals}
use Rattle.rtr_channels.specs.ChannelEvents.{IsAfter, Event}
use Rattle.rtr_channels.specs.Channels.{Publication, TwoEnds, published_in}

-- no session published so often that its serials begin anew
abbrev pub AreFew : List Publication → Type 0
AreFew published = (session : ℕ) → published_in session published < 2 ^ 32

-- under this session and serial one set was published, and it is this one
abbrev pub IsPublished : List Publication → ℕ → ℕ → List Vrp → Type 0
IsPublished published session serial set =
    Contains published (record { session = session; serial = serial; set = set })
    × ((one : Publication) → Contains published one → one.session ≡ session → one.serial ≡ serial → one.set ≡ set)

-- the payloads that the client holds under a session and a serial are those that the cache published under them
abbrev pub HoldsPublished : TwoEnds → Type 0
HoldsPublished w = (base : Base) → w.client.base ≡ Some base → IsPublished w.published base.session base.serial base.payloads

abbrev pub VersionsAgree : Type 0
VersionsAgree =
    (retry session : ℕ) (intervals : Intervals) (other_session : OtherSession) (events : List Event) (w : TwoEnds)
    → IsAfter retry session intervals other_session events w → AreFew w.published → HoldsPublished w

-- where fewer than 2^32 sets were published in all, no session published so often
abbrev pub AllAreFew : Type 0
AllAreFew = (published : List Publication) → length published < 2 ^ 32 → AreFew published
