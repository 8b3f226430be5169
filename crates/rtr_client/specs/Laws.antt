-- What holds of the client's table.
use Rattle.std.specs.Prelude.{◌≤◌, ◌+◌, ℕ, Option, Some, None}
use Rattle.rtr_codec.specs.ClientTable.{Client, expire_ends, query_ends, refresh_ends, reopen_ends}
use Rattle.rtr_codec.specs.PduSpelling.{Content}

-- how many PDUs are said
abbrev pub said_count : Option Content → ℕ
said_count None = 0
said_count (Some content) = 1

-- the rows of the timers that a tick ends, each behind those before it, say one PDU together at most
abbrev pub TicksSayOne : Type 0
TicksSayOne =
    (now : ℕ) (client : Client) →
    let expired = expire_ends now client in
    let refreshed = refresh_ends now expired.client in
    let asked = query_ends now refreshed.client in
    let reopened = reopen_ends now asked.client in
    said_count expired.said + said_count refreshed.said + said_count asked.said + said_count reopened.said ≤ 1
