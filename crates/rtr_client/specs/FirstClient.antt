-- The client that a session begins with (RFC 8210 sections 6 and 8).
use Rattle.std.specs.Prelude.{ℕ}
use Rattle.rtr_codec.specs.ClientTable.{Client, initial}
use Rattle.rtr_codec.specs.Intervals.{usual}

-- a new client that waits for so many seconds behind what failed, until a load has brought the cache's own Retry Interval
abbrev pub first_client : ℕ → Client
first_client retry = record initial { intervals = record usual { retry = retry } }
