-- How long a router waits (RFC 8210 section 6).
use Rattle.std.specs.Prelude.{◌&&◌, Bool, nat_le, nat_lt}
use Rattle.rtr_codec.specs.declared.intervals.Intervals.{Intervals}

-- each within its bounds, and expire larger than the other two
abbrev pub are_lawful : Intervals → Bool
are_lawful i =
    nat_le 1 i.refresh && (nat_le i.refresh 86400 && (nat_le 1 i.retry && (nat_le i.retry 7200
    && (nat_le 600 i.expire && (nat_le i.expire 172800 && (nat_lt i.refresh i.expire && nat_lt i.retry i.expire))))))

-- what the RFC proposes
abbrev pub usual : Intervals
usual = record { refresh = 3600; retry = 600; expire = 7200 }
