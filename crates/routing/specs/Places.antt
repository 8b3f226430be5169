-- What is queued to a peer so that it holds its export (RFC 4271 sections 4.3 and 9.2).
use Rattle.std.specs.Prelude.{◌+◌, ◌*◌, ℕ}
use Rattle.net_prefix.specs.declared.prefix.Prefix.{Prefix}

-- the place of a prefix among all prefixes, by address and then by length
abbrev pub rank_of : Prefix → ℕ
rank_of prefix = prefix.bits * 64 + prefix.len
