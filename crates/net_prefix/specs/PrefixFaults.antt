-- When an address and a length are a prefix (RFC 4632 section 3.1).
use Rattle.std.specs.Prelude.{◌≤◌, ◌<◌, ℕ}
use Rattle.net_prefix.specs.declared.fault.PrefixFault.{PrefixFault}
use Rattle.net_prefix.specs.declared.fault.PrefixFault.TheVariants.{LenOver32, HostBits, Text, MaxRange, Cut}
use Rattle.net_prefix.specs.Cover.{HasNoHostBits}

-- an address and a length are a prefix
abbrev pub IsPrefix : ℕ → ℕ → Type 0
IsPrefix bits len = (len ≤ 32) × HasNoHostBits bits len

-- why an address and a length are no prefix: the length is looked at first
abbrev pub IsNoPrefix : ℕ → ℕ → PrefixFault → Type 0
IsNoPrefix bits len LenOver32 = 32 < len
IsNoPrefix bits len HostBits = (len ≤ 32) × ¬ (HasNoHostBits bits len)
IsNoPrefix bits len Text = ⊥
IsNoPrefix bits len MaxRange = ⊥
IsNoPrefix bits len Cut = ⊥
