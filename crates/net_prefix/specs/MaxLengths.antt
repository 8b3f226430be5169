-- Which maximum lengths a payload may have (RFC 6811 section 2).
use Rattle.std.specs.Prelude.{◌≤◌, ◌<◌, ◌⊎◌, ℕ}

-- a maximum length of a payload whose prefix has this length
abbrev pub IsMaxLength : ℕ → ℕ → Type 0
IsMaxLength len max_len = (len ≤ max_len) × (max_len ≤ 32)

-- no maximum length of a payload whose prefix has this length
abbrev pub IsNoMaxLength : ℕ → ℕ → Type 0
IsNoMaxLength len max_len = (max_len < len) ⊎ (32 < max_len)
