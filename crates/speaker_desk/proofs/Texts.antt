-- Texts of lines, and where peers are.
use Rattle.std.proofs.Common.{◌≡◌, ◌≢◌, ◌++◌, ◌∙◌, ◌+◌, inl, inr, ℕ, List, [], ◌∷◌, length, refl, sym, ap, arith}
use Rattle.std.specs.Prelude.{Contains}
use Rattle.std.proofs.lemmas.List.{length-append}
use Rattle.std.specs.Net.Addr.{IsIpv4OfBits}
use Rattle.std.specs.Net.Socket.{socket_ip, socket_port}
use Rattle.std.specs.declared.net.ipv4_addr.Ipv4Addr.{Ipv4Addr}
use Rattle.std.specs.declared.net.ip_addr.IpAddr.TheVariants.{V4}
use Rattle.std.specs.declared.net.socket_addr.SocketAddr.{SocketAddr}
use Rattle.speaker_desk.specs.Answering.{IsAt, IsTextOf}

last_of : ℕ → List ℕ → ℕ
last_of none [] = none
last_of none (octet ∷ octets) = last_of octet octets

last_is : (none : ℕ) (front : List ℕ) (last : ℕ) → last_of none (front ++ last ∷ []) ≡ last
unfolding last_of
last_is none [] last = refl
last_is none (octet ∷ front) last = last_is octet front last

pub ends_so : (line octets : List ℕ) (last : ℕ) → line ≡ octets ++ last ∷ [] → last ≡ 13 → IsTextOf line octets
ends_so line octets last is return = inl (is ∙ ap (λ (octet : ℕ). octets ++ octet ∷ []) return)

pub ends_otherwise : (line octets : List ℕ) (last : ℕ) → line ≡ octets ++ last ∷ [] → last ≢ 13 → IsTextOf line line
ends_otherwise line octets last is other =
    inr (refl, λ front ends. other (sym (last_is 0 octets last) ∙ (ap (last_of 0) (sym is ∙ ends) ∙ last_is 0 front 13)))

pub has_none : (line : List ℕ) → length line ≡ 0 → IsTextOf line line
has_none line none = inr (refl, λ front ends. longer front ends)
  where
    longer : (front : List ℕ) → line ≡ front ++ 13 ∷ [] → ⊥
    longer front ends = let more = ap length ends ∙ length-append front (13 ∷ []) in omega (arith, more, none)

-- ---- where peers are

pub at_remote : (remotes : List (ℕ × SocketAddr)) (slot address : ℕ) (remote : SocketAddr) → Contains remotes (slot, remote) → IsAt remotes (slot, address) remote
at_remote remotes slot address remote told = inl told

pub at_address : (remotes : List (ℕ × SocketAddr)) (slot address : ℕ) (remote : SocketAddr) (ip : Ipv4Addr) → ((other : SocketAddr) → ¬ (Contains remotes (slot, other))) → IsIpv4OfBits ip address → socket_ip remote ≡ V4 ip → socket_port remote ≡ 179
    → IsAt remotes (slot, address) remote
at_address remotes slot address remote ip none bits at port = inr (none, ip, bits, at, port)
