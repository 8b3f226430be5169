use Rattle.std.proofs.Common.{◌≡◌, map, subst}
use Rattle.command_lines.specs.CommandWords.{AreTerms}
use Rattle.command_lines.specs.Words.{WritesAddress}
use Rattle.command_lines.proofs.command_line.peer.Goals as goal

pub returns-in_err-mode : goal.returns-in_err-mode
returns-in_err-mode c = rw c.from_residual-in_err-mode.ensures (λ peer is.
    let same : is.3 ≡ map (λ word. word.now) c.in_ok-asn.terms.now = let one = is.4 in let other = c.in_ok-asn.ensures in cc in
    c.in_err-mode.ensures peer.mode peer.hold peer.import.now peer.export.now (subst (λ words. AreTerms words peer.mode peer.hold peer.import.now peer.export.now) same is.8))

pub returns-in_err-address : goal.returns-in_err-address
returns-in_err-address c = rw c.from_residual-in_err-address.ensures (λ peer is.
    let same : is.1 ≡ c.in_ok-asn.peer_address.now = let one = is.4 in let other = c.in_ok-asn.ensures in cc in
    c.in_err-address.ensures peer.address (subst (λ word. WritesAddress word peer.address) same is.6))

pub returns-in_err-address-2 : goal.returns-in_err-address-2
returns-in_err-address-2 c = rw c.from_residual-in_err-address-2.ensures (λ peer is.
    let same : is.2 ≡ c.in_ok-asn.local.now = let one = is.4 in let other = c.in_ok-asn.ensures in cc in
    c.in_err-address-2.ensures peer.local (subst (λ word. WritesAddress word peer.local) same is.7))

pub returns : goal.returns
returns c = (_, _, _, _, c.in_ok-asn.ensures, c.in_ok-long.ensures, c.in_ok-address.ensures, c.in_ok-address-2.ensures, c.in_ok-mode.ensures)
