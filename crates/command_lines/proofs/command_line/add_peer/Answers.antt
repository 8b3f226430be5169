use Rattle.std.proofs.Common.{◌≡◌, map, refl, subst}
use Rattle.command_lines.proofs.FirstWords.{peer_none}
use Rattle.command_lines.specs.CommandWords.{IsPeer}
use Rattle.command_lines.specs.Words.{WritesBits}
use Rattle.command_lines.proofs.command_line.add_peer.Goals as goal

pub returns-in_err-slot : goal.returns-in_err-slot
returns-in_err-slot c = rw c.from_residual.ensures (peer_none _ (λ slot peer is. let one = is.2 in let other = c.in_err-slot.ensures in cc))

pub returns-in_err-octet : goal.returns-in_err-octet
returns-in_err-octet c = rw c.from_residual-in_err-octet.ensures (peer_none _ (λ slot peer is.
    let same : is.0 ≡ c.in_ok-slot.slot.now = let one = is.2 in let other = c.in_ok-slot.ensures in cc in
    c.in_err-octet.ensures slot (subst (λ word. WritesBits 8 word slot) same is.3)))

pub returns-in_err-peer : goal.returns-in_err-peer
returns-in_err-peer c = rw c.from_residual-in_err-peer.ensures (peer_none _ (λ slot peer is.
    let same : is.1 ≡ map (λ word. word.now) c.in_ok-slot.terms.now = let one = is.2 in let other = c.in_ok-slot.ensures in cc in
    c.in_err-peer.ensures peer (subst (λ words. IsPeer words peer) same is.4)))

pub returns : goal.returns
returns c = (_, refl, (_, _, c.in_ok-slot.ensures, c.in_ok-octet.ensures, c.in_ok-peer.ensures))
