-- What a session says at a row.
use Rattle.std.proofs.Common.{◌≡◌, ◌≢◌, ◌≤◌, ◌+◌, ◌⊎◌, inl, inr, ℕ, Bool, true, false, List, [], ◌++◌, length, Option, Some, None, if◌then◌else◌, refl, ap, sym, ◌∙◌, arith}
use Rattle.net_prefix.specs.declared.transport.Transport.TheVariants.{Open as Connected}
use Rattle.net_prefix.specs.declared.payload.Vrp.{Vrp}
use Rattle.rtr_codec.specs.ClientTable.{Client, Input, Up, No_room, in_force, row, transport_of}
use Rattle.rtr_codec.specs.PduSpelling.{Content}
use Rattle.rtr_session.specs.Sending.{IsInOrder, IsSayable, Sending, taken}
use Rattle.rtr_client.specs.Following.{served}
use Rattle.rtr_session.specs.SessionState.{finds_room, said, settled}
use Rattle.rtr_session.proofs.ClientRows.{Says, no_room_closes, no_room_keeps, says, stood_before}
use Rattle.vrp_delta.specs.Delta.{Change, change_between}

pub sending_is :
    (s : Sending) (client : Client) (ring : List ℕ) (changed : Change) → s.client ≡ client → s.ring ≡ ring → s.changed ≡ changed
    → s ≡ record { client = client; ring = ring; changed = changed }
sending_is s client ring changed a b d = rw (← a, ← b, ← d) refl

-- a refused growth isn't Up
served_standing : (starved : Bool) (input : Input) (ring : List ℕ) → (input ≡ Up → ring ≡ []) → served starved input ≡ Up → ring ≡ []
served_standing true input ring standing up = absurd cc
served_standing false input ring standing up = standing up

-- an input is Up or another
is_up : (input : Input) → (input ≡ Up) ⊎ (input ≢ Up)
is_up Up = inl refl
is_up input = inr (λ e. cc)

spare_by :
    (now : ℕ) (c : Client) (input : Input) (ring : List ℕ) → (input ≡ Up) ⊎ (input ≢ Up) → (input ≡ Up → ring ≡ [])
    → (transport_of c ≡ Connected → length ring + 48 ≤ 4096) → transport_of (row now c input).client ≡ Connected → length ring + 48 ≤ 4096
spare_by now c input ring (inl up) standing spare stands = let none : length ring ≡ 0 = ap length (standing up) in omega arith
spare_by now c input ring (inr other) standing spare stands = spare (stood_before now c input other stands)

-- while a connection stands behind a row, an Error Report finds room
pub in_order_row :
    (now : ℕ) (c after : Client) (starved : Bool) (input : Input) (ring : List ℕ) (capacity : ℕ) → (input ≡ Up → ring ≡ []) → after ≡ (row now c (served starved input)).client
    → IsInOrder c ring capacity → IsInOrder after ring capacity
in_order_row now c after starved input ring capacity standing is o = record {
  capacity_is = o.capacity_is;
  fits = o.fits;
  spare = λ stands. spare_by now c (served starved input) ring (is_up (served starved input)) (served_standing starved input ring standing) o.spare (ap transport_of (sym is) ∙ stands);
}

sayable_by :
    (said : Option Content) (before after : Client) (ring : List ℕ) → Says said before after → (transport_of before ≡ Connected → length ring + 48 ≤ 4096)
    → IsSayable said after ring
sayable_by None before after ring h spare = tt
sayable_by (Some content) before after ring (inl query) spare = inl query
sayable_by (Some content) before after ring (inr report) spare = inr (report.0, report.2, spare report.1)

-- what a row says finds room, where it is a report
pub sayable :
    (now : ℕ) (c after : Client) (input : Input) (ring : List ℕ) (capacity : ℕ) (said : Option Content) → after ≡ (row now c input).client → said ≡ (row now c input).said
    → IsInOrder c ring capacity → IsSayable said after ring
sayable now c after input ring capacity said after_is said_is o =
    rw (after_is, said_is) (sayable_by (row now c input).said c (row now c input).client ring (says now c input) o.spare)

-- a query without room leaves the payloads in force
settled_by : (now : ℕ) (room : Bool) (c : Client) → in_force (if room then c else (row now c No_room).client) ≡ in_force c
settled_by now true c = refl
settled_by now false c = no_room_keeps now c

pub settled_keeps : (now : ℕ) (said : Option Content) (ring : List ℕ) (c : Client) → in_force (settled now said ring c) ≡ in_force c
settled_keeps now None ring c = refl
settled_keeps now (Some content) ring c = settled_by now (finds_room content ring) c

-- the session is closed
pub in_order_closed : (now : ℕ) (c after : Client) (ring : List ℕ) (capacity : ℕ) → after ≡ (row now c No_room).client → IsInOrder c ring capacity → IsInOrder after ring capacity
in_order_closed now c after ring capacity is o = record {
  capacity_is = o.capacity_is;
  fits = o.fits;
  spare = λ stands. absurd (no_room_closes now c (ap transport_of (sym is) ∙ stands));
}

-- the row is taken, and what it says is queued
pub taken_is :
    (now : ℕ) (input : Input) (s after : Sending) (client : Client) (told : Option Content) → client ≡ (row now s.client input).client → told ≡ (row now s.client input).said
    → after.client ≡ settled now told s.ring client → after.ring ≡ s.ring ++ said told s.ring → after.changed ≡ change_between (in_force s.client) (in_force client)
    → after ≡ taken now input s
taken_is now input s after client told client_is told_is a b d =
    rw (← client_is, ← told_is, settled_keeps now told s.ring client) (sending_is after _ _ _ a b d)

pub keeps_payloads :
    (now : ℕ) (kept : List Vrp) (s after : Sending) (client : Client) (told : Option Content) → kept ≡ in_force client → after.client ≡ settled now told s.ring client
    → kept ≡ in_force after.client
keeps_payloads now kept s after client told is a = is ∙ sym (settled_keeps now told s.ring client) ∙ ap in_force (sym a)
