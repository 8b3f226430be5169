use Rattle.std.proofs.Common.{◌≡◌, ◌≤◌, ◌<◌, ◌==◌, ℕ, Bool, true, false, if◌then◌else◌, List, [], ◌∷◌, ◌++◌, drop, length, Option, Some, None, refl, ap, sym, ◌∙◌, ◌||◌}
use Rattle.rtr_codec.specs.declared.fault.PduFault.TheVariants.{Unanswered}
use Rattle.rtr_codec.specs.declared.place.End.TheVariants.{Cache}
use Rattle.rtr_codec.specs.declared.place.Place.{Place}
use Rattle.rtr_cache.specs.CacheTable.{Shared, Conn, place_of, has_room, serial_answer, serial_query, reset_query, other_session_answer, unless_busy, hears_pdu, hears_item, hears, first_refused, hears_all, hears_from, hears_open, hears_octets, offered}
use Rattle.rtr_cache.specs.declared.other_session.OtherSession.{OtherSession}
use Rattle.rtr_cache.specs.declared.other_session.OtherSession.TheVariants.{Report, Reset}
use Rattle.rtr_codec.specs.PduSpelling.{Content, Serial_query, Reset_query, Cache_response}
use Rattle.rtr_codec.specs.PduStream.{Item, WholePdu, FaultyPdu, Wants, is_response, meaning, place_after, left_over, needed_of, pdus_from, unread_from}
use Rattle.vrp_delta.specs.Versions.{Version, version_of}
use Rattle.rtr_codec.proofs.Streams.{goes_on}

-- What a cache makes of octets that come, piece by piece.

-- an open connection that has heard a PDU, by what it has not read
abbrev heard_open : Conn → List ℕ → Conn
heard_open conn unread =
    record { is_open = true; is_first = false; unread = unread; ring = conn.ring; left = conn.left; told = conn.told; notified = conn.notified; handed = conn.handed }

-- a connection that stays open has heard a PDU, and what is unread stays so
abbrev rejoined : List ℕ → Conn → Conn
rejoined unread conn = if conn.is_open then record conn { is_first = false; unread = unread } else conn

if_rejoins :
    (test : Bool) (there : List ℕ) (a b c d : Conn) → a ≡ rejoined there b → c ≡ rejoined there d
    → (if test then a else c) ≡ rejoined there (if test then b else d)
if_rejoins true there a b c d h k = h
if_rejoins false there a b c d h k = k

answer_rejoins :
    (shared : Shared) (refused : Bool) (conn : Conn) (here there : List ℕ) (newest : Version) (found : Option Version)
    → serial_answer shared refused (heard_open conn there) newest found ≡ rejoined there (serial_answer shared refused (heard_open conn here) newest found)
answer_rejoins shared refused conn here there newest None = if_rejoins (has_room conn.ring) there _ _ _ _ refl refl
answer_rejoins shared refused conn here there newest (Some old) = if_rejoins refused there _ _ _ _ refl refl

other_session_rejoins :
    (other_session : OtherSession) (conn : Conn) (here there octets : List ℕ)
    → other_session_answer other_session (heard_open conn there) octets ≡ rejoined there (other_session_answer other_session (heard_open conn here) octets)
other_session_rejoins Report conn here there octets = refl
other_session_rejoins Reset conn here there octets = if_rejoins (has_room conn.ring) there _ _ _ _ refl refl

serial_rejoins :
    (shared : Shared) (refused : Bool) (conn : Conn) (here there octets : List ℕ) (session serial : ℕ) (kept : List Version)
    → serial_query shared refused (heard_open conn there) octets session serial kept ≡ rejoined there (serial_query shared refused (heard_open conn here) octets session serial kept)
serial_rejoins shared refused conn here there octets session serial [] = if_rejoins (has_room conn.ring) there _ _ _ _ refl refl
serial_rejoins shared refused conn here there octets session serial (newest ∷ older) =
    if_rejoins (session == shared.session) there _ _ _ _ (answer_rejoins shared refused conn here there newest (version_of (newest ∷ older) serial))
    (other_session_rejoins shared.other_session conn here there octets)

reset_rejoins :
    (shared : Shared) (refused : Bool) (conn : Conn) (here there octets : List ℕ) (kept : List Version)
    → reset_query shared refused (heard_open conn there) octets kept ≡ rejoined there (reset_query shared refused (heard_open conn here) octets kept)
reset_rejoins shared refused conn here there octets [] = if_rejoins (has_room conn.ring) there _ _ _ _ refl refl
reset_rejoins shared refused conn here there octets (newest ∷ older) = if_rejoins refused there _ _ _ _ refl refl

busy_rejoins :
    (left : List Content) (there : List ℕ) (a b c d : Conn) → a ≡ rejoined there b → c ≡ rejoined there d
    → unless_busy left a c ≡ rejoined there (unless_busy left b d)
busy_rejoins [] there a b c d h k = k
busy_rejoins (content ∷ contents) there a b c d h k = h

pdu_rejoins :
    (shared : Shared) (refused : Bool) (conn : Conn) (here there octets : List ℕ) (content : Content)
    → hears_pdu shared refused (heard_open conn there) octets content ≡ rejoined there (hears_pdu shared refused (heard_open conn here) octets content)
pdu_rejoins shared refused conn here there octets (Serial_query session serial) =
    busy_rejoins conn.left there _ _ _ _ refl (serial_rejoins shared refused conn here there octets session serial (offered shared))
pdu_rejoins shared refused conn here there octets Reset_query =
    busy_rejoins conn.left there _ _ _ _ refl (reset_rejoins shared refused conn here there octets (offered shared))
pdu_rejoins shared refused conn here there octets content = refl

item_rejoins :
    (shared : Shared) (refused : Bool) (conn : Conn) (here there : List ℕ) (item : Item)
    → hears_item shared refused (heard_open conn there) item ≡ rejoined there (hears_item shared refused (heard_open conn here) item)
item_rejoins shared refused conn here there (WholePdu content octets) = pdu_rejoins shared refused conn here there octets content
item_rejoins shared refused conn here there (FaultyPdu Unanswered octets) = refl
item_rejoins shared refused conn here there (FaultyPdu fault octets) = refl

-- a row leaves what is unread, or closes the connection
hears-unread :
    (shared : Shared) (refused : Bool) (conn : Conn) (unread : List ℕ) (item : Item) → conn.is_open ≡ true
    → hears shared refused (record conn { unread = unread }) item ≡ rejoined unread (hears shared refused conn item)
hears-unread shared refused conn unread item is_open = rw is_open (item_rejoins shared refused conn conn.unread unread item)

-- an item behind which a connection may stay open: a whole PDU, and no Cache Response
abbrev LetsStay : Item → Type 0
LetsStay item = (is_response item ≡ false) × ((octets : List ℕ) → left_over octets (Some item) ≡ [])

lets_stay : (shared : Shared) (refused : Bool) (conn : Conn) (item : Item) → (hears_item shared refused conn item).is_open ≡ true → LetsStay item
lets_stay shared refused conn (WholePdu (Cache_response session) whole) still = absurd cc
lets_stay shared refused conn (WholePdu content whole) still = (refl, λ octets. refl)
lets_stay shared refused conn (FaultyPdu Unanswered quoted) still = absurd cc
lets_stay shared refused conn (FaultyPdu fault quoted) still = absurd cc

-- where a row leaves the connection open, the next PDU stands behind its own, and what is unread stays so
pub hears-open :
    (shared : Shared) (refused : Bool) (conn : Conn) (item : Item) → conn.is_open ≡ true → (hears shared refused conn item).is_open ≡ true
    → (place_of (hears shared refused conn item) ≡ place_after (place_of conn) (Some item)) × ((hears shared refused conn item).unread ≡ conn.unread) × LetsStay item
hears-open shared refused conn item is_open still =
    let after = hears shared refused conn item in
    let rest : hears shared refused conn item ≡ record (hears shared refused conn item) { is_first = false; unread = conn.unread } =
    hears-unread shared refused conn conn.unread item is_open
    ∙ ap (λ (b : Bool). if b then record after { is_first = false; unread = conn.unread } else after) still in
    let lets : LetsStay item = lets_stay shared refused (heard_open conn conn.unread) item (rw is_open at still) in (
      ap place_of rest ∙ ap (λ (b : Bool). record { end = Cache; is_first = false; has_response = b || false }) (sym lets.0),
      ap (λ (c : Conn). c.unread) rest,
      lets,
    )

-- a closed connection hears nothing
hears-closed : (shared : Shared) (refused : Bool) (conn : Conn) (item : Item) → conn.is_open ≡ false → hears shared refused conn item ≡ conn
hears-closed shared refused conn item is_closed = rw is_closed refl

pub hears_all-closed : (shared : Shared) (refused : List Bool) (conn : Conn) (items : List Item) → conn.is_open ≡ false → hears_all shared refused conn items ≡ conn
hears_all-closed shared refused conn [] is_closed = refl
hears_all-closed shared refused conn (item ∷ items) is_closed =
    ap (λ (c : Conn). hears_all shared (drop 1 refused) c items) (hears-closed shared (first_refused refused) conn item is_closed)
    ∙ hears_all-closed shared (drop 1 refused) conn items is_closed

-- what follows an item is heard behind its row, unless the row closed the connection
after_row :
    (shared : Shared) (refused : List Bool) (after : Conn) (place : Place) (left more : List ℕ) (is_open : Bool) → after.is_open ≡ is_open
    → (is_open ≡ true → (after.is_first ≡ false) × (left ≡ []))
    → hears_all shared refused (if is_open then record after { is_first = false; unread = unread_from place left more } else after) (pdus_from place left more)
    ≡ (if is_open then hears_from shared refused after place [] more else after)
after_row shared refused after place left more true e stays =
    ap (λ (b : Bool). hears_all shared refused (record after { is_first = b; unread = unread_from place left more }) (pdus_from place left more)) (sym (stays refl).0)
    ∙ ap (λ (part : List ℕ). hears_from shared refused after place part more) (stays refl).1
after_row shared refused after place left more false e stays = hears_all-closed shared refused after (pdus_from place left more) e

-- octets that come behind a rest that wants more, and no more than it wants
abbrev pub IsPiece : Place → List ℕ → List ℕ → Type 0
IsPiece place part piece = Wants place part × (0 < length piece) × (length piece ≤ needed_of place part)

-- they are no row, or one
pub hears-none :
    (shared : Shared) (refused : List Bool) (conn : Conn) (place : Place) (part piece more : List ℕ) → IsPiece place part piece → meaning place (part ++ piece) ≡ None → hears_from shared refused conn place part (piece ++ more) ≡ hears_from shared refused conn place (part ++ piece) more
hears-none shared refused conn place part piece more h none =
    let all = goes_on place part piece more h.0 h.1 h.2 in
    let found = rw none at all in
    rw (found.0, found.1) refl

pub hears-row :
    (shared : Shared) (refused : List Bool) (conn : Conn) (place : Place) (part piece more : List ℕ) (item : Item) → IsPiece place part piece → meaning place (part ++ piece) ≡ Some item → conn.is_open ≡ true
    → hears_from shared refused conn place part (piece ++ more)
    ≡ (if (hears shared (first_refused refused) conn item).is_open
    then hears_from shared (drop 1 refused) (hears shared (first_refused refused) conn item) (place_after place (Some item)) [] more
    else hears shared (first_refused refused) conn item)
hears-row shared refused conn place part piece more item h is_item is_open =
    let all = goes_on place part piece more h.0 h.1 h.2 in
    let found = rw is_item at all in
    let next = place_after place (Some item) in
    let left = left_over (part ++ piece) (Some item) in
    let after = hears shared (first_refused refused) conn item in
    rw (found.0, found.1)
    (ap (λ (c : Conn). hears_all shared (drop 1 refused) c (pdus_from next left more)) (hears-unread shared (first_refused refused) conn (unread_from next left more) item is_open)
    ∙ after_row shared (drop 1 refused) after next left more _ refl
    (λ still. let open_still = hears-open shared (first_refused refused) conn item is_open still in (ap (λ (p : Place). p.is_first) open_still.0, open_still.2.1 (part ++ piece))))

-- the same of octets that come on a connection

pub hears_octets-closed : (shared : Shared) (refused : List Bool) (conn : Conn) (octets : List ℕ) → conn.is_open ≡ false → hears_octets shared refused conn octets ≡ conn
hears_octets-closed shared refused conn octets is_closed = rw is_closed refl

hears_octets-open : (shared : Shared) (refused : List Bool) (conn : Conn) (octets : List ℕ) → conn.is_open ≡ true → hears_octets shared refused conn octets ≡ hears_open shared refused conn octets
hears_octets-open shared refused conn octets is_open = rw is_open refl

if_same : (is_open : Bool) (x y z : Conn) → (is_open ≡ true → x ≡ z) → (is_open ≡ false → y ≡ z) → (if is_open then x else y) ≡ z
if_same true x y z h k = h refl
if_same false x y z h k = k refl

pub hears_octets-nil : (shared : Shared) (refused : List Bool) (conn : Conn) → hears_octets shared refused conn [] ≡ conn
hears_octets-nil shared refused conn = if_same conn.is_open conn conn conn (λ is_open. refl) (λ is_closed. refl)

pub hears_octets-none :
    (shared : Shared) (refused : List Bool) (conn : Conn) (piece more : List ℕ) → IsPiece (place_of conn) conn.unread piece → meaning (place_of conn) (conn.unread ++ piece) ≡ None → conn.is_open ≡ true
    → hears_octets shared refused conn (piece ++ more) ≡ hears_octets shared refused (record conn { unread = conn.unread ++ piece }) more
hears_octets-none shared refused conn piece more h none is_open =
    hears_octets-open shared refused conn (piece ++ more) is_open
    ∙ hears-none shared refused conn (place_of conn) conn.unread piece more h none
    ∙ sym (hears_octets-open shared refused (record conn { unread = conn.unread ++ piece }) more is_open)

pub hears_octets-row :
    (shared : Shared) (refused : List Bool) (conn : Conn) (piece more : List ℕ) (item : Item) → IsPiece (place_of conn) conn.unread piece → meaning (place_of conn) (conn.unread ++ piece) ≡ Some item → conn.is_open ≡ true
    → hears_octets shared refused conn (piece ++ more) ≡ hears_octets shared (drop 1 refused) (hears shared (first_refused refused) (record conn { unread = [] }) item) more
hears_octets-row shared refused conn piece more item h is_item is_open =
    let before = record conn { unread = [] } in
    let after = hears shared (first_refused refused) before item in
    hears_octets-open shared refused conn (piece ++ more) is_open
    ∙ hears-row shared refused before (place_of conn) conn.unread piece more item h is_item is_open
    ∙ if_same after.is_open _ after (hears_octets shared (drop 1 refused) after more)
    (λ still.
    let stays = hears-open shared (first_refused refused) before item is_open still in
    ap (λ (p : Place). hears_from shared (drop 1 refused) after p [] more) (sym stays.0)
    ∙ ap (λ (part : List ℕ). hears_from shared (drop 1 refused) after (place_of after) part more) (sym stays.1)
    ∙ sym (hears_octets-open shared (drop 1 refused) after more still))
    (λ is_closed. sym (hears_octets-closed shared (drop 1 refused) after more is_closed))
