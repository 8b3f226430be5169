-- What a client is told is said whole, PDU by PDU.
use Rattle.std.proofs.Common.{◌≡◌, ℕ, Bool, true, false, not, ◌==◌, ◌&&◌, if◌then◌else◌, List, [], ◌∷◌, ◌++◌, drop, take, Option, Some, None, ◌⊎◌, inl, inr, refl, ap, sym, subst, ◌∙◌, append_assoc, append-nil}
use Rattle.std.proofs.lemmas.Bool.{and_parts}
use Rattle.std.proofs.lemmas.Grind.{flat_map-append}
use Rattle.std.proofs.lemmas.List.{take-append-drop}
use Rattle.net_prefix.specs.declared.payload.Vrp.{Vrp}
use Rattle.rtr_codec.specs.declared.fault.ErrorCode.{ErrorCode}
use Rattle.rtr_codec.specs.declared.fault.ErrorCode.TheVariants.{InternalError, InvalidRequest, CorruptData, NoDataAvailable}
use Rattle.rtr_codec.specs.declared.fault.PduFault.{PduFault}
use Rattle.rtr_codec.specs.declared.fault.PduFault.TheVariants.{Unanswered, Header, Payload}
use Rattle.rtr_codec.specs.declared.intervals.Intervals.{Intervals}
use Rattle.rtr_codec.specs.PduFaults.{number_of}
use Rattle.rtr_codec.specs.PduSpelling.{Content, Serial_notify, Serial_query, Reset_query, Cache_response, Announce, Withdraw, Ipv6_prefix, End_of_data, Cache_reset, Router_key, Error_report, spelling}
use Rattle.rtr_codec.specs.PduStream.{Item, WholePdu, FaultyPdu, pdus_from, unread_from}
use Rattle.rtr_codec.specs.Responses.{response, spellings}
use Rattle.rtr_cache.specs.CacheTable.{Conn, Shared, begins, closed, fails, first_refused, fresh_conn, hands_out, has_room, hears, hears_all, hears_fault, hears_item, hears_octets, hears_pdu, is_due, is_idle, is_news, notified, offered, other_session_answer, place_of, pumped, queued, queues, quoted_of, reset_query, serial_answer, serial_query, unless_busy, wants_notify}
use Rattle.rtr_cache.specs.declared.other_session.OtherSession.{OtherSession}
use Rattle.rtr_cache.specs.declared.other_session.OtherSession.TheVariants.{Report, Reset}
use Rattle.rtr_cache.specs.HandedOut.{handing, nothing_handed}
use Rattle.rtr_cache.specs.Telling.{Alone, AnswersItem, AnswersItems, AnswersReset, AnswersSerial, AreAside, IsNotified, SaysWhole, Told, Whole, all_pdus, pdus_of}
use Rattle.vrp_delta.specs.Versions.{Version, newest_serial, version_of}
use Rattle.rtr_cache.proofs.HandingOut.{handing-append}

cases_bool : (b : Bool) → (b ≡ true) ⊎ (b ≡ false)
cases_bool true = inl refl
cases_bool false = inr refl

-- where ring, response and openness are the same so is what is said
pub same_says :
    (gone : List ℕ) (told : List Told) (a b : Conn) → a.ring ≡ b.ring → a.left ≡ b.left → a.is_open ≡ b.is_open → a.handed ≡ b.handed → SaysWhole gone told a → SaysWhole gone told b
same_says gone told a b ring left is_open handed h = record {
  said = h.said;
  unsaid = h.unsaid;
  last = h.last;
  octets_are = ap (λ (x : List ℕ). gone ++ x) (sym ring) ∙ h.octets_are;
  parts = h.parts;
  while_open = λ o. ((h.while_open (is_open ∙ o)).0 ∙ left, (h.while_open (is_open ∙ o)).1);
  when_closed = λ c. sym left ∙ h.when_closed (is_open ∙ c);
  last_word = h.last_word;
  read = sym handed ∙ h.read;
}

-- a client that has just come up
pub says_fresh : SaysWhole [] [] fresh_conn
says_fresh = record { said = []; unsaid = []; last = []; octets_are = refl; parts = refl; while_open = λ o. (refl, refl); when_closed = λ c. refl; last_word = inl refl; read = refl }

-- octets are handed out
pub says_taken : (gone : List ℕ) (told : List Told) (conn : Conn) (count : ℕ) → SaysWhole gone told conn → SaysWhole (gone ++ take count conn.ring) told (hands_out count conn)
says_taken gone told conn count h = record {
  said = h.said;
  unsaid = h.unsaid;
  last = h.last;
  octets_are = append_assoc gone (take count conn.ring) (drop count conn.ring) ∙ (ap (λ (x : List ℕ). gone ++ x) (take-append-drop count conn.ring) ∙ h.octets_are);
  parts = h.parts;
  while_open = h.while_open;
  when_closed = h.when_closed;
  last_word = h.last_word;
  read = ap (handing (take count conn.ring)) h.read ∙ sym (handing-append gone (take count conn.ring) nothing_handed);
}

-- one PDU more is queued
spellings_more : (said : List Content) (content : Content) → spellings (said ++ content ∷ []) ≡ spellings said ++ spelling content
spellings_more said content = flat_map-append spelling said (content ∷ []) ∙ ap (λ (x : List ℕ). spellings said ++ x) (append-nil (spelling content))

one_more :
    (gone ring : List ℕ) (said last : List Content) (content : Content) → gone ++ ring ≡ spellings (said ++ last) → last ≡ []
    → gone ++ (ring ++ spelling content) ≡ spellings (said ++ content ∷ [])
one_more gone ring said last content h none =
    sym (append_assoc gone ring (spelling content))
    ∙ (ap (λ (x : List ℕ). x ++ spelling content) (h ∙ (ap (λ (x : List Content). spellings (said ++ x)) none ∙ ap spellings (append-nil said)))
    ∙ sym (spellings_more said content))

-- what is left is queued while there is room
next_by :
    (gone : List ℕ) (told : List Told) (conn : Conn) (content : Content) (contents : List Content) → SaysWhole gone told (record conn { left = content ∷ contents })
    → (conn.is_open ≡ true) ⊎ (conn.is_open ≡ false) → SaysWhole gone told (record (queued conn content) { left = contents })
next_by gone told conn content contents h (inl is_open) =
    let at = h.while_open is_open in
    record {
      said = h.said ++ content ∷ [];
      unsaid = contents;
      last = [];
      octets_are = one_more gone conn.ring h.said h.last content h.octets_are at.1 ∙ ap spellings (sym (append-nil (h.said ++ content ∷ [])));
      parts = append_assoc h.said (content ∷ []) contents ∙ (ap (λ (x : List Content). h.said ++ x) (sym at.0) ∙ h.parts);
      while_open = λ o. (refl, refl);
      when_closed = λ c. absurd (not_both conn.is_open is_open c);
      last_word = inl refl;
      read = h.read;
    }
  where
    not_both : (b : Bool) → b ≡ true → b ≡ false → ⊥
    not_both b t f = cc
next_by gone told conn content contents h (inr is_closed) = absurd (not_nil content contents (h.when_closed is_closed))
  where
    not_nil : (c : Content) (cs : List Content) → c ∷ cs ≡ [] → ⊥
    not_nil c cs e = cc

says_if : (gone : List ℕ) (told : List Told) (b : Bool) (x y : Conn) → SaysWhole gone told x → SaysWhole gone told y → SaysWhole gone told (if b then x else y)
says_if gone told true x y h k = h
says_if gone told false x y h k = k

says_queues :
    (gone : List ℕ) (told : List Told) (conn : Conn) (contents : List Content) → SaysWhole gone told (record conn { left = contents }) → SaysWhole gone told (queues conn contents)
says_queues gone told conn [] h = h
says_queues gone told conn (content ∷ contents) h =
    says_if gone told (has_room conn.ring) (queues (queued conn content) contents) (record conn { left = content ∷ contents })
    (says_queues gone told (queued conn content) contents (next_by gone told conn content contents h (cases_bool conn.is_open)))
    h

pub says_pumped : (gone : List ℕ) (told : List Told) (conn : Conn) → SaysWhole gone told conn → SaysWhole gone told (pumped conn)
says_pumped gone told conn h = says_queues gone told conn conn.left (same_says gone told conn (record conn { left = conn.left }) refl refl refl refl h)

-- the connection closes
says_closed : (gone : List ℕ) (told : List Told) (conn : Conn) → SaysWhole gone told conn → SaysWhole gone told (closed conn)
says_closed gone told conn h = record {
  said = h.said;
  unsaid = h.unsaid;
  last = h.last;
  octets_are = h.octets_are;
  parts = h.parts;
  while_open = λ o. absurd cc;
  when_closed = λ c. refl;
  last_word = h.last_word;
  read = h.read;
}

says_fails : (gone : List ℕ) (told : List Told) (conn : Conn) (code : ErrorCode) (quoted : List ℕ) → conn.is_open ≡ true → SaysWhole gone told conn → SaysWhole gone told (fails conn code quoted)
says_fails gone told conn code quoted is_open h = record {
  said = h.said;
  unsaid = h.unsaid;
  last = Error_report (number_of code) quoted ∷ [];
  octets_are = one_more gone conn.ring h.said h.last (Error_report (number_of code) quoted) h.octets_are (h.while_open is_open).1;
  parts = h.parts;
  while_open = λ o. absurd cc;
  when_closed = λ c. refl;
  last_word = inr (number_of code, quoted, refl);
  read = h.read;
}

-- what a call tells, and what is said behind it
pub record Tells (allowed : List Told → Type 0) (gone : List ℕ) (told : List Told) (after : Conn) : Type 0 where
  pub now : List Told
  pub is_allowed : allowed now
  pub says : SaysWhole gone (told ++ now) after

pub nothing_more : (gone : List ℕ) (told : List Told) (conn : Conn) → SaysWhole gone told conn → SaysWhole gone (told ++ []) conn
nothing_more gone told conn h = subst (λ (x : List Told). SaysWhole gone x conn) (sym (append-nil told)) h

tells_nothing : (allowed : List Told → Type 0) (gone : List ℕ) (told : List Told) (conn : Conn) → allowed [] → SaysWhole gone told conn → Tells allowed gone told conn
tells_nothing allowed gone told conn is h = record { now = []; is_allowed = is; says = nothing_more gone told conn h }

all_more : (told now : List Told) → all_pdus (told ++ now) ≡ all_pdus told ++ all_pdus now
all_more told now = flat_map-append pdus_of told now

-- an answer of one PDU where no response is in progress
queued_alone :
    (gone : List ℕ) (told : List Told) (conn : Conn) (content : Content) → conn.is_open ≡ true → conn.left ≡ [] → SaysWhole gone told conn
    → SaysWhole gone (told ++ Alone content ∷ []) (record conn { ring = conn.ring ++ spelling content })
queued_alone gone told conn content is_open idle h =
    let at = h.while_open is_open in
    let none : h.unsaid ≡ [] = at.0 ∙ idle in
    let all : h.said ≡ all_pdus told = sym (append-nil h.said) ∙ (ap (λ (x : List Content). h.said ++ x) (sym none) ∙ h.parts) in
    record {
      said = h.said ++ content ∷ [];
      unsaid = [];
      last = [];
      octets_are = one_more gone conn.ring h.said h.last content h.octets_are at.1 ∙ ap spellings (sym (append-nil (h.said ++ content ∷ [])));
      parts = append-nil (h.said ++ content ∷ []) ∙ (ap (λ (x : List Content). x ++ content ∷ []) all ∙ sym (all_more told (Alone content ∷ [])));
      while_open = λ o. (sym idle, refl);
      when_closed = λ c. idle;
      last_word = inl refl;
      read = h.read;
    }

tells_answer_if :
    (allowed : List Told → Type 0) (gone : List ℕ) (told : List Told) (conn : Conn) (content : Content) (b : Bool) → conn.is_open ≡ true → conn.left ≡ [] → allowed [] → allowed (Alone content ∷ [])
    → SaysWhole gone told conn → Tells allowed gone told (if b then record conn { ring = conn.ring ++ spelling content } else closed conn)
tells_answer_if allowed gone told conn content true is_open idle none one h = record { now = Alone content ∷ []; is_allowed = one; says = queued_alone gone told conn content is_open idle h }
tells_answer_if allowed gone told conn content false is_open idle none one h = tells_nothing allowed gone told (closed conn) none (says_closed gone told conn h)

tells_begins :
    (allowed : List Told → Type 0) (gone : List ℕ) (told : List Told) (conn : Conn) (refused : Bool) (session : ℕ) (intervals : Intervals) (version : Version) (old : List Vrp)
    → conn.is_open ≡ true → conn.left ≡ [] → allowed [] → allowed (Whole session intervals version old ∷ [])
    → SaysWhole gone told conn → Tells allowed gone told (begins refused conn (response session intervals version old))
tells_begins allowed gone told conn true session intervals version old is_open idle none one h =
    tells_nothing allowed gone told (fails conn InternalError []) none (says_fails gone told conn InternalError [] is_open h)
tells_begins allowed gone told conn false session intervals version old is_open idle none one h =
    let at = h.while_open is_open in
    let nothing : h.unsaid ≡ [] = at.0 ∙ idle in
    let all : h.said ≡ all_pdus told = sym (append-nil h.said) ∙ (ap (λ (x : List Content). h.said ++ x) (sym nothing) ∙ h.parts) in
    let contents = response session intervals version old in
    record {
      now = Whole session intervals version old ∷ [];
      is_allowed = one;
      says = record {
        said = h.said;
        unsaid = contents;
        last = h.last;
        octets_are = h.octets_are;
        parts = ap (λ (x : List Content). x ++ contents) all
            ∙ (ap (λ (x : List Content). all_pdus told ++ x) (sym (append-nil contents)) ∙ sym (all_more told (Whole session intervals version old ∷ [])));
        while_open = λ o. (refl, at.1);
        when_closed = λ c. absurd (not_both conn.is_open is_open c);
        last_word = h.last_word;
        read = h.read;
      };
    }
  where
    not_both : (b : Bool) → b ≡ true → b ≡ false → ⊥
    not_both b t f = cc

aside_none : AreAside []
aside_none = inl refl

-- a query where no response is in progress
tells_serial_answer :
    (shared : Shared) (refused : Bool) (gone : List ℕ) (told : List Told) (conn : Conn) (serial : ℕ) (newest : Version) (older : List Version) (found : Option Version)
    → version_of (newest ∷ older) serial ≡ found → conn.is_open ≡ true → conn.left ≡ [] → SaysWhole gone told conn
    → Tells (AnswersSerial shared serial (newest ∷ older)) gone told (serial_answer shared refused conn newest found)
tells_serial_answer shared refused gone told conn serial newest older None is is_open idle h =
    tells_answer_if (AnswersSerial shared serial (newest ∷ older)) gone told conn Cache_reset (has_room conn.ring) is_open idle (inl aside_none) (inl (inr (Cache_reset, tt, refl))) h
tells_serial_answer shared refused gone told conn serial newest older (Some old) is is_open idle h =
    tells_begins (AnswersSerial shared serial (newest ∷ older)) gone told conn refused shared.session shared.intervals newest old.set is_open idle (inl aside_none) (inr (old, is, refl)) h

tells_other_session :
    (shared : Shared) (gone : List ℕ) (told : List Told) (conn : Conn) (octets : List ℕ) (serial : ℕ) (newest : Version) (older : List Version) (other_session : OtherSession)
    → conn.is_open ≡ true → conn.left ≡ [] → SaysWhole gone told conn
    → Tells (AnswersSerial shared serial (newest ∷ older)) gone told (other_session_answer other_session conn octets)
tells_other_session shared gone told conn octets serial newest older Report is_open idle h =
    tells_nothing (AnswersSerial shared serial (newest ∷ older)) gone told (fails conn CorruptData (quoted_of octets)) (inl aside_none) (says_fails gone told conn CorruptData (quoted_of octets) is_open h)
tells_other_session shared gone told conn octets serial newest older Reset is_open idle h =
    tells_answer_if (AnswersSerial shared serial (newest ∷ older)) gone told conn Cache_reset (has_room conn.ring) is_open idle (inl aside_none) (inl (inr (Cache_reset, tt, refl))) h

tells_if :
    (allowed : List Told → Type 0) (gone : List ℕ) (told : List Told) (b : Bool) (x y : Conn) → Tells allowed gone told x → Tells allowed gone told y → Tells allowed gone told (if b then x else y)
tells_if allowed gone told true x y h k = h
tells_if allowed gone told false x y h k = k

tells_serial :
    (shared : Shared) (refused : Bool) (gone : List ℕ) (told : List Told) (conn : Conn) (octets : List ℕ) (session serial : ℕ) (kept : List Version)
    → conn.is_open ≡ true → conn.left ≡ [] → SaysWhole gone told conn → Tells (AnswersSerial shared serial kept) gone told (serial_query shared refused conn octets session serial kept)
tells_serial shared refused gone told conn octets session serial [] is_open idle h =
    tells_answer_if (AnswersSerial shared serial []) gone told conn (Error_report (number_of NoDataAvailable) (quoted_of octets)) (has_room conn.ring) is_open idle aside_none (inr (Error_report (number_of NoDataAvailable) (quoted_of octets), tt, refl)) h
tells_serial shared refused gone told conn octets session serial (newest ∷ older) is_open idle h =
    tells_if (AnswersSerial shared serial (newest ∷ older)) gone told (session == shared.session) _ _
    (tells_serial_answer shared refused gone told conn serial newest older (version_of (newest ∷ older) serial) refl is_open idle h)
    (tells_other_session shared gone told conn octets serial newest older shared.other_session is_open idle h)

tells_reset :
    (shared : Shared) (refused : Bool) (gone : List ℕ) (told : List Told) (conn : Conn) (octets : List ℕ) (kept : List Version)
    → conn.is_open ≡ true → conn.left ≡ [] → SaysWhole gone told conn → Tells (AnswersReset shared kept) gone told (reset_query shared refused conn octets kept)
tells_reset shared refused gone told conn octets [] is_open idle h =
    tells_answer_if (AnswersReset shared []) gone told conn (Error_report (number_of NoDataAvailable) (quoted_of octets)) (has_room conn.ring) is_open idle aside_none (inr (Error_report (number_of NoDataAvailable) (quoted_of octets), tt, refl)) h
tells_reset shared refused gone told conn octets (newest ∷ older) is_open idle h =
    tells_begins (AnswersReset shared (newest ∷ older)) gone told conn refused shared.session shared.intervals newest [] is_open idle (inl aside_none) (inr refl) h

-- a query while a response is in progress
tells_unless_busy :
    (allowed : List Told → Type 0) (gone : List ℕ) (told : List Told) (left : List Content) (busy idle : Conn) → Tells allowed gone told busy → (left ≡ [] → Tells allowed gone told idle)
    → Tells allowed gone told (unless_busy left busy idle)
tells_unless_busy allowed gone told [] busy idle h k = k refl
tells_unless_busy allowed gone told (content ∷ contents) busy idle h k = h

no_serial : (shared : Shared) (serial : ℕ) (kept : List Version) → AnswersSerial shared serial kept []
no_serial shared serial [] = aside_none
no_serial shared serial (newest ∷ older) = inl aside_none

no_reset : (shared : Shared) (kept : List Version) → AnswersReset shared kept []
no_reset shared [] = aside_none
no_reset shared (newest ∷ older) = inl aside_none

-- nothing is told to no PDU
nothing_to_pdu : (shared : Shared) (octets : List ℕ) (content : Content) → AnswersItem shared (WholePdu content octets) []
nothing_to_pdu shared octets (Serial_query session serial) = no_serial shared serial (offered shared)
nothing_to_pdu shared octets Reset_query = no_reset shared (offered shared)
nothing_to_pdu shared octets content = refl

pub nothing_to : (shared : Shared) (item : Item) → AnswersItem shared item []
nothing_to shared (WholePdu content octets) = nothing_to_pdu shared octets content
nothing_to shared (FaultyPdu fault octets) = refl

fails_pdu :
    (shared : Shared) (gone : List ℕ) (told : List Told) (conn : Conn) (code : ErrorCode) (octets quoted : List ℕ) (content : Content) → conn.is_open ≡ true → SaysWhole gone told conn
    → Tells (AnswersItem shared (WholePdu content octets)) gone told (fails conn code quoted)
fails_pdu shared gone told conn code octets quoted content is_open h =
    tells_nothing (AnswersItem shared (WholePdu content octets)) gone told (fails conn code quoted) (nothing_to_pdu shared octets content) (says_fails gone told conn code quoted is_open h)

tells_pdu :
    (shared : Shared) (refused : Bool) (gone : List ℕ) (told : List Told) (conn : Conn) (octets : List ℕ) (content : Content) → conn.is_open ≡ true → SaysWhole gone told conn
    → Tells (AnswersItem shared (WholePdu content octets)) gone told (hears_pdu shared refused conn octets content)
tells_pdu shared refused gone told conn octets (Error_report code quoted) is_open h =
    tells_nothing (AnswersItem shared (WholePdu (Error_report code quoted) octets)) gone told (closed conn) refl (says_closed gone told conn h)
tells_pdu shared refused gone told conn octets (Serial_query session serial) is_open h =
    tells_unless_busy (AnswersSerial shared serial (offered shared)) gone told conn.left _ _
    (fails_pdu shared gone told conn InvalidRequest octets (quoted_of octets) (Serial_query session serial) is_open h)
    (λ idle. tells_serial shared refused gone told conn octets session serial (offered shared) is_open idle h)
tells_pdu shared refused gone told conn octets Reset_query is_open h =
    tells_unless_busy (AnswersReset shared (offered shared)) gone told conn.left _ _
    (fails_pdu shared gone told conn InvalidRequest octets (quoted_of octets) Reset_query is_open h)
    (λ idle. tells_reset shared refused gone told conn octets (offered shared) is_open idle h)
tells_pdu shared refused gone told conn octets (Serial_notify session serial) is_open h = fails_pdu shared gone told conn InvalidRequest octets (quoted_of octets) (Serial_notify session serial) is_open h
tells_pdu shared refused gone told conn octets (Cache_response session) is_open h = fails_pdu shared gone told conn InvalidRequest octets (quoted_of octets) (Cache_response session) is_open h
tells_pdu shared refused gone told conn octets (Announce payload) is_open h = fails_pdu shared gone told conn InvalidRequest octets (quoted_of octets) (Announce payload) is_open h
tells_pdu shared refused gone told conn octets (Withdraw payload) is_open h = fails_pdu shared gone told conn InvalidRequest octets (quoted_of octets) (Withdraw payload) is_open h
tells_pdu shared refused gone told conn octets (Ipv6_prefix body) is_open h = fails_pdu shared gone told conn InvalidRequest octets (quoted_of octets) (Ipv6_prefix body) is_open h
tells_pdu shared refused gone told conn octets (End_of_data session serial intervals) is_open h = fails_pdu shared gone told conn InvalidRequest octets (quoted_of octets) (End_of_data session serial intervals) is_open h
tells_pdu shared refused gone told conn octets Cache_reset is_open h = fails_pdu shared gone told conn InvalidRequest octets (quoted_of octets) Cache_reset is_open h
tells_pdu shared refused gone told conn octets (Router_key body) is_open h = fails_pdu shared gone told conn InvalidRequest octets (quoted_of octets) (Router_key body) is_open h

tells_fault :
    (shared : Shared) (gone : List ℕ) (told : List Told) (conn : Conn) (octets : List ℕ) (fault : PduFault) → conn.is_open ≡ true → SaysWhole gone told conn
    → Tells (AnswersItem shared (FaultyPdu fault octets)) gone told (hears_fault conn octets fault)
tells_fault shared gone told conn octets Unanswered is_open h = tells_nothing (AnswersItem shared (FaultyPdu Unanswered octets)) gone told (closed conn) refl (says_closed gone told conn h)
tells_fault shared gone told conn octets (Header code) is_open h =
    tells_nothing (AnswersItem shared (FaultyPdu (Header code) octets)) gone told (fails conn code (quoted_of octets)) refl (says_fails gone told conn code (quoted_of octets) is_open h)
tells_fault shared gone told conn octets Payload is_open h =
    tells_nothing (AnswersItem shared (FaultyPdu Payload octets)) gone told (fails conn CorruptData (quoted_of octets)) refl (says_fails gone told conn CorruptData (quoted_of octets) is_open h)

tells_item :
    (shared : Shared) (refused : Bool) (gone : List ℕ) (told : List Told) (conn : Conn) (item : Item) → conn.is_open ≡ true → SaysWhole gone told conn
    → Tells (AnswersItem shared item) gone told (hears_item shared refused conn item)
tells_item shared refused gone told conn (WholePdu content octets) is_open h = tells_pdu shared refused gone told conn octets content is_open h
tells_item shared refused gone told conn (FaultyPdu fault octets) is_open h = tells_fault shared gone told conn octets fault is_open h

-- a choice by whether the connection is open
tells_by_open :
    (allowed : List Told → Type 0) (gone : List ℕ) (told : List Told) (b : Bool) (x y : Conn) → (b ≡ true → Tells allowed gone told x) → Tells allowed gone told y → Tells allowed gone told (if b then x else y)
tells_by_open allowed gone told true x y h k = h refl
tells_by_open allowed gone told false x y h k = k

tells_hears :
    (shared : Shared) (refused : Bool) (gone : List ℕ) (told : List Told) (conn : Conn) (item : Item) → SaysWhole gone told conn
    → Tells (AnswersItem shared item) gone told (hears shared refused conn item)
tells_hears shared refused gone told conn item h =
    tells_by_open (AnswersItem shared item) gone told conn.is_open _ conn
    (λ is_open. tells_item shared refused gone told (record conn { is_first = false }) item is_open (same_says gone told conn (record conn { is_first = false }) refl refl refl refl h))
    (tells_nothing (AnswersItem shared item) gone told conn (nothing_to shared item) h)

-- PDUs one after another
tells_all :
    (shared : Shared) (refused : List Bool) (gone : List ℕ) (told : List Told) (conn : Conn) (items : List Item) → SaysWhole gone told conn
    → Tells (AnswersItems shared items) gone told (hears_all shared refused conn items)
tells_all shared refused gone told conn [] h = tells_nothing (AnswersItems shared []) gone told conn refl h
tells_all shared refused gone told conn (item ∷ items) h =
    let here = tells_hears shared (first_refused refused) gone told conn item h in
    let later = tells_all shared (drop 1 refused) gone (told ++ here.now) (hears shared (first_refused refused) conn item) items here.says in
    record {
      now = here.now ++ later.now;
      is_allowed = (here.now, later.now, refl, here.is_allowed, later.is_allowed);
      says = subst (λ (x : List Told). SaysWhole gone x (hears_all shared (drop 1 refused) (hears shared (first_refused refused) conn item) items)) (append_assoc told here.now later.now) later.says;
    }

nothing_to_all : (shared : Shared) (items : List Item) → AnswersItems shared items []
nothing_to_all shared [] = refl
nothing_to_all shared (item ∷ items) = ([], [], refl, nothing_to shared item, nothing_to_all shared items)

-- octets that come
pub tells_octets :
    (shared : Shared) (refused : List Bool) (gone : List ℕ) (told : List Told) (conn : Conn) (octets : List ℕ) → SaysWhole gone told conn
    → Tells (AnswersItems shared (pdus_from (place_of conn) conn.unread octets)) gone told (pumped (hears_octets shared refused conn octets))
tells_octets shared refused gone told conn octets h =
    let items = pdus_from (place_of conn) conn.unread octets in
    let before : Conn = record conn { unread = unread_from (place_of conn) conn.unread octets } in
    let heard : Tells (AnswersItems shared (pdus_from (place_of conn) conn.unread octets)) gone told (hears_octets shared refused conn octets) =
    tells_by_open (AnswersItems shared (pdus_from (place_of conn) conn.unread octets)) gone told conn.is_open (hears_all shared refused before items) conn
    (λ is_open. tells_all shared refused gone told before items (same_says gone told conn before refl refl refl refl h))
    (tells_nothing (AnswersItems shared (pdus_from (place_of conn) conn.unread octets)) gone told conn (nothing_to_all shared items) h) in
    record { now = heard.now; is_allowed = heard.is_allowed; says = says_pumped gone (told ++ heard.now) (hears_octets shared refused conn octets) heard.says }

-- a Serial Notify
not_true : (b : Bool) → not b ≡ true → b ≡ false
not_true true h = absurd cc
not_true false h = refl

idle_is : (left : List Content) → is_idle left ≡ true → left ≡ []
idle_is [] h = refl
idle_is (content ∷ contents) h = absurd cc

tells_notify_if :
    (shared : Shared) (gone : List ℕ) (told : List Told) (conn : Conn) (b : Bool) → (b ≡ true → (conn.is_open ≡ true) × (conn.left ≡ []) × (shared.withdrawn ≡ false)) → SaysWhole gone told conn
    → Tells (IsNotified shared) gone told (if b then record (queued conn (Serial_notify shared.session (newest_serial shared.kept))) { notified = Some shared.now } else conn)
tells_notify_if shared gone told conn true may h =
    let content = Serial_notify shared.session (newest_serial shared.kept) in
    record {
      now = Alone content ∷ [];
      is_allowed = inr ((may refl).2, refl);
      says = same_says gone (told ++ Alone content ∷ []) (record conn { ring = conn.ring ++ spelling content }) (record (queued conn content) { notified = Some shared.now }) refl refl refl refl (queued_alone gone told conn content (may refl).0 (may refl).1 h);
    }
tells_notify_if shared gone told conn false may h = tells_nothing (IsNotified shared) gone told conn (inl refl) h

pub tells_notify : (shared : Shared) (gone : List ℕ) (told : List Told) (conn : Conn) → SaysWhole gone told conn → Tells (IsNotified shared) gone told (pumped (notified shared conn))
tells_notify shared gone told conn h =
    let heard = tells_notify_if shared gone told conn (wants_notify shared conn)
    (λ wants.
    let first = and_parts conn.is_open (not shared.withdrawn && (is_news shared.kept conn.told && (is_idle conn.left && (is_due shared.now conn.notified && has_room conn.ring)))) wants in
    let served = and_parts (not shared.withdrawn) (is_news shared.kept conn.told && (is_idle conn.left && (is_due shared.now conn.notified && has_room conn.ring))) first.1 in
    let second = and_parts (is_news shared.kept conn.told) (is_idle conn.left && (is_due shared.now conn.notified && has_room conn.ring)) served.1 in
    let third = and_parts (is_idle conn.left) (is_due shared.now conn.notified && has_room conn.ring) second.1 in
    (first.0, idle_is conn.left third.0, not_true shared.withdrawn served.0)) h in
    record { now = heard.now; is_allowed = heard.is_allowed; says = says_pumped gone (told ++ heard.now) (notified shared conn) heard.says }
