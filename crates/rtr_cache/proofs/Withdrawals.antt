-- What a set that is withdrawn is to clients, and to the load behind it.
use Rattle.std.proofs.Common.{◌≡◌, ℕ, Bool, true, false, ◌&&◌, not, if◌then◌else◌, List, [], ◌∷◌, Ok, Err, Result, refl, ap, sym, ◌∙◌}
use Rattle.net_prefix.specs.declared.payload.Vrp.{Vrp}
use Rattle.rtr_codec.specs.PduFaults.{number_of}
use Rattle.rtr_codec.specs.PduSpelling.{Content, Error_report, Reset_query, Serial_query}
use Rattle.rtr_codec.specs.declared.fault.ErrorCode.TheVariants.{NoDataAvailable}
use Rattle.vrp_delta.specs.Versions.{Version, kept_after}
use Rattle.rtr_cache.specs.CacheState.{CacheState, client_at}
use Rattle.rtr_cache.specs.CacheTable.{Conn, Shared, answers, hears_pdu, is_due, is_idle, is_news, has_room, notified, offered, quoted_of, reset_query, serial_query, unless_busy}
use Rattle.rtr_cache.specs.ClientHistory.{Loaded, Makes, Withdrew}
use Rattle.rtr_cache.specs.declared.event.CacheReport.{CacheReport}
use Rattle.rtr_cache.specs.declared.refusal.CacheRefusal.{CacheRefusal}

none_offered : (withdrawn : Bool) (kept : List Version) → withdrawn ≡ true → (if withdrawn then [] else kept) ≡ []
none_offered true kept is = refl
none_offered false kept is = absurd cc

idle_one : (left : List Content) (busy idle : Conn) → left ≡ [] → unless_busy left busy idle ≡ idle
idle_one [] busy idle is = refl
idle_one (content ∷ contents) busy idle is = absurd cc

pub serial_answered : (shared : Shared) (refused : Bool) (conn : Conn) (octets : List ℕ) (session serial : ℕ) → shared.withdrawn ≡ true → conn.left ≡ [] → hears_pdu shared refused conn octets (Serial_query session serial) ≡ answers conn (Error_report (number_of NoDataAvailable) (quoted_of octets))
serial_answered shared refused conn octets session serial is idle =
    idle_one conn.left _ _ idle ∙ ap (λ (versions : List Version). serial_query shared refused conn octets session serial versions) (none_offered shared.withdrawn shared.kept is)

pub reset_answered : (shared : Shared) (refused : Bool) (conn : Conn) (octets : List ℕ) → shared.withdrawn ≡ true → conn.left ≡ [] → hears_pdu shared refused conn octets Reset_query ≡ answers conn (Error_report (number_of NoDataAvailable) (quoted_of octets))
reset_answered shared refused conn octets is idle =
    idle_one conn.left _ _ idle ∙ ap (λ (versions : List Version). reset_query shared refused conn octets versions) (none_offered shared.withdrawn shared.kept is)

unwanted : (is_open withdrawn rest : Bool) (x y : Conn) → withdrawn ≡ true → (if is_open && (not withdrawn && rest) then x else y) ≡ y
unwanted true true rest x y is = refl
unwanted false true rest x y is = refl
unwanted is_open false rest x y is = absurd cc

pub none_notified : (shared : Shared) (conn : Conn) → shared.withdrawn ≡ true → notified shared conn ≡ conn
none_notified shared conn is =
    unwanted conn.is_open shared.withdrawn (is_news shared.kept conn.told && (is_idle conn.left && (is_due shared.now conn.notified && has_room conn.ring))) _ conn is

pub clients_stay : (old new : CacheState) (result : Result CacheReport CacheRefusal) → Makes old (Withdrew result) new → (key : ℕ) → client_at new key ≡ client_at old key
clients_stay old new (Ok report) made key = ap (λ (cache : CacheState). client_at cache key) made.0.0
clients_stay old new (Err why) made key = absurd made.0

pub load_goes_on : (old mid new : CacheState) (result : Result CacheReport CacheRefusal) (set : List Vrp) (report : CacheReport) → Makes old (Withdrew result) mid → Makes mid (Loaded set (Ok report)) new → new.shared ≡ record old.shared { kept = kept_after old.shared.kept set; withdrawn = false }
load_goes_on old mid new (Ok told) set report withdrawn loaded =
    loaded.0.0 ∙ ap (λ (cache : CacheState). record cache.shared { kept = kept_after cache.shared.kept set; withdrawn = false }) withdrawn.0.0
load_goes_on old mid new (Err why) set report withdrawn loaded = absurd withdrawn.0
