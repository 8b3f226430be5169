-- What settings tell, they tell in one way.
use Rattle.std.proofs.Common.{◌≡◌, ◌≤◌, ◌<◌, ◌==◌, ◌++◌, ℕ, zero, suc, true, false, List, [], ◌∷◌, Option, None, Some, Err, nat_abs, length, take, get_or, get_or-take, length-take-le, refl, ap, sym, subst, ◌∙◌, arith, true≢false, codes, string_bytes}
use Rattle.std.proofs.lemmas.Option.{same_Some}
use Rattle.std.proofs.lemmas.List.Folds.{list_any_none}
use Rattle.std.proofs.NetLemmas.Theorems.{IsIpv4Text_unique}
use Rattle.std.specs.Net.Addr.{ipv4_bits}
use Rattle.std.specs.Net.Grammar.{IsIpv4Text}
use Rattle.std.specs.declared.net.ipv4_addr.Ipv4Addr.{Ipv4Addr}
use Rattle.std.specs.declared.net.socket_addr.SocketAddr.{SocketAddr as Address}
use Rattle.toml.specs.Data.{Data, Members, as_table, get_member}
use Rattle.toml.specs.View.{items_view, view}
use Rattle.toml.specs.declared.value.Value.{Value}
use Rattle.settings_keys.proofs.Faults.{TellsNothing}
use Rattle.settings_keys.specs.Causes.{IsBad, placed}
use Rattle.settings_keys.specs.declared.cause.SettingsPlace.{SettingsPlace}
use Rattle.settings_keys.specs.KnownKeys.{HasNoKeyBut}
use Rattle.settings_keys.specs.declared.cause.SettingsFault.{SettingsFault}
use Rattle.settings_keys.specs.declared.cause.SettingsFault.TheVariants.{Settings, NoMemory}
use Rattle.settings_keys.specs.Keys.{Answers, AnswersInMemory, IsAddress, IsNumber, IsText, IsTold, IsToldIfThere, IsToldOrUsual}
use Rattle.speaker_settings.specs.PeerSlots.{AreSlots, has_slot}
use Rattle.speaker_settings.specs.ToldSettings.{ArePeers, IsAsn, IsIdentifier, IsPeer, IsRetry, IsSeconds, IsSlot, IsTextOf, keys_of_a_peer}

pub no_asn : (o : Option Data) → TellsNothing (IsToldIfThere IsNumber o) → TellsNothing (IsTold IsAsn o)
no_asn None none asn told = told
no_asn (Some found) none asn told = none (Some asn.0) told.0

pub no_identifier : (o : Option Data) → TellsNothing (IsTold IsText o) → TellsNothing (IsTold IsIdentifier o)
no_identifier None none identifier told = told
no_identifier (Some found) none identifier told = none told.1.0 told.1.1

pub unspelled_identifier : (o : Option Data) (text : List ℕ) → IsTold IsText o text → TellsNothing (IsIpv4Text text) → TellsNothing (IsTold IsIdentifier o)
unspelled_identifier None text is none identifier told = told
unspelled_identifier (Some found) text is none identifier told = none told.0 (subst (λ (t : List ℕ). IsIpv4Text t told.0) (same_Some _ _ (sym told.1.1 ∙ is)) told.1.2)

pub no_string : (o : Option Data) → TellsNothing (IsTold IsText o) → TellsNothing (IsTold IsTextOf o)
no_string None none string told = told
no_string (Some found) none string told = none (string_bytes string) told

pub zero_identifier : (o : Option Data) (text : List ℕ) (address : Ipv4Addr) → IsTold IsText o text → IsIpv4Text text address → ipv4_bits address ≡ 0 → TellsNothing (IsTold IsIdentifier o)
zero_identifier None text address is spelled none identifier told = told
zero_identifier (Some found) text address is spelled none identifier told =
    let same_text : told.1.0 ≡ text = same_Some _ _ (sym told.1.1 ∙ is) in
    let same_address : told.0 ≡ address = IsIpv4Text_unique text told.0 address (subst (λ (t : List ℕ). IsIpv4Text t told.0) same_text told.1.2) spelled in
    let same : identifier ≡ 0 = told.2 ∙ ap ipv4_bits same_address ∙ none in
    absurd (omega (arith, told.3, same))

-- no number is no seconds, nor is 0
pub no_seconds : (o : Option Data) → TellsNothing (IsToldIfThere IsNumber o) → TellsNothing (IsToldIfThere IsSeconds o)
no_seconds None none value told = none value told
no_seconds (Some found) none None told = told
no_seconds (Some found) none (Some value) told = none (Some value) told.0

pub zero_seconds : (o : Option Data) → IsToldIfThere IsNumber o (Some 0) → TellsNothing (IsToldIfThere IsSeconds o)
zero_seconds None is value told = absurd cc
zero_seconds (Some found) is None told = told
zero_seconds (Some found) is (Some value) told =
    let same : value ≡ 0 = ap nat_abs (same_Some _ _ (sym told.0.0 ∙ is.0)) in
    absurd (omega (arith, same, told.1))

-- nor a Retry Interval, nor is one out of its bounds
pub no_retry : (o : Option Data) → TellsNothing (IsToldIfThere IsNumber o) → TellsNothing (IsToldIfThere IsRetry o)
no_retry None none value told = none value told
no_retry (Some found) none None told = told
no_retry (Some found) none (Some value) told = none (Some value) told.0

pub beyond_retry : (o : Option Data) (seconds : ℕ) → IsToldIfThere IsNumber o (Some seconds) → ((1 ≤ seconds) → (seconds ≤ 7200) → ⊥) → TellsNothing (IsToldIfThere IsRetry o)
beyond_retry None seconds is out value told = absurd cc
beyond_retry (Some found) seconds is out None told = told
beyond_retry (Some found) seconds is out (Some value) told =
    let same : value ≡ seconds = ap nat_abs (same_Some _ _ (sym told.0.0 ∙ is.0)) in
    out (omega (arith, same, told.1)) (omega (arith, same, told.2))

-- a key that tells nothing, and may lack
pub nothing_or_usual : (Is : Data → ℕ → Type 0) (usual : ℕ) (o : Option Data) → TellsNothing (IsToldIfThere Is o) → TellsNothing (IsToldOrUsual Is usual o)
nothing_or_usual Is usual None none value told = none None refl
nothing_or_usual Is usual (Some found) none value told = none (Some value) told

pub no_slot : (o : Option Data) → TellsNothing (IsToldIfThere IsNumber o) → TellsNothing (IsTold IsSlot o)
no_slot None none slot told = told
no_slot (Some found) none slot told = none (Some slot) told.0

slot_told : (o : Option Data) (a b : ℕ) → IsTold IsSlot o a → IsTold IsSlot o b → a ≡ b
slot_told None a b x y = absurd x
slot_told (Some found) a b x y = ap nat_abs (same_Some _ _ (sym x.0.0 ∙ y.0.0))

same_slot : (found : Data) (p q : ℕ × Address) → IsPeer found p → IsPeer found q → p.0 ≡ q.0
same_slot found p q x y =
    let tables : x.0 ≡ y.0 = same_Some _ _ (sym x.1 ∙ y.1) in
    slot_told (get_member (codes "slot") y.0) p.0 q.0 (subst (λ (t : Members). IsTold IsSlot (get_member (codes "slot") t) p.0) tables x.3) y.3

pub no_slot_of_peer : (found : Data) (table : Members) → Some table ≡ as_table found → TellsNothing (IsTold IsSlot (get_member (codes "slot") table)) → TellsNothing (IsPeer found)
no_slot_of_peer found table is none peer told =
    none peer.0 (subst (λ (t : Members). IsTold IsSlot (get_member (codes "slot") t) peer.0) (same_Some _ _ (sym told.1 ∙ sym is)) told.3)

pub no_remote_of_peer : (found : Data) (table : Members) → Some table ≡ as_table found → TellsNothing (IsTold IsAddress (get_member (codes "remote") table)) → TellsNothing (IsPeer found)
no_remote_of_peer found table is none peer told =
    none peer.1 (subst (λ (t : Members). IsTold IsAddress (get_member (codes "remote") t) peer.1) (same_Some _ _ (sym told.1 ∙ sym is)) told.4)

-- nor is a table of other keys one
pub no_other_keys : (found : Data) (table : Members) (peer : ℕ × Address) → Some table ≡ as_table found → IsPeer found peer → HasNoKeyBut keys_of_a_peer table
no_other_keys found table peer is told = subst (λ (t : Members). HasNoKeyBut keys_of_a_peer t) (same_Some _ _ (sym told.1 ∙ sym is)) told.2

-- bad settings, where nothing is told
pub bad_answers : {B : Type 0} (Needs : B → Type 0) (fault : SettingsFault) → IsBad fault → TellsNothing Needs → Answers Needs (Err fault)
bad_answers Needs (Settings place cause) bad none = none
bad_answers Needs NoMemory bad none = absurd bad

pub bad_in_memory : {B : Type 0} (Needs : B → Type 0) (fault : SettingsFault) → IsBad fault → TellsNothing Needs → AnswersInMemory Needs (Err fault)
bad_in_memory Needs (Settings place cause) bad none = none
bad_in_memory Needs NoMemory bad none = absurd bad

pub bad_placed : (place : SettingsPlace) (fault : SettingsFault) → IsBad fault → IsBad (placed place fault)
bad_placed place (Settings before cause) bad = tt
bad_placed place NoMemory bad = absurd bad

pub are_peers-push : (vs : List Value) (ps : List (ℕ × Address)) (v : Value) (p : ℕ × Address) → ArePeers (items_view vs) ps → IsPeer (view v) p → ArePeers (items_view (vs ++ v ∷ [])) (ps ++ p ∷ [])
are_peers-push [] [] v p are is = (is, tt)
are_peers-push [] (q ∷ ps) v p are is = absurd are
are_peers-push (w ∷ vs) [] v p are is = absurd are
are_peers-push (w ∷ vs) (q ∷ ps) v p are is = (are.0, are_peers-push vs ps v p are.1 is)

count_of : (vs : List Value) (ps : List (ℕ × Address)) → ArePeers (items_view vs) ps → length ps ≡ length vs
count_of [] [] are = refl
count_of [] (q ∷ ps) are = absurd are
count_of (w ∷ vs) [] are = absurd are
count_of (w ∷ vs) (q ∷ ps) are = ap suc (count_of vs ps are.1)

peer_at : (vs : List Value) (ps : List (ℕ × Address)) (k : ℕ) (d : Value) (e : ℕ × Address) → ArePeers (items_view vs) ps → k < length vs → IsPeer (view (get_or vs k d)) (get_or ps k e)
peer_at [] ps k d e are within = absurd (omega arith)
peer_at (w ∷ vs) [] k d e are within = absurd are
peer_at (w ∷ vs) (q ∷ ps) zero d e are within = are.0
peer_at (w ∷ vs) (q ∷ ps) (suc k) d e are within = peer_at vs ps k d e are.1 (omega arith)

-- a value that is no peer leaves none
pub no_peers : (vs : List Value) (k : ℕ) (d : Value) → k < length vs → TellsNothing (IsPeer (view (get_or vs k d))) → TellsNothing (ArePeers (items_view vs))
no_peers [] k d within none ps are = absurd (omega arith)
no_peers (w ∷ vs) k d within none [] are = are
no_peers (w ∷ vs) zero d within none (q ∷ ps) are = none q are.0
no_peers (w ∷ vs) (suc k) d within none (q ∷ ps) are = no_peers vs k d (omega arith) none ps are.1

-- nor does a slot that an earlier one has
pub twice : (vs : List Value) (i : ℕ) (d : Value) (ps : List (ℕ × Address)) (p : ℕ × Address) → i < length vs → ArePeers (items_view (take i vs)) ps → IsPeer (view (get_or vs i d)) p → has_slot ps p.0 ≡ true
    → (qs : List (ℕ × Address)) → ArePeers (items_view vs) qs → AreSlots qs → ⊥
twice vs i d ps p within are is has qs all slots = true≢false (sym has ∙ list_any_none (λ peer. peer.0 == p.0) ps other)
  where
    length_of : length ps ≡ i
    length_of = count_of (take i vs) ps are ∙ length-take-le i vs (omega arith)

    here : (e : ℕ × Address) → p.0 ≡ (get_or qs i e).0
    here e = same_slot (view (get_or vs i d)) p (get_or qs i e) is (peer_at vs qs i d e all within)

    earlier : (k : ℕ) (e : ℕ × Address) → k < i → (get_or ps k e).0 ≡ (get_or qs k e).0
    earlier k e before =
        let taken = peer_at (take i vs) ps k d e are (omega (arith, length-take-le i vs (omega arith))) in
        same_slot (view (get_or vs k d)) (get_or ps k e) (get_or qs k e) (rw (get_or-take i vs k d before) at taken) (peer_at vs qs k d e all (omega arith))

    other : (k : ℕ) (e : ℕ × Address) → k < length ps → ((get_or ps k e).0 == p.0) ≡ false
    other k e low =
        let before : k < i = omega (arith, length_of) in
        rw (earlier k e before, here e) (slots.once k i e before (omega (arith, count_of vs qs all)))

slot_below : (o : Option Data) (slot : ℕ) → IsTold IsSlot o slot → slot < 64
slot_below None slot told = absurd told
slot_below (Some found) slot told = told.1

pub slot_within : (found : Data) (p : ℕ × Address) → IsPeer found p → p.0 < 64
slot_within found p is = slot_below _ p.0 is.3
