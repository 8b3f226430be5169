-- The books of a client: sets that are kept as changes of what they started from.
use Rattle.std.proofs.Common.{◌≡◌, ◌≢◌, Bool, true, false, not, ◌||◌, List, [], ◌∷◌, Option, Some, None, Result, Ok, Err, ap, sym, refl, ◌∙◌, inl, inr}
use Rattle.std.specs.BTreeMap.{is_at}
use Rattle.std.specs.Result.{OnErr}
use Rattle.std.specs.Cmp.{Equal-is}
use Rattle.net_prefix.specs.declared.payload.Vrp.{Vrp}
use Rattle.net_prefix.specs.PayloadOrder.{payload_cmp}
use Rattle.net_prefix.specs.PayloadSets.{IsPayloadSet, has}
use Rattle.net_prefix.proofs.PayloadSets.{payload_cmp_exact}
use Rattle.vrp_delta.specs.Delta.{Change, change_between}
use Rattle.vrp_delta.specs.Keeping.{IsChangeOf, no_change}
use Rattle.vrp_delta.specs.Versions.{is_same_set}
use Rattle.vrp_delta.proofs.Published.{same_set-Decides}
use Rattle.rtr_codec.specs.ClientState as table
use Rattle.rtr_client.specs.declared.payloads.Base.{Base}
use Rattle.rtr_client.specs.Book.{Book, IsTold, base_of, loaded_from, start_of}
use Rattle.rtr_client.specs.Following.{has_more, wants_memory}
pub use Rattle.vrp_delta.proofs.Staged.{Moves, applied-loaded, at_each, at_itself, came-back, came-put, change_between-fits, change_between-loaded, change_between-nothing, change_between-same, either_right, empty_rises, fits_leave, fits_out, fits_put, fits_put_back, has-loaded, has_case, lacked-nothing, lacks_case, left-again, left-out, load_leave, load_out, load_put, load_put_back, loaded-announced, loaded-change_between, loaded-from_none, loaded-started, loaded-withdrawn, loaded_from-is_set, loaded_from-nothing, moved_alike, no_change-fits, out-moves, put-moves}

pub payloads_of-base : (base : Option Base) (payloads : List Vrp) → (base ≡ None → payloads ≡ []) → table.payloads_of (base_of base payloads) ≡ payloads
payloads_of-base None payloads flushed = sym (flushed refl)
payloads_of-base (Some base) payloads flushed = refl

-- what a load starts from is a set
pub start_of-is_set : (serially : Bool) (payloads : List Vrp) → IsPayloadSet payloads → IsPayloadSet (start_of serially payloads)
start_of-is_set true payloads h = h
start_of-is_set false payloads h = empty_rises

-- where nothing was told before, what is told is what changed
pub told-change : (old new : Book) → old.changed ≡ no_change → IsTold old new
    → new.changed ≡ change_between (table.payloads_of old.base) (table.payloads_of new.base)
told-change old new forgotten (inl same) =
    same.1 ∙ forgotten ∙ sym (ap (λ set. change_between (table.payloads_of old.base) set) same.0 ∙ change_between-same (table.payloads_of old.base))
told-change old new forgotten (inr told) = told

-- ---- what a load brings

more_beside : (b : Bool) (p x : Vrp) (other : List Vrp) (more : Bool) → is_at (payload_cmp p) x ≡ b → has other p ≡ false → (b ≡ false → more ≡ true) → (not (has other x) || more) ≡ true
more_beside true p x other more e lacks beside = rw (sym (payload_cmp_exact p x ((Equal-is (payload_cmp p x)).0 e)), lacks) refl
more_beside false p x other more e lacks beside = either_right (not (has other x)) more (beside refl)

in_rest : (b : Bool) (a : Bool) → (a || b) ≡ true → a ≡ false → b ≡ true
in_rest b true h k = cc
in_rest b false h k = h

-- a payload of a set that another lacks is one
pub more_found : (set other : List Vrp) (p : Vrp) → has set p ≡ true → has other p ≡ false → has_more set other ≡ true
more_found [] other p h lacks = cc
more_found (x ∷ xs) other p h lacks =
    more_beside (is_at (payload_cmp p) x) p x other (has_more xs other) refl lacks (λ e. more_found xs other p (in_rest (has xs p) (is_at (payload_cmp p) x) h e) lacks)

more_in : (start : List Vrp) (change : Change) (announced : List Vrp) → change.announced ≡ announced → IsChangeOf start change → change.announced ≢ []
    → has_more (loaded_from start change) start ≡ true
more_in start change [] is fits some = absurd (some is)
more_in start change (p ∷ more) is fits some =
    let there : has change.announced p ≡ true = ap (λ l. has l p) is ∙ rw (at_itself p) refl in
    more_found (loaded_from start change) start p (loaded-announced start change p there) (fits.announces_unknown p there)

-- a load that announces anything brings a payload that it didn't start from
pub announced_more : (start : List Vrp) (change : Change) → IsChangeOf start change → change.announced ≢ [] → has_more (loaded_from start change) start ≡ true
announced_more start change fits some = more_in start change change.announced refl fits some

-- a payload that the load lacks and that hasn't left it is none that the load started from
pub came_anew : (p : Vrp) (start : List Vrp) (load : Change) → has (loaded_from start load) p ≡ false → has load.withdrawn p ≡ false → has start p ≡ false
came_anew p start load other stays = lacks_case (has load.announced p) (has load.withdrawn p) (has start p) (sym (has-loaded start load p) ∙ other) stays

-- a payload that the load has and that hasn't come in it is one that the load started from
pub left_start : (p : Vrp) (start : List Vrp) (load : Change) → has (loaded_from start load) p ≡ true → has load.announced p ≡ false → has start p ≡ true
left_start p start load there other = has_case (has load.announced p) (has load.withdrawn p) (has start p) (sym (has-loaded start load p) ∙ there) other

pub on_err : {X Y P : Type 0} (result : Result X Y) → P → OnErr result P
on_err (Ok done) p = tt
on_err (Err refused) p = p

-- ---- a load that has just the payloads in force

nothing_case : (set other : List Vrp) → set ≡ other → no_change ≡ change_between other set
nothing_case set other same = sym (ap (λ s. change_between other s) same ∙ change_between-same other)

pub nothing_changes : (set other : List Vrp) → is_same_set set other ≡ true → no_change ≡ change_between other set
nothing_changes set other same = nothing_case set other ((same_set-Decides set other).0 same)

no_more : (set other : List Vrp) → ((q : Vrp) → has set q ≡ true → has other q ≡ true) → has_more set other ≡ false
no_more [] other within = refl
no_more (x ∷ xs) other within =
    let there : has other x ≡ true = within x (rw (at_itself x) refl) in
    rw there (no_more xs other (λ q h. within q (either_right (is_at (payload_cmp q) x) (has xs q) h)))

more_apart : (set other : List Vrp) (same : Bool) → is_same_set set other ≡ same → has_more set other ≡ true → not same ≡ true
more_apart set other false e more = refl
more_apart set other true e more =
    let alike : set ≡ other = (same_set-Decides set other).0 e in
    let none : has_more set other ≡ false = no_more set other (λ q h. sym (ap (λ s. has s q) alike) ∙ h) in
    cc

-- a load that brings a payload hasn't just those in force
pub more_wants : (serially : Bool) (set in_force : List Vrp) → has_more set in_force ≡ true → wants_memory serially set in_force ≡ true
more_wants true set in_force more = more
more_wants false set in_force more = more_apart set in_force (is_same_set set in_force) refl more
