-- What the timers of a tick say.
use Rattle.std.proofs.Common.{◌≡◌, ◌≤◌, ◌+◌, ◌⊎◌, ℕ, Bool, true, false, cond, Option, Some, None, inl, inr, refl, arith}
use Rattle.moments.specs.Moments.{has_come}
use Rattle.rtr_codec.specs.ClientTable.{Base, Client, Stage, Off, Opening, Asked_serial, Asked_reset, Waiting, Loading, Synced, asks_again, asks_from, becomes, expire_ends, expires, flushed, query_ends, refresh_ends, refreshes, reopen_ends, reopens, reopens_off}
use Rattle.rtr_codec.specs.PduSpelling.{Content}
use Rattle.rtr_client.specs.Laws.{TicksSayOne, said_count}

-- a query stands out
abbrev IsAsked : Stage → Type 0
IsAsked Off = ⊥
IsAsked Opening = ⊥
IsAsked Asked_serial = Unit {0}
IsAsked Asked_reset = Unit {0}
IsAsked Waiting = ⊥
IsAsked (Loading serially session set) = ⊥
IsAsked Synced = ⊥

one_at_most : (said : Option Content) → said_count said ≤ 1
one_at_most None = omega arith
one_at_most (Some content) = omega arith

asks_asked : (client : Client) (base : Option Base) → IsAsked (asks_from client base).client.stage
asks_asked client None = tt
asks_asked client (Some base) = tt

-- the expire timer says nothing, or a query stands out behind it
expired_stage : (stage : Stage) (now : ℕ) (client : Client) → ((expires stage now client).said ≡ None) ⊎ IsAsked (expires stage now client).client.stage
expired_stage Off now client = inl refl
expired_stage Opening now client = inl refl
expired_stage Asked_serial now client = inl refl
expired_stage Asked_reset now client = inl refl
expired_stage Waiting now client = inl refl
expired_stage (Loading true session set) now client = inl refl
expired_stage (Loading false session set) now client = inl refl
expired_stage Synced now client = inr tt

expired_by : (ended : Bool) (stage : Stage) (now : ℕ) (client : Client)
    → ((cond ended (expires stage now (flushed client)) (becomes client)).said ≡ None) ⊎ IsAsked (cond ended (expires stage now (flushed client)) (becomes client)).client.stage
expired_by true stage now client = expired_stage stage now (flushed client)
expired_by false stage now client = inl refl

-- so does the refresh timer, which says nothing where one stands out
refreshed_stage : (stage : Stage) (client : Client) → ((refreshes stage client).said ≡ None) ⊎ IsAsked (refreshes stage client).client.stage
refreshed_stage Off client = inl refl
refreshed_stage Opening client = inl refl
refreshed_stage Asked_serial client = inl refl
refreshed_stage Asked_reset client = inl refl
refreshed_stage Waiting client = inl refl
refreshed_stage (Loading serially session set) client = inl refl
refreshed_stage Synced client = inr (asks_asked client client.base)

refreshed_by : (ended : Bool) (stage : Stage) (client ticked : Client)
    → ((cond ended (refreshes stage ticked) (becomes client)).said ≡ None) ⊎ IsAsked (cond ended (refreshes stage ticked) (becomes client)).client.stage
refreshed_by true stage client ticked = refreshed_stage stage ticked
refreshed_by false stage client ticked = inl refl

still_asked : (ended : Bool) (stage : Stage) (client ticked : Client) → client.stage ≡ stage → ticked.stage ≡ stage → IsAsked stage
    → ((cond ended (refreshes stage ticked) (becomes client)).said ≡ None) × IsAsked (cond ended (refreshes stage ticked) (becomes client)).client.stage
still_asked true Asked_serial client ticked e f asked = (refl, rw f tt)
still_asked true Asked_reset client ticked e f asked = (refl, rw f tt)
still_asked false Asked_serial client ticked e f asked = (refl, rw e tt)
still_asked false Asked_reset client ticked e f asked = (refl, rw e tt)
still_asked ended Off client ticked e f asked = absurd asked
still_asked ended Opening client ticked e f asked = absurd asked
still_asked ended Waiting client ticked e f asked = absurd asked
still_asked ended (Loading serially session set) client ticked e f asked = absurd asked
still_asked ended Synced client ticked e f asked = absurd asked

-- the query timer says nothing where one stands out
silent : (ended : Bool) (stage : Stage) (client ticked : Client) → IsAsked stage → (cond ended (asks_again stage ticked) (becomes client)).said ≡ None
silent true Asked_serial client ticked asked = refl
silent true Asked_reset client ticked asked = refl
silent false stage client ticked asked = refl
silent true Off client ticked asked = absurd asked
silent true Opening client ticked asked = absurd asked
silent true Waiting client ticked asked = absurd asked
silent true (Loading serially session set) client ticked asked = absurd asked
silent true Synced client ticked asked = absurd asked

-- and the reopen timer says nothing
reopened_off : (closing : Bool) (now : ℕ) (client : Client) → (reopens_off closing now client).said ≡ None
reopened_off true now client = refl
reopened_off false now client = refl

reopened_by : (ended : Bool) (stage : Stage) (now : ℕ) (client ticked : Client) → (cond ended (reopens stage now ticked) (becomes client)).said ≡ None
reopened_by true Off now client ticked = reopened_off ticked.closing now ticked
reopened_by true Opening now client ticked = refl
reopened_by true Asked_serial now client ticked = refl
reopened_by true Asked_reset now client ticked = refl
reopened_by true Waiting now client ticked = refl
reopened_by true (Loading serially session set) now client ticked = refl
reopened_by true Synced now client ticked = refl
reopened_by false stage now client ticked = refl

reopen_silent : (now : ℕ) (client : Client) → (reopen_ends now client).said ≡ None
reopen_silent now client = reopened_by (has_come client.reopen now) client.stage now client (record client { reopen = None })

query_silent : (now : ℕ) (client : Client) → IsAsked client.stage → (query_ends now client).said ≡ None
query_silent now client asked = silent (has_come client.query now) client.stage client (record client { query = None }) asked

refresh_silent : (now : ℕ) (client : Client) → IsAsked client.stage → ((refresh_ends now client).said ≡ None) × IsAsked (refresh_ends now client).client.stage
refresh_silent now client asked = still_asked (has_come client.refresh now) client.stage client (record client { refresh = None }) refl refl asked

none_said : (said : Option Content) → said ≡ None → said_count said ≡ 0
none_said said e = rw e refl

count_all : (a b c d : ℕ) → a + b + c ≤ 1 → d ≡ 0 → a + b + c + d ≤ 1
count_all a b c d h e = omega arith

pub ticks_say_one : TicksSayOne
ticks_say_one now client =
    let expired = expire_ends now client in
    let refreshed = refresh_ends now expired.client in
    let asked = query_ends now refreshed.client in
    let last = none_said _ (reopen_silent now asked.client) in
    let c = one_at_most asked.said in
    let b = one_at_most refreshed.said in
    let a = one_at_most expired.said in
    elim (expired_by (has_come client.expire now) client.stage now client) [
      | inl none ↦
          let first = none_said expired.said none in
          elim (refreshed_by (has_come expired.client.refresh now) expired.client.stage expired.client (record expired.client { refresh = None })) [
            | inl quiet ↦ let second = none_said refreshed.said quiet in omega arith
            | inr out ↦ let third = none_said asked.said (query_silent now refreshed.client out) in omega arith
          ]
      | inr out ↦
          let quiet = refresh_silent now expired.client out in
          let second = none_said refreshed.said quiet.0 in
          let third = none_said asked.said (query_silent now refreshed.client quiet.1) in
          omega arith
    ]
