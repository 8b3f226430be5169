use Rattle.std.proofs.Common.{◌≡◌, ◌&&◌, ◌||◌, ℕ, Bool, true, false, not, List, [], ◌∷◌, Option, None, cond, refl, sym, ap, ◌∙◌}
use Rattle.bgp_attr.specs.PathAttributes.{PathAttributes}
use Rattle.bgp_fsm.specs.SessionTable.{session_after, effects_of}
use Rattle.bgp_fsm.specs.StateTests.{is_established}
use Rattle.bgp_fsm.specs.declared.input.Input.{Input}
use Rattle.bgp_fsm.specs.declared.session.Session.{Session}
use Rattle.bgp_fsm.proofs.TableLaws.{left_is, entered_is}
use Rattle.bgp_msg.specs.UpdateMeaning.{UpdateBody}
use Rattle.bgp_peer.specs.SessionInputs.{Event, session}
use Rattle.net_prefix.specs.declared.prefix.Prefix.{Prefix}
use Rattle.rib_out.specs.Held.{HeldRoute, all_asked, held_at}
use Rattle.rib_out.proofs.HeldTables.{held_at-all_asked}
use Rattle.routing.specs.Updates.{word_if}
use Rattle.runs.specs.AdjRibIn.{brought, route}
use Rattle.runs.specs.Held.{held_in, told_in}
use Rattle.routing.specs.Linked.{adj_out_after}

-- What an input of a session makes of the routes of a run and of what the peer holds.

-- there is no route where the session isn't Established
pub no_route : (h : List Event) (p : Prefix) → is_established (session h).state ≡ false → route h p ≡ None
no_route [] p other = refl
no_route (e ∷ h) p other = rw other refl

stays_by : (is : Bool) (r : Option PathAttributes) → (is ≡ false → r ≡ None) → cond is r None ≡ r
stays_by true r none = refl
stays_by false r none = sym (none refl)

-- what brings no UPDATE and leaves the session leaves the routes
pub route_stays : (h : List Event) (p : Prefix) → cond (is_established (session h).state) (route h p) None ≡ route h p
route_stays h p = stays_by (is_established (session h).state) (route h p) (no_route h p)

routed_by : (was is : Bool) (r : Option PathAttributes) → (was ≡ false → r ≡ None) → cond is r None ≡ cond (was && not is) None r
routed_by true true r none = refl
routed_by true false r none = refl
routed_by false true r none = refl
routed_by false false r none = sym (none refl)

-- the routes after an event that is this input and brings this UPDATE
pub route_moved : (now : ℕ) (h : List Event) (e : Event) (input : Input) (update : Option UpdateBody) (p : Prefix) → session (e ∷ h) ≡ session_after now input (session h) → brought h e ≡ update
    → (is_established (session h).state ≡ false → update ≡ None)
    → route (e ∷ h) p ≡ cond (effects_of input (session h)).left None (word_if update p (route h p))
route_moved now h e input update p next is none =
    ap (λ (s : Session). cond (is_established s.state) (word_if (brought h e) p (route h p)) None) next
    ∙ ap (λ u. cond (is_established (session_after now input (session h)).state) (word_if u p (route h p)) None) is
    ∙ routed_by (is_established (session h).state) (is_established (session_after now input (session h)).state) (word_if update p (route h p)) (λ other. rw (none other, no_route h p other) refl)
    ∙ ap (λ left. cond left None (word_if update p (route h p))) (sym (left_is now input (session h)))

-- whoever asks for all again holds what it held
held_again : (b : Bool) (table : List (Prefix × HeldRoute)) (p : Prefix) → held_at (cond b (all_asked table) table) p ≡ held_at table p
held_again true table p = held_at-all_asked table p
held_again false table p = refl

held_by : (was is asks : Bool) (table : List (Prefix × HeldRoute)) (before sent : List ℕ) (p : Prefix) → held_at table p ≡ cond was (told_in before p) None
    → (was ≡ true → is ≡ true → told_in sent p ≡ told_in before p) → (was ≡ false → is ≡ true → told_in sent p ≡ None)
    → held_at (cond ((was && not is) || (not was && is)) [] (cond asks (all_asked table) table)) p ≡ cond is (told_in sent p) None
held_by true true asks table before sent p held same new = held_again asks table p ∙ held ∙ sym (same refl refl)
held_by true false asks table before sent p held same new = refl
held_by false true asks table before sent p held same new = sym (new refl refl)
held_by false false asks table before sent p held same new = held_again asks table p ∙ held

-- what the peer holds after an input: what it was told stays while Established lasts, and was nothing where it begins
pub held_moved : (now : ℕ) (s : Session) (input : Input) (table : List (Prefix × HeldRoute)) (before sent : List ℕ) (p : Prefix) → held_at table p ≡ held_in s.state before p
    → (is_established s.state ≡ true → is_established (session_after now input s).state ≡ true → told_in sent p ≡ told_in before p)
    → (is_established s.state ≡ false → is_established (session_after now input s).state ≡ true → told_in sent p ≡ None)
    → held_at (adj_out_after (effects_of input s) table) p ≡ held_in (session_after now input s).state sent p
held_moved now s input table before sent p held same new =
    rw (left_is now input s, entered_is now input s) (held_by (is_established s.state) (is_established (session_after now input s).state) (effects_of input s).refreshed table before sent p held same new)
