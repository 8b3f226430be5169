use Rattle.std.proofs.Common.{◌≡◌, ◌≢◌, ◌≤◌, ◌⊎◌, ◌&&◌, ◌||◌, ℕ, Bool, true, false, not, List, [], Option, filter, refl, sym, ap, ◌∙◌, subst, inl, inr, arith}
use Rattle.std.proofs.lemmas.Cmp.{tied_itself}
use Rattle.std.specs.Bool.{beq}
use Rattle.std.specs.Ordering.{is_eq}
use Rattle.bgp_conf.specs.ConfAfter.{conf_after, with_given}
use Rattle.bgp_conf.specs.Configuration.{AddressesDiffer, Configuration, peer_at}
use Rattle.bgp_conf.specs.declared.command.Command.{Command}
use Rattle.decision.specs.BookContents.{offer_at}
use Rattle.local_exceptions.specs.ExceptionSets.{ExceptionSets, is_turned, under, with_assertion, with_filter, without_assertion, without_filter}
use Rattle.local_exceptions.specs.Filters.{has_filter, is_filtered}
use Rattle.local_exceptions.specs.declared.filter.Filter.{Filter}
use Rattle.local_exceptions.proofs.Sets.{under_is}
use Rattle.net_prefix.specs.PayloadOrder.{payload_cmp}
use Rattle.net_prefix.specs.PayloadSets.{has, out, put}
use Rattle.net_prefix.specs.declared.payload.Vrp.{Vrp}
use Rattle.net_prefix.specs.declared.prefix.Prefix.{Prefix}
use Rattle.net_prefix.proofs.PayloadSets.{has-out, has-put, payload_cmp_total}
use Rattle.origin_valid.specs.Stretches.{prefixes_of, stretches}
use Rattle.origin_valid.specs.Touched.{is_touched}
use Rattle.origin_valid.proofs.FilterChanges.{has_filter-out_same, has_filter-put_same}
use Rattle.origin_valid.proofs.Touches.{touched_by_absent_filter, touched_by_assertion, touched_by_filter, touched_by_known_filter, touched_by_no_assertion, touched_by_no_filter}
use Rattle.prefix_trie.specs.CoverWalks.{covers}
use Rattle.rib_in.specs.LatestRoutes.{HasRoute, RouteTable}
use Rattle.routing.specs.Chosen.{OncePerPrefix}
use Rattle.routes.specs.Commands.{TurnsAssertion, TurnsFilter}
use Rattle.routing.specs.Linked.{Linked}
use Rattle.routing.specs.Marks.{AreMarked}
use Rattle.routing.specs.Offers.{AreMadeWhere, IsSound, Offers, is_within}
use Rattle.routing.specs.RoutesState.{ObeysExceptions, RoutesState}
use Rattle.routing.specs.RoutingState.{RoutingState}
use Rattle.routing.specs.Tables.{Tables, payloads_under, tables}
use Rattle.routes.proofs.AddedMarks.{marked_reached}
use Rattle.routing.proofs.Counting.{different_as}
use Rattle.routing.proofs.RemadeOffers.{made_none}
use Rattle.routing.proofs.SoundOffers.{sound_conf}

-- What commands of local exceptions leave of the routes, and what they make again.

-- ---- the configuration
-- the same configuration, with these exceptions
abbrev pub excepting : Configuration → ExceptionSets → Configuration
excepting conf exceptions = record conf { exceptions = exceptions }

-- exceptions say nothing of peers and of the export
pub kept_excepting : (conf conf2 : Configuration) (links : List (ℕ × Linked)) (t : RoutingState) → conf2 ≡ excepting conf conf2.exceptions → IsSound conf (offer_at t.book) × AreMarked conf links t
    → IsSound conf2 (offer_at t.book) × AreMarked conf2 links t
kept_excepting conf conf2 links t is was = (
  sound_conf conf conf2 (offer_at t.book) was.0 (subst (λ peers. AddressesDiffer peers) (sym peers) was.0.addresses) (λ s peer at. was.0.addressed s peer (sym (same s) ∙ at)) (λ s peer at. same s ∙ at),
  marked_reached conf conf2 links t was.1 (ap (λ (c : Configuration). c.own) is) (ap (λ (c : Configuration). c.policies) is) same,
)
  where
    peers : conf2.peers ≡ conf.peers
    peers = ap (λ (c : Configuration). c.peers) is

    same : (s : ℕ) → peer_at conf2 s ≡ peer_at conf s
    same s = ap (λ c. peer_at c s) is

-- ---- filters
-- the exceptions have one filter more, or one less
abbrev pub IsTurn : ExceptionSets → Filter → ExceptionSets → Type 0
IsTurn e f later = (later ≡ with_filter f e) ⊎ (later ≡ without_filter f e)

pub filter_conf : (conf conf2 : Configuration) (f : Filter) (command : Command) → TurnsFilter f command → conf2 ≡ conf_after conf command
    → (conf2 ≡ excepting conf conf2.exceptions) × IsTurn conf.exceptions f conf2.exceptions
filter_conf conf conf2 f command turns is = elim turns.1.1.1 [
  | inl adds ↦
      let at : conf2 ≡ excepting conf (with_filter f conf.exceptions) = is ∙ ap (conf_after conf) adds ∙ ap (λ (found : Option Filter). excepting conf (with_given with_filter found conf.exceptions)) turns.1.1.0 in
      (whole (with_filter f conf.exceptions) at, inl (ap (λ (c : Configuration). c.exceptions) at))
  | inr takes ↦
      let at : conf2 ≡ excepting conf (without_filter f conf.exceptions) = is ∙ ap (conf_after conf) takes ∙ ap (λ (found : Option Filter). excepting conf (with_given without_filter found conf.exceptions)) turns.1.1.0 in
      (whole (without_filter f conf.exceptions) at, inr (ap (λ (c : Configuration). c.exceptions) at))
]
  where
    whole : (e : ExceptionSets) → conf2 ≡ excepting conf e → conf2 ≡ excepting conf conf2.exceptions
    whole e at = at ∙ ap (excepting conf) (sym (ap (λ (c : Configuration). c.exceptions) at))

not_true : (b : Bool) → (b ≡ true → ⊥) → b ≡ false
not_true true never = absurd (never refl)
not_true false never = refl

not_false : (b : Bool) → (b ≡ false → ⊥) → b ≡ true
not_false true never = refl
not_false false never = absurd (never refl)

-- where it is there as it was, nothing is touched
pub turned_none : (e later : ExceptionSets) (f : Filter) (loaded : List Vrp) (q : Prefix) → IsTurn e f later → has_filter later.filters f ≡ has_filter e.filters f → is_touched (under e loaded) (under later loaded) q ≡ false
turned_none e later f loaded q (inl is) same =
    let known : has_filter e.filters f ≡ true = sym (ap (λ (x : ExceptionSets). has_filter x.filters f) (sym is) ∙ same) ∙ has_filter-put_same e.filters f in
    subst (λ (x : ExceptionSets). is_touched (under e loaded) (under x loaded) q ≡ false) (sym is) (touched_by_known_filter e f loaded q known)
turned_none e later f loaded q (inr is) same =
    let absent : has_filter e.filters f ≡ false = sym (ap (λ (x : ExceptionSets). has_filter x.filters f) (sym is) ∙ same) ∙ has_filter-out_same e.filters f in
    subst (λ (x : ExceptionSets). is_touched (under e loaded) (under x loaded) q ≡ false) (sym is) (touched_by_absent_filter e f loaded q absent)

-- else that is touched which the payloads cover on which it alone decides
pub turned_all : (e later : ExceptionSets) (f : Filter) (loaded : List Vrp) (q : Prefix) → IsTurn e f later → has_filter later.filters f ≢ has_filter e.filters f
    → is_within (stretches (prefixes_of (filter (is_turned later f) loaded))) q ≡ is_touched (under e loaded) (under later loaded) q
turned_all e later f loaded q (inl is) other =
    let new : has_filter e.filters f ≡ false = not_true (has_filter e.filters f) (λ known. other (ap (λ (x : ExceptionSets). has_filter x.filters f) is ∙ has_filter-put_same e.filters f ∙ sym known)) in
    subst (λ (x : ExceptionSets). is_within (stretches (prefixes_of (filter (is_turned x f) loaded))) q ≡ is_touched (under e loaded) (under x loaded) q) (sym is) (touched_by_filter e f loaded q new)
turned_all e later f loaded q (inr is) other =
    let known : has_filter e.filters f ≡ true = not_false (has_filter e.filters f) (λ absent. other (ap (λ (x : ExceptionSets). has_filter x.filters f) is ∙ has_filter-out_same e.filters f ∙ sym absent)) in
    subst (λ (x : ExceptionSets). is_within (stretches (prefixes_of (filter (is_turned x f) loaded))) q ≡ is_touched (under e loaded) (under x loaded) q) (sym is) (touched_by_no_filter e f loaded q known)

-- ---- assertions
-- the exceptions have one assertion more, or one less
abbrev pub IsAssertion : ExceptionSets → Vrp → ExceptionSets → Type 0
IsAssertion e v later = (later ≡ with_assertion v e) ⊎ (later ≡ without_assertion v e)

pub assertion_conf : (conf conf2 : Configuration) (v : Vrp) (command : Command) → TurnsAssertion v command → conf2 ≡ conf_after conf command
    → (conf2 ≡ excepting conf conf2.exceptions) × IsAssertion conf.exceptions v conf2.exceptions
assertion_conf conf conf2 v command turns is = elim turns.1.1.1.1 [
  | inl adds ↦
      let at : conf2 ≡ excepting conf (with_assertion v conf.exceptions) = is ∙ ap (conf_after conf) adds ∙ ap (λ (found : Option Vrp). excepting conf (with_given with_assertion found conf.exceptions)) turns.1.1.1.0 in
      (whole (with_assertion v conf.exceptions) at, inl (ap (λ (c : Configuration). c.exceptions) at))
  | inr takes ↦
      let at : conf2 ≡ excepting conf (without_assertion v conf.exceptions) = is ∙ ap (conf_after conf) takes ∙ ap (λ (found : Option Vrp). excepting conf (with_given without_assertion found conf.exceptions)) turns.1.1.1.0 in
      (whole (without_assertion v conf.exceptions) at, inr (ap (λ (c : Configuration). c.exceptions) at))
]
  where
    whole : (e : ExceptionSets) → conf2 ≡ excepting conf e → conf2 ≡ excepting conf conf2.exceptions
    whole e at = at ∙ ap (excepting conf) (sym (ap (λ (c : Configuration). c.exceptions) at))

at_itself : (v : Vrp) → is_eq (payload_cmp v v) ≡ true
at_itself v = ap is_eq (tied_itself payload_cmp_total v)

or_true : (x b : Bool) → b ≡ true → (x || b) ≡ true
or_true true b is = refl
or_true false b is = is

-- what is asserted is in force
in_force : (e : ExceptionSets) (v : Vrp) (loaded : List Vrp) → has (under (with_assertion v e) loaded) v ≡ true
in_force e v loaded =
    under_is (with_assertion v e) loaded v
    ∙ or_true (has loaded v && not (is_filtered e.filters v)) (has (put v e.asserted) v) (has-put e.asserted v v ∙ ap (λ b. b || has e.asserted v) (at_itself v))

first_or : (x a k : Bool) → k ≡ false → (x || k) ≡ true → (x || a) ≡ true
first_or true a k none is = refl
first_or false a k none is = absurd (let never = sym none ∙ is in cc)

-- what is in force without the assertion was so with it
was_in_force : (e : ExceptionSets) (v : Vrp) (loaded : List Vrp) → has (under (without_assertion v e) loaded) v ≡ true → has (under e loaded) v ≡ true
was_in_force e v loaded is =
    under_is e loaded v
    ∙ first_or (has loaded v && not (is_filtered e.filters v)) (has e.asserted v) (has (out v e.asserted) v) (has-out e.asserted v v ∙ ap (λ b. not b && has e.asserted v) (at_itself v)) (sym (under_is (without_assertion v e) loaded v) ∙ is)

still_case : (b k c : Bool) → k ≡ b → (b && not k && c) ≡ false
still_case true true c same = refl
still_case true false c same = absurd (cc)
still_case false k c same = refl

-- where the payload is in force as it was, nothing is touched
pub asserted_none : (e later : ExceptionSets) (v : Vrp) (loaded : List Vrp) (q : Prefix) → IsAssertion e v later → has (under later loaded) v ≡ has (under e loaded) v → is_touched (under e loaded) (under later loaded) q ≡ false
asserted_none e later v loaded q (inl is) same =
    let there : has (under e loaded) v ≡ true = sym (ap (λ (x : ExceptionSets). has (under x loaded) v) (sym is) ∙ same) ∙ in_force e v loaded in
    subst (λ (x : ExceptionSets). is_touched (under e loaded) (under x loaded) q ≡ false) (sym is) (touched_by_assertion e v loaded q ∙ ap (λ b. not b && covers v.prefix q) there)
asserted_none e later v loaded q (inr is) same =
    subst (λ (x : ExceptionSets). is_touched (under e loaded) (under x loaded) q ≡ false) (sym is)
    (touched_by_no_assertion e v loaded q ∙ still_case (has (under e loaded) v) (has (under (without_assertion v e) loaded) v) (covers v.prefix q) (ap (λ (x : ExceptionSets). has (under x loaded) v) (sym is) ∙ same))

gone_case : (b k c : Bool) → k ≢ b → (k ≡ true → b ≡ true) → c ≡ (b && not k && c)
gone_case true true c other was = absurd (other refl)
gone_case true false c other was = refl
gone_case false true c other was = absurd (let never = was refl in cc)
gone_case false false c other was = absurd (other refl)

-- else that is touched which it covers
pub asserted_all : (e later : ExceptionSets) (v : Vrp) (loaded : List Vrp) (q : Prefix) → IsAssertion e v later → has (under later loaded) v ≢ has (under e loaded) v → covers v.prefix q ≡ is_touched (under e loaded) (under later loaded) q
asserted_all e later v loaded q (inl is) other =
    let new : has (under e loaded) v ≡ false = not_true (has (under e loaded) v) (λ there. other (ap (λ (x : ExceptionSets). has (under x loaded) v) is ∙ in_force e v loaded ∙ sym there)) in
    subst (λ (x : ExceptionSets). covers v.prefix q ≡ is_touched (under e loaded) (under x loaded) q) (sym is) (sym (touched_by_assertion e v loaded q ∙ ap (λ b. not b && covers v.prefix q) new))
asserted_all e later v loaded q (inr is) other =
    subst (λ (x : ExceptionSets). covers v.prefix q ≡ is_touched (under e loaded) (under x loaded) q) (sym is)
    (gone_case (has (under e loaded) v) (has (under (without_assertion v e) loaded) v) (covers v.prefix q) (λ same. other (ap (λ (x : ExceptionSets). has (under x loaded) v) is ∙ same)) (was_in_force e v loaded)
    ∙ sym (touched_by_no_assertion e v loaded q))

-- ---- the routes
made_as : (t : Tables) (holds says : Prefix → Bool) (had has : Offers) → ((q : Prefix) → holds q ≡ says q) → AreMadeWhere t holds had has → AreMadeWhere t says had has
made_as t holds says had has is made = record {
  made = λ slot q held source there. made.made slot q (is q ∙ held) source there;
  still = λ slot q out. made.still slot q (elim out [ inl not ↦ inl (is q ∙ not) | inr none ↦ inr none ]);
}

abbrev pub state_with : Configuration → List Vrp → List (ℕ × Linked) → RoutingState → RouteTable → RoutesState
state_with conf payloads links t adj_in = record { conf = conf; payloads = payloads; links = links; adj_in = adj_in; book = t.book; chosen = t.chosen }

-- the candidates that are touched are made again
pub obeyed : (command : Command) (conf conf2 : Configuration) (loaded : List Vrp) (links : List (ℕ × Linked)) (t u : RoutingState) (holds : Prefix → Bool) → conf2 ≡ conf_after conf command → u.adj_in ≡ t.adj_in
    → ((q : Prefix) → holds q ≡ is_touched (payloads_under conf loaded) (payloads_under conf2 loaded) q)
    → AreMadeWhere (tables conf2 (payloads_under conf2 loaded) links t.adj_in) holds (offer_at t.book) (offer_at u.book)
    → OncePerPrefix (λ p. (holds p ≡ true) × HasRoute t.adj_in p) t.chosen u.chosen → t.chosen ≤ u.chosen
    → ObeysExceptions command (state_with conf loaded links t t.adj_in) (state_with conf2 loaded links u u.adj_in)
obeyed command conf conf2 loaded links t u holds is routes touched made chosen rises = record {
  conf = is;
  made = subst (λ (a : RouteTable). AreMadeWhere (tables conf2 (payloads_under conf2 loaded) links a) (is_touched (payloads_under conf loaded) (payloads_under conf2 loaded)) (offer_at t.book) (offer_at u.book)) (sym routes)
      (made_as _ holds (is_touched (payloads_under conf loaded) (payloads_under conf2 loaded)) _ _ touched made);
  chosen = (
    chosen.0,
    different_as (λ p. (holds p ≡ true) × HasRoute t.adj_in p) (λ p. (is_touched (payloads_under conf loaded) (payloads_under conf2 loaded) p ≡ true) × HasRoute t.adj_in p) chosen.0 (λ p h. (sym (touched p) ∙ h.0, h.1)) chosen.1,
    chosen.2,
  );
  rises = rises;
  rest = ap (state_with conf2 loaded links u) routes;
}

-- none is touched
pub obeyed_none : (command : Command) (conf conf2 : Configuration) (loaded : List Vrp) (links : List (ℕ × Linked)) (t : RoutingState) → conf2 ≡ conf_after conf command
    → ((q : Prefix) → is_touched (payloads_under conf loaded) (payloads_under conf2 loaded) q ≡ false) → ObeysExceptions command (state_with conf loaded links t t.adj_in) (state_with conf2 loaded links t t.adj_in)
obeyed_none command conf conf2 loaded links t is none =
    obeyed command conf conf2 loaded links t t (λ q. false) is refl (λ q. sym (none q)) (made_none _ _) ([], tt, omega arith) (omega arith)

-- where the filter comes or goes, but no payload is loaded, none is touched
pub turned_unloaded : (e later : ExceptionSets) (f : Filter) (loaded : List Vrp) (q : Prefix) → IsTurn e f later → has_filter later.filters f ≢ has_filter e.filters f → loaded ≡ []
    → is_touched (under e loaded) (under later loaded) q ≡ false
turned_unloaded e later f loaded q turn other none = subst (λ (l : List Vrp). is_touched (under e l) (under later l) q ≡ false) (sym none) (sym (turned_all e later f [] q turn other))

-- ---- whether a test answers as it did
pub answers_same : (now was : Bool) (a b : Bool) → beq now was ≡ true → now ≡ a → was ≡ b → a ≡ b
answers_same now was a b same is had = sym is ∙ alike now was same ∙ had
  where
    alike : (x y : Bool) → beq x y ≡ true → x ≡ y
    alike true true h = refl
    alike true false h = absurd (cc)
    alike false true h = absurd (cc)
    alike false false h = refl

pub answers_other : (now was : Bool) (a b : Bool) → beq now was ≡ false → now ≡ a → was ≡ b → a ≢ b
answers_other now was a b other is had = λ same. unlike now was other (is ∙ same ∙ sym had)
  where
    unlike : (x y : Bool) → beq x y ≡ false → x ≡ y → ⊥
    unlike true true h same = absurd (cc)
    unlike true false h same = absurd (cc)
    unlike false true h same = absurd (cc)
    unlike false false h same = absurd (cc)
