-- Versions that are kept as steps, and what changed along them.
use Rattle.std.proofs.Common.{◌≡◌, ◌==◌, ℕ, zero, suc, Bool, true, false, not, ◌&&◌, ◌||◌, cond, List, [], ◌∷◌, Option, Some, None, IsSome, take, ap, sym, refl, ◌∙◌, subst}
use Rattle.std.specs.BTreeMap.{is_at}
use Rattle.std.specs.Cmp.{Equal-is, tied_itself}
use Rattle.std.specs.List.{AllByRecursion}
use Rattle.std.specs.List.Sorted.{IsStrictlySortedBy}
use Rattle.std.specs.Option.{option_map}
use Rattle.std.specs.Ordering.{is_eq}
use Rattle.std.specs.declared.cmp.Ordering.TheVariants.{Less, Equal}
use Rattle.std.proofs.lemmas.Bool.{or_right}
use Rattle.std.proofs.lemmas.Cmp.{alike_right, eq_by_cmp_equiv}
use Rattle.net_prefix.specs.declared.payload.Vrp.{Vrp}
use Rattle.net_prefix.specs.PayloadOrder.{payload_cmp}
use Rattle.net_prefix.specs.PayloadSets.{IsPayloadSet, has, out, put}
use Rattle.net_prefix.proofs.PayloadSets.{has-out, has-put, out-is_set, payload_cmp_total, put-is_set, same_set}
use Rattle.vrp_delta.specs.Delta.{Change, change_between, lacked}
use Rattle.vrp_delta.specs.Keeping.{IsChangeOf, no_change}
use Rattle.vrp_delta.specs.Staged.{Rises, came, left, loaded_from}
use Rattle.vrp_delta.specs.Steps.{AreKeptSteps, AreSteps, IsStep, Step, before, came_all, joined, left_all, since, undone, versions_of}
use Rattle.vrp_delta.specs.Versions.{Version, change_from, version_of}
use Rattle.vrp_delta.proofs.PayloadMembers.{has-lacked}
use Rattle.vrp_delta.proofs.Staged.{came-put, change_between-fits, change_between-loaded, change_between-same, has-loaded, left-out, loaded-change_between, loaded_from-is_set, loaded_from-nothing, no_change-fits}

-- ---- payloads of a rising list are apart

alike : (p q : Vrp) → is_eq (payload_cmp p q) ≡ is_eq (payload_cmp q p)
alike p q = (eq_by_cmp_equiv payload_cmp_total).symm p q

apart_case : (p q x : Vrp) (same rest : Bool) → is_eq (payload_cmp q x) ≡ same → payload_cmp p x ≡ Less → (rest ≡ true → is_eq (payload_cmp q p) ≡ false) → (same || rest) ≡ true → is_eq (payload_cmp q p) ≡ false
apart_case p q x true rest e below others h =
    let equal : payload_cmp q x ≡ Equal = (Equal-is (payload_cmp q x)).0 e in
    alike q p ∙ ap is_eq (alike_right payload_cmp_total q x p equal ∙ below)
apart_case p q x false rest e below others h = others h

apart : (p : Vrp) (others : List Vrp) (q : Vrp) → AllByRecursion (λ y. payload_cmp p y ≡ Less) others → has others q ≡ true → is_at (payload_cmp q) p ≡ false
apart p [] q below h = cc
apart p (x ∷ others) q below h = apart_case p q x _ (has others q) refl below.0 (apart p others q below.1) h

has_first : (p : Vrp) (rest : List Vrp) → has (p ∷ rest) p ≡ true
has_first p rest = rw (tied_itself payload_cmp_total p) refl

has_later : (p : Vrp) (rest : List Vrp) (q : Vrp) → has rest q ≡ true → has (p ∷ rest) q ≡ true
has_later p rest q among = or_right (is_at (payload_cmp q) p) (has rest q) among

-- ---- both lists of a change rise

left_rises : (p : Vrp) (change : Change) (t : Bool) → Rises change
    → Rises (cond t (record { withdrawn = change.withdrawn; announced = out p change.announced }) (record { withdrawn = put p change.withdrawn; announced = change.announced }))
left_rises p change true h = (h.0, out-is_set change.announced p h.1)
left_rises p change false h = (put-is_set change.withdrawn p h.0, h.1)

pub rises-left : (p : Vrp) (change : Change) → Rises change → Rises (left p change)
rises-left p change h = left_rises p change (has change.announced p) h

came_rises : (p : Vrp) (change : Change) (t : Bool) → Rises change
    → Rises (cond t (record { withdrawn = out p change.withdrawn; announced = change.announced }) (record { withdrawn = change.withdrawn; announced = put p change.announced }))
came_rises p change true h = (out-is_set change.withdrawn p h.0, h.1)
came_rises p change false h = (h.0, put-is_set change.announced p h.1)

pub rises-came : (p : Vrp) (change : Change) → Rises change → Rises (came p change)
rises-came p change h = came_rises p change (has change.withdrawn p) h

-- ---- one change behind another

-- what such a change is, and what it leads to
pub record Leads (start : List Vrp) (change : Change) (test : Vrp → Bool) : Type 0 where
  pub fits : IsChangeOf start change
  pub has_those : (q : Vrp) → has (loaded_from start change) q ≡ test q

out_again : (here rest b : Bool) → (not rest && (not here && b)) ≡ (not (here || rest) && b)
out_again true true b = refl
out_again true false b = refl
out_again false rest b = refl

in_again : (here rest b : Bool) → (rest || (here || b)) ≡ ((here || rest) || b)
in_again true true b = refl
in_again true false b = refl
in_again false rest b = refl

pub all_left : (start : List Vrp) (change : Change) (gone : List Vrp) → IsPayloadSet start → IsChangeOf start change → IsPayloadSet gone → ((q : Vrp) → has gone q ≡ true → has (loaded_from start change) q ≡ true)
    → Leads start (left_all gone change) (λ q. not (has gone q) && has (loaded_from start change) q)
unfolding IsStrictlySortedBy
all_left start change [] rose fits rising there = record { fits = fits; has_those = λ q. refl }
all_left start change (p ∷ gone) rose fits rising there =
    let one = left-out p start change rose fits (there p (has_first p gone)) in
    let more = all_left start (left p change) gone rose one.0 rising.1
    (λ q among. ap (λ set. has set q) one.1 ∙ has-out (loaded_from start change) p q ∙ rw (alike p q, apart p gone q rising.0 among) (there q (has_later p gone q among))) in
    record {
      fits = more.fits;
      has_those = λ q. more.has_those q ∙ ap (λ set. not (has gone q) && has set q) one.1 ∙ ap (λ b. not (has gone q) && b) (has-out (loaded_from start change) p q ∙ ap (λ b. not b && has (loaded_from start change) q) (alike p q))
          ∙ out_again (is_at (payload_cmp q) p) (has gone q) (has (loaded_from start change) q);
    }

pub all_came : (start : List Vrp) (change : Change) (come : List Vrp) → IsPayloadSet start → IsChangeOf start change → IsPayloadSet come → ((q : Vrp) → has come q ≡ true → has (loaded_from start change) q ≡ false)
    → Leads start (came_all come change) (λ q. has come q || has (loaded_from start change) q)
unfolding IsStrictlySortedBy
all_came start change [] rose fits rising other = record { fits = fits; has_those = λ q. refl }
all_came start change (p ∷ come) rose fits rising other =
    let one = came-put p start change rose fits (other p (has_first p come)) in
    let more = all_came start (came p change) come rose one.0 rising.1
    (λ q among. ap (λ set. has set q) one.1 ∙ has-put (loaded_from start change) p q ∙ rw (apart p come q rising.0 among) (other q (has_later p come q among))) in
    record {
      fits = more.fits;
      has_those = λ q. more.has_those q ∙ ap (λ set. has come q || has set q) one.1 ∙ ap (λ b. has come q || b) (has-put (loaded_from start change) p q)
          ∙ in_again (is_at (payload_cmp q) p) (has come q) (has (loaded_from start change) q);
    }

still_other : (gone there : Bool) → there ≡ false → (not gone && there) ≡ false
still_other true there h = refl
still_other false there h = h

-- a change behind another is the one change to where it leads
pub joined_leads : (start : List Vrp) (change later : Change) → IsPayloadSet start → IsChangeOf start change → IsChangeOf (loaded_from start change) later
    → joined later change ≡ change_between start (loaded_from (loaded_from start change) later)
joined_leads start change later rose fits next =
    let set = loaded_from start change in
    let gone = all_left start change later.withdrawn rose fits next.withdrawn_rises next.withdraws_known in
    let come = all_came start (left_all later.withdrawn change) later.announced rose gone.fits next.announced_rises
    (λ q among. gone.has_those q ∙ still_other (has later.withdrawn q) (has set q) (next.announces_unknown q among)) in
    let leads : loaded_from start (joined later change) ≡ loaded_from set later =
    same_set (loaded_from start (joined later change)) (loaded_from set later) (loaded_from-is_set start (joined later change) rose) (loaded_from-is_set set later (loaded_from-is_set start change rose))
    (λ q. come.has_those q ∙ ap (λ b. has later.announced q || b) (gone.has_those q) ∙ sym (has-loaded set later q)) in
    change_between-loaded start (joined later change) rose come.fits ∙ ap (change_between start) leads

-- ---- what changed since a version

-- the change that the steps tell is the one from the version to the set
pub record IsSince (set : List Vrp) (version : Version) (told : Option Change) : Type 0 where
  pub rises : IsPayloadSet version.set
  pub is : told ≡ Some (change_between version.set set)

abbrev pub Tells : List Vrp → Option Version → Option Change → Type 0
Tells set None told = told ≡ None
Tells set (Some version) told = IsSince set version told

first_told : (set : List Vrp) (step : Step) → IsStep set step.change → joined step.change no_change ≡ change_between (undone set step.change) set
first_told set step is =
    let start = undone set step.change in
    let from : loaded_from start no_change ≡ start = loaded_from-nothing start in
    joined_leads start no_change step.change is.rises (no_change-fits start) (subst (λ s. IsChangeOf s step.change) (sym from) is.fits)
    ∙ ap (λ s. change_between start (loaded_from s step.change)) from ∙ ap (change_between start) is.leads

later_told : (set : List Vrp) (step : Step) (found : Option Version) (told : Option Change) → IsStep set step.change → Tells (undone set step.change) found told → Tells set found (option_map (joined step.change) told)
later_told set step None told is h = ap (option_map (joined step.change)) h
later_told set step (Some version) told is h =
    let next = undone set step.change in
    let start = version.set in
    let from : loaded_from start (change_between start next) ≡ next = loaded-change_between start next h.rises is.rises in
    record {
      rises = h.rises;
      is = ap (option_map (joined step.change)) h.is
          ∙ ap (λ c. Some c)
          (joined_leads start (change_between start next) step.change h.rises (change_between-fits start next h.rises is.rises) (subst (λ s. IsChangeOf s step.change) (sym from) is.fits)
          ∙ ap (λ s. change_between start (loaded_from s step.change)) from ∙ ap (change_between start) is.leads);
    }

since_case : (set : List Vrp) (step : Step) (t : Bool) (found : Option Version) (told : Option Change) → IsStep set step.change → Tells (undone set step.change) found told
    → Tells set (cond t (Some (record { serial = step.serial; set = undone set step.change })) found) (cond t (Some (joined step.change no_change)) (option_map (joined step.change) told))
since_case set step true found told is h = record { rises = is.rises; is = ap (λ c. Some c) (first_told set step is) }
since_case set step false found told is h = later_told set step found told is h

since_tells : (set : List Vrp) (older : List Step) (serial : ℕ) → AreSteps set older → Tells set (version_of (before set older) serial) (since older serial)
since_tells set [] serial h = refl
since_tells set (step ∷ older) serial h =
    since_case set step (step.serial == serial) (version_of (before (undone set step.change) older) serial) (since older serial) h.0 (since_tells (undone set step.change) older serial h.1)

told_is : (set : List Vrp) (found : Option Version) (told : Option Change) → Tells set found told → told ≡ option_map (λ (old : Version). change_between old.set set) found
told_is set None told h = h
told_is set (Some version) told h = h.is

pub since_is : (set : List Vrp) (older : List Step) (serial : ℕ) → AreSteps set older → since older serial ≡ option_map (λ (old : Version). change_between old.set set) (version_of (before set older) serial)
since_is set older serial h = told_is set (version_of (before set older) serial) (since older serial) (since_tells set older serial h)

-- ---- one version more

turned_back : (o n : Bool) → ((not n && o) || (not (not o && n) && n)) ≡ o
turned_back true true = refl
turned_back true false = refl
turned_back false true = refl
turned_back false false = refl

-- what changed between two sets leads back to the first
pub undone-change_between : (old new : List Vrp) → IsPayloadSet old → IsPayloadSet new → undone new (change_between old new) ≡ old
undone-change_between old new rose rises =
    same_set (undone new (change_between old new)) old (loaded_from-is_set new (record { withdrawn = lacked new old; announced = lacked old new }) rises) rose
    (λ q. has-loaded new (record { withdrawn = lacked new old; announced = lacked old new }) q
    ∙ ap (λ b. b || (not (has (lacked new old) q) && has new q)) (has-lacked old new q)
    ∙ ap (λ b. (not (has new q) && has old q) || (not b && has new q)) (has-lacked new old q)
    ∙ turned_back (has old q) (has new q))

pub change_between-step : (old new : List Vrp) → IsPayloadSet old → IsPayloadSet new → IsStep new (change_between old new)
change_between-step old new rose rises =
    let back = sym (undone-change_between old new rose rises) in
    record {
      rises = subst IsPayloadSet back rose;
      fits = subst (λ s. IsChangeOf s (change_between old new)) back (change_between-fits old new rose rises);
      leads = subst (λ s. loaded_from s (change_between old new) ≡ new) back (loaded-change_between old new rose rises);
    }

-- fewer steps are steps
pub fewer_steps : (n : ℕ) (set : List Vrp) (older : List Step) → AreSteps set older → AreSteps set (take n older)
fewer_steps zero set older h = tt
fewer_steps (suc n) set [] h = tt
fewer_steps (suc n) set (step ∷ older) h = (h.0, fewer_steps n (undone set step.change) older h.1)

pub before-take : (n : ℕ) (set : List Vrp) (older : List Step) → before set (take n older) ≡ take n (before set older)
before-take zero set older = refl
before-take (suc n) set [] = refl
before-take (suc n) set (step ∷ older) = ap (λ vs. record { serial = step.serial; set = undone set step.change } ∷ vs) (before-take n (undone set step.change) older)

-- what is kept once a version more isn't the newest
pub behind_steps : (old new : Version) (older : List Step) → IsPayloadSet new.set → AreKeptSteps (Some old) older
    → AreSteps new.set (take 64 (record { serial = old.serial; change = change_between old.set new.set } ∷ older))
behind_steps old new older rises kept =
    let step = change_between-step old.set new.set kept.0 rises in
    fewer_steps 64 new.set (record { serial = old.serial; change = change_between old.set new.set } ∷ older)
    (step, subst (λ set. AreSteps set older) (sym (undone-change_between old.set new.set kept.0 rises)) kept.1)

pub behind_versions : (old new : Version) (older : List Step) → IsPayloadSet new.set → AreKeptSteps (Some old) older
    → before new.set (take 64 (record { serial = old.serial; change = change_between old.set new.set } ∷ older)) ≡ take 64 (old ∷ before old.set older)
behind_versions old new older rises kept =
    before-take 64 new.set (record { serial = old.serial; change = change_between old.set new.set } ∷ older)
    ∙ ap (λ set. take 64 (record { serial = old.serial; set = set } ∷ before set older)) (undone-change_between old.set new.set kept.0 rises)

-- ---- what changed since a version that is kept

first_case : (newest : Version) (rest : Option Version) (t : Bool) → t ≡ true → Some no_change ≡ option_map (λ (old : Version). change_between old.set newest.set) (cond t (Some newest) rest)
first_case newest rest true h = ap (λ c. Some c) (sym (change_between-same newest.set))
first_case newest rest false h = cc

pub newest_since : (newest : Version) (older : List Step) (serial : ℕ) → (newest.serial == serial) ≡ true → Some no_change ≡ change_from (versions_of (Some newest) older) serial
newest_since newest older serial h = first_case newest (version_of (before newest.set older) serial) (newest.serial == serial) h

later_case : (newest : Version) (rest : Option Version) (told : Option Change) (t : Bool) → t ≡ false → told ≡ option_map (λ (old : Version). change_between old.set newest.set) rest
    → told ≡ option_map (λ (old : Version). change_between old.set newest.set) (cond t (Some newest) rest)
later_case newest rest told true h e = cc
later_case newest rest told false h e = e

pub older_since : (newest : Version) (older : List Step) (serial : ℕ) → (newest.serial == serial) ≡ false → AreKeptSteps (Some newest) older → since older serial ≡ change_from (versions_of (Some newest) older) serial
older_since newest older serial h kept = later_case newest (version_of (before newest.set older) serial) (since older serial) (newest.serial == serial) h (since_is newest.set older serial kept.1)

some_mapped : {X Y : Type 0} (f : X → Y) (o : Option X) → IsSome (option_map f o) → IsSome o
some_mapped f None h = h
some_mapped f (Some x) h = refl

some_case : (newest : Version) (rest : Option Version) (t : Bool) → IsSome rest → IsSome (cond t (Some newest) rest)
some_case newest rest true h = refl
some_case newest rest false h = h

pub some_since : (newest : Version) (older : List Step) (serial : ℕ) → AreKeptSteps (Some newest) older → IsSome (since older serial) → IsSome (version_of (versions_of (Some newest) older) serial)
some_since newest older serial kept h =
    some_case newest (version_of (before newest.set older) serial) (newest.serial == serial)
    (some_mapped (λ (old : Version). change_between old.set newest.set) (version_of (before newest.set older) serial) (subst IsSome (since_is newest.set older serial kept.1) h))
