-- Which payloads are filtered when a filter comes or goes.
use Rattle.std.proofs.Common.{◌≡◌, ◌&&◌, ◌||◌, Bool, true, false, not, List, [], ◌∷◌, refl, sym, ap, ◌∙◌}
use Rattle.std.proofs.lemmas.Cmp.{tied_itself}
use Rattle.std.specs.BTreeMap.{is_at}
use Rattle.std.specs.Cmp.{Equal-is}
use Rattle.std.specs.List.{list_any}
use Rattle.std.specs.Ordering.{is_eq, ordering_reverse}
use Rattle.std.specs.declared.cmp.Ordering.{Ordering}
use Rattle.std.specs.declared.cmp.Ordering.TheVariants.{Less, Equal, Greater}
use Rattle.net_prefix.specs.declared.payload.Vrp.{Vrp}
use Rattle.net_prefix.proofs.PayloadSets.{any-insert_key}
use Rattle.local_exceptions.specs.FilterOrder.{filter_cmp}
use Rattle.local_exceptions.specs.Filters.{has_filter, is_filtered, matches, out_filter, put_filter}
use Rattle.local_exceptions.specs.declared.filter.Filter.{Filter}
use Rattle.local_exceptions.proofs.Filters.{filter_cmp_exact, filter_cmp_total, has_filter-out}
use Rattle.origin_valid.proofs.Members.{any-same}

reversed : (o : Ordering) → is_eq (ordering_reverse o) ≡ is_eq o
reversed Less = refl
reversed Equal = refl
reversed Greater = refl

-- a filter is at the place of another where that one is at its place
turned : (f g : Filter) → is_at (filter_cmp f) g ≡ is_at (filter_cmp g) f
turned f g = ap is_eq (filter_cmp_total.antisymm f g) ∙ reversed (filter_cmp g f)

-- then they are one
same : (filters : List Filter) (f g : Filter) → is_at (filter_cmp f) g ≡ true → has_filter filters g ≡ has_filter filters f
same filters f g at = ap (has_filter filters) (sym (filter_cmp_exact f g ((Equal-is (filter_cmp f g)).0 at)))

-- filters that have the same members match the same payloads
same_filtered : (a b : List Filter) (v : Vrp) → ((g : Filter) → has_filter a g ≡ has_filter b g) → is_filtered a v ≡ is_filtered b v
same_filtered a b v is = any-same filter_cmp_total filter_cmp_exact (λ f. matches f v) a b (λ g _. is g)

has_filter-put : (filters : List Filter) (f g : Filter) → has_filter (put_filter f filters) g ≡ (is_at (filter_cmp g) f || has_filter filters g)
has_filter-put filters f g = any-insert_key filter_cmp_total filters f g

-- with a filter those are filtered that it matches, and those that were
pub filtered-put : (filters : List Filter) (f : Filter) (v : Vrp) → is_filtered (put_filter f filters) v ≡ (matches f v || is_filtered filters v)
filtered-put filters f v = same_filtered (put_filter f filters) (f ∷ filters) v (has_filter-put filters f)

put_out_case : (b h : Bool) → (b ≡ true → h ≡ false) → (not b && (b || h)) ≡ h
put_out_case true h none = sym (none refl)
put_out_case false h none = refl

-- a new filter that goes again leaves what was there
pub filtered-put_out : (filters : List Filter) (f : Filter) (v : Vrp) → has_filter filters f ≡ false → is_filtered (out_filter f (put_filter f filters)) v ≡ is_filtered filters v
filtered-put_out filters f v new = same_filtered (out_filter f (put_filter f filters)) filters v each where
  each : (g : Filter) → has_filter (out_filter f (put_filter f filters)) g ≡ has_filter filters g
  each g =
      has_filter-out (put_filter f filters) f g
      ∙ ap (λ b. not (is_at (filter_cmp f) g) && b) (has_filter-put filters f g ∙ ap (λ b. b || has_filter filters g) (turned g f))
      ∙ put_out_case (is_at (filter_cmp f) g) (has_filter filters g) (λ at. same filters f g at ∙ new)

twice_case : (b h : Bool) → (not b && (not b && h)) ≡ (not b && h)
twice_case true h = refl
twice_case false h = refl

-- a filter goes once
pub filtered-out_out : (filters : List Filter) (f : Filter) (v : Vrp) → is_filtered (out_filter f (out_filter f filters)) v ≡ is_filtered (out_filter f filters) v
filtered-out_out filters f v = same_filtered (out_filter f (out_filter f filters)) (out_filter f filters) v each where
  each : (g : Filter) → has_filter (out_filter f (out_filter f filters)) g ≡ has_filter (out_filter f filters) g
  each g =
      has_filter-out (out_filter f filters) f g ∙ ap (λ b. not (is_at (filter_cmp f) g) && b) (has_filter-out filters f g)
      ∙ twice_case (is_at (filter_cmp f) g) (has_filter filters g) ∙ sym (has_filter-out filters f g)

known_case : (b h : Bool) → (b ≡ true → h ≡ true) → h ≡ (b || (not b && h))
known_case true h there = there refl
known_case false h there = refl

-- those that a filter which is there matches, and those of the others, are all that are filtered
pub filtered-known : (filters : List Filter) (f : Filter) (v : Vrp) → has_filter filters f ≡ true → is_filtered filters v ≡ (matches f v || is_filtered (out_filter f filters) v)
filtered-known filters f v known = same_filtered filters (f ∷ out_filter f filters) v each where
  each : (g : Filter) → has_filter filters g ≡ has_filter (f ∷ out_filter f filters) g
  each g =
      known_case (is_at (filter_cmp f) g) (has_filter filters g) (λ at. same filters f g at ∙ known)
      ∙ ap (λ b. is_at (filter_cmp f) g || b) (sym (has_filter-out filters f g)) ∙ ap (λ b. b || has_filter (out_filter f filters) g) (turned f g)

-- ---- a filter that is there already, and one that isn't there
put_case : (b h : Bool) → (b ≡ true → h ≡ true) → (b || h) ≡ h
put_case true h is = sym (is refl)
put_case false h is = refl

pub filtered-known_put : (filters : List Filter) (f : Filter) (v : Vrp) → has_filter filters f ≡ true → is_filtered (put_filter f filters) v ≡ is_filtered filters v
filtered-known_put filters f v known = same_filtered (put_filter f filters) filters v each where
  each : (g : Filter) → has_filter (put_filter f filters) g ≡ has_filter filters g
  each g = has_filter-put filters f g ∙ put_case (is_at (filter_cmp g) f) (has_filter filters g) (λ at. sym (same filters g f at) ∙ known)

out_case : (b h : Bool) → (b ≡ true → h ≡ false) → (not b && h) ≡ h
out_case true h is = sym (is refl)
out_case false h is = refl

pub filtered-absent_out : (filters : List Filter) (f : Filter) (v : Vrp) → has_filter filters f ≡ false → is_filtered (out_filter f filters) v ≡ is_filtered filters v
filtered-absent_out filters f v absent = same_filtered (out_filter f filters) filters v each where
  each : (g : Filter) → has_filter (out_filter f filters) g ≡ has_filter filters g
  each g = has_filter-out filters f g ∙ out_case (is_at (filter_cmp f) g) (has_filter filters g) (λ at. same filters f g at ∙ absent)

-- ---- whether it is there then
at_itself : (f : Filter) → is_at (filter_cmp f) f ≡ true
at_itself f = ap is_eq (tied_itself filter_cmp_total f)

pub has_filter-put_same : (filters : List Filter) (f : Filter) → has_filter (put_filter f filters) f ≡ true
has_filter-put_same filters f = has_filter-put filters f f ∙ ap (λ b. b || has_filter filters f) (at_itself f)

pub has_filter-out_same : (filters : List Filter) (f : Filter) → has_filter (out_filter f filters) f ≡ false
has_filter-out_same filters f = has_filter-out filters f f ∙ ap (λ b. not b && has_filter filters f) (at_itself f)
