-- What settings tell, they tell in one way.
use Rattle.std.proofs.Common.{◌≡◌, ◌≤◌, ◌<◌, ℕ, false, List, length, Option, None, Some, nat_abs, unwrap_or, refl, ap, sym, subst, ◌∙◌, arith, true≢false}
use Rattle.std.proofs.lemmas.Option.{same_Some}
use Rattle.toml.specs.Data.{Data, Members, get_member}
use Rattle.std.specs.Prelude.{codes}
use Rattle.rtr_codec.specs.Intervals.{are_lawful}
use Rattle.rtr_codec.specs.declared.intervals.Intervals.{Intervals}
use Rattle.settings_keys.proofs.Faults.{TellsNothing}
use Rattle.settings_keys.specs.Keys.{IsNumber, IsToldIfThere, IsToldOrUsual}
use Rattle.cache_settings.specs.declared.settings.Stale.{Stale}
use Rattle.cache_settings.specs.declared.settings.Stale.TheVariants.{Serve, Withdraw}
use Rattle.cache_settings.specs.ToldSettings.{AreIntervals, AreTerms, IsPatience, IsPerCent, IsSeconds, IsStale, IsStaleWord}

same_number : (found : Data) (a b : ℕ) → IsNumber found a → IsNumber found b → a ≡ b
same_number found a b x y = ap nat_abs (same_Some _ _ (sym x.0 ∙ y.0))

same_seconds : (found : Data) (a b : ℕ) → IsSeconds found a → IsSeconds found b → a ≡ b
same_seconds found a b x y = same_number found a b x.0 y.0

same_or_usual : (Is : Data → ℕ → Type 0) (usual : ℕ) (o : Option Data) (a b : ℕ) → ((found : Data) (x y : ℕ) → Is found x → Is found y → x ≡ y)
    → IsToldOrUsual Is usual o a → IsToldOrUsual Is usual o b → a ≡ b
same_or_usual Is usual None a b one x y = x ∙ sym y
same_or_usual Is usual (Some found) a b one x y = one found a b x y

-- a key that tells nothing, and may lack
pub nothing_or_usual : (Is : Data → ℕ → Type 0) (usual : ℕ) (o : Option Data) → TellsNothing (IsToldIfThere Is o) → TellsNothing (IsToldOrUsual Is usual o)
nothing_or_usual Is usual None none value told = none None refl
nothing_or_usual Is usual (Some found) none value told = none (Some value) told

pub or_usual : (Is : Data → ℕ → Type 0) (usual : ℕ) (o : Option Data) (told : Option ℕ) → IsToldIfThere Is o told → IsToldOrUsual Is usual o (unwrap_or told usual)
or_usual Is usual None told is = ap (λ (t : Option ℕ). unwrap_or t usual) is
or_usual Is usual (Some found) None is = absurd is
or_usual Is usual (Some found) (Some value) is = is

-- no number is no seconds, nor is 0
pub no_seconds : (o : Option Data) → TellsNothing (IsToldIfThere IsNumber o) → TellsNothing (IsToldIfThere IsSeconds o)
no_seconds None none value told = none value told
no_seconds (Some found) none None told = told
no_seconds (Some found) none (Some value) told = none (Some value) told.0

pub zero_seconds : (o : Option Data) → IsToldIfThere IsNumber o (Some 0) → TellsNothing (IsToldIfThere IsSeconds o)
zero_seconds None is value told = absurd cc
zero_seconds (Some found) is None told = told
zero_seconds (Some found) is (Some value) told = absurd (omega (arith, same_number found value 0 told.0 is, told.1))

-- nor is it per cent, nor is one above 100
pub no_per_cent : (o : Option Data) → TellsNothing (IsToldIfThere IsNumber o) → TellsNothing (IsToldIfThere IsPerCent o)
no_per_cent None none value told = none value told
no_per_cent (Some found) none None told = told
no_per_cent (Some found) none (Some value) told = none (Some value) told.0

pub above_per_cent : (o : Option Data) (share : ℕ) → IsToldIfThere IsNumber o (Some share) → 100 < share → TellsNothing (IsToldIfThere IsPerCent o)
above_per_cent None share is above value told = absurd cc
above_per_cent (Some found) share is above None told = told
above_per_cent (Some found) share is above (Some value) told = absurd (omega (arith, same_number found value share told.0 is, told.1, above))

-- the intervals at their keys, lawful or not
pub record StandAt (table : Members) (intervals : Intervals) : Type 0 where
  pub refresh : IsToldOrUsual IsNumber 3600 (get_member (codes "refresh") table) intervals.refresh
  pub retry : IsToldOrUsual IsNumber 600 (get_member (codes "retry") table) intervals.retry
  pub expire : IsToldOrUsual IsNumber 7200 (get_member (codes "expire") table) intervals.expire

same_intervals : (table : Members) (a b : Intervals) → StandAt table a → AreIntervals table b → b ≡ a
same_intervals table a b x y =
    let refresh = same_or_usual IsNumber 3600 _ b.refresh a.refresh same_number y.refresh x.refresh in
    let retry = same_or_usual IsNumber 600 _ b.retry a.retry same_number y.retry x.retry in
    let expire = same_or_usual IsNumber 7200 _ b.expire a.expire same_number y.expire x.expire in
    λ i. record { refresh = refresh i; retry = retry i; expire = expire i }

pub unlawful : (table : Members) (a : Intervals) → StandAt table a → are_lawful a ≡ false → TellsNothing (AreIntervals table)
unlawful table a is against b told = absurd (true≢false (sym told.lawful ∙ ap are_lawful (same_intervals table a b is told) ∙ against))

pub too_short : (table : Members) (intervals : Intervals) (idle : ℕ) → IsToldOrUsual IsSeconds intervals.expire (get_member (codes "idle") table) idle → idle ≤ intervals.refresh → TellsNothing (IsPatience table intervals)
too_short table intervals idle is short b told =
    let same = same_or_usual IsSeconds intervals.expire _ b.idle idle same_seconds told.idle is in
    absurd (omega (arith, same, told.longer, short))

pub no_patience : (table : Members) (a : Intervals) → AreIntervals table a → TellsNothing (IsPatience table a) → TellsNothing (AreTerms table)
no_patience table a is none b told =
    let same = same_intervals table a b.intervals (record { refresh = is.refresh; retry = is.retry; expire = is.expire }) told.intervals in
    none b.patience (subst (λ (i : Intervals). IsPatience table i b.patience) same told.patience)

-- how old a list may be is told in one way
same_if_there : (o : Option Data) (a b : Option ℕ) → IsToldIfThere IsSeconds o a → IsToldIfThere IsSeconds o b → a ≡ b
same_if_there None a b x y = x ∙ sym y
same_if_there (Some found) None b x y = absurd x
same_if_there (Some found) (Some a) None x y = absurd y
same_if_there (Some found) (Some a) (Some b) x y = ap (λ (n : ℕ). Some n) (same_seconds found a b x y)

pub no_stale : (table : Members) (max_age : Option ℕ) → IsToldIfThere IsSeconds (get_member (codes "max_age") table) max_age → TellsNothing (IsStale table max_age) → TellsNothing (AreTerms table)
no_stale table max_age is none b told =
    none b.stale (subst (λ (age : Option ℕ). IsStale table age b.stale) (same_if_there _ b.max_age max_age told.max_age is) told.stale)

-- a list that is to be withdrawn isn't to be served too
one_word : (o : Option Data) → IsToldOrUsual IsStaleWord Serve o Withdraw → (b : Stale) → IsToldOrUsual IsStaleWord Serve o b → b ≡ Withdraw
one_word None told b is = absurd cc
one_word (Some found) told Withdraw is = refl
one_word (Some found) told Serve is =
    let wrong : 8 ≡ 5 = ap (λ (text : List ℕ). length text) (same_Some _ _ (sym told ∙ is)) in absurd (omega (arith, wrong))

-- where no age is told none is
pub no_age : (table : Members) (max_age : Option ℕ) → IsToldOrUsual IsStaleWord Serve (get_member (codes "stale") table) Withdraw → max_age ≡ None → TellsNothing (IsStale table max_age)
no_age table max_age told none b is = is.aged (one_word _ told b is.told) none

-- nor where no word is
pub no_word : (table : Members) (max_age : Option ℕ) → TellsNothing (IsToldOrUsual IsStaleWord Serve (get_member (codes "stale") table)) → TellsNothing (IsStale table max_age)
no_word table max_age none b told = none b told.told
