use Rattle.std.proofs.Common.{◌≡◌, ◌||◌, Bool, true, false, cond, ℕ, List, Some, None, sym, ap, ◌∙◌}
use Rattle.std.specs.Prelude.{OnErr, Result, Ok, Err}
use Rattle.std.specs.BTreeMap.{insert_entry}
use Rattle.std.specs.List.{list_any}
use Rattle.std.specs.Ordering.{nat_cmp}
use Rattle.bgp_attr.specs.ReceivedAttributes.{Attribute, attribute_at, split_of}
use Rattle.bgp_attr.specs.UnknownAttributes.{Unknown, is_kept, kept_behind}
use Rattle.bgp_attr.proofs.Splits.{behind_none, behind_some}

-- How unknown attributes are read, one attribute behind the other.

abbrev any_kept : List Attribute → Bool
any_kept attributes = list_any (λ a. is_kept a) attributes

-- the attribute at the front is kept, or isn't
pub any_here : (octets rest : List ℕ) (a : Attribute) → attribute_at octets ≡ Some (a, rest) → is_kept a ≡ true → list_any (λ a. is_kept a) (split_of octets).0 ≡ true
any_here octets rest a at is = behind_some any_kept octets a rest at ∙ ap (λ (b : Bool). b || any_kept (split_of rest).0) is

pub any_behind : (octets rest : List ℕ) (a : Attribute) → attribute_at octets ≡ Some (a, rest) → is_kept a ≡ false → list_any (λ a. is_kept a) (split_of octets).0 ≡ list_any (λ a. is_kept a) (split_of rest).0
any_behind octets rest a at is = behind_some any_kept octets a rest at ∙ ap (λ (b : Bool). b || any_kept (split_of rest).0) is

pub any_none : (octets : List ℕ) → attribute_at octets ≡ None → list_any (λ a. is_kept a) (split_of octets).0 ≡ false
any_none octets at = behind_none any_kept octets at

pub kept_here : (unknown new : Unknown) (octets rest : List ℕ) (a : Attribute) → attribute_at octets ≡ Some (a, rest) → is_kept a ≡ true → new ≡ insert_entry nat_cmp unknown a.code a.value
    → kept_behind unknown (split_of octets).0 ≡ kept_behind new (split_of rest).0
kept_here unknown new octets rest a at is next =
    behind_some (kept_behind unknown) octets a rest at
    ∙ (ap (λ (b : Bool). kept_behind (cond b (insert_entry nat_cmp unknown a.code a.value) unknown) (split_of rest).0) is
    ∙ ap (λ (u : Unknown). kept_behind u (split_of rest).0) (sym next))

pub not_kept : (unknown : Unknown) (octets rest : List ℕ) (a : Attribute) → attribute_at octets ≡ Some (a, rest) → is_kept a ≡ false → kept_behind unknown (split_of octets).0 ≡ kept_behind unknown (split_of rest).0
not_kept unknown octets rest a at is =
    behind_some (kept_behind unknown) octets a rest at ∙ ap (λ (b : Bool). kept_behind (cond b (insert_entry nat_cmp unknown a.code a.value) unknown) (split_of rest).0) is

pub kept_none : (unknown : Unknown) (octets : List ℕ) → attribute_at octets ≡ None → kept_behind unknown (split_of octets).0 ≡ unknown
kept_none unknown octets at = behind_none (kept_behind unknown) octets at

-- what holds holds of a refusal
pub on_refusal : {T E : Type 0} (P : Type 0) (result : Result T E) → P → OnErr result P
on_refusal P (Ok value) h = tt
on_refusal P (Err refusal) h = h
