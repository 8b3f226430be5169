-- The state of a route's origin, found among the payloads that cover its prefix.
use Rattle.std.proofs.Common.{◌≡◌, ◌<◌, ◌||◌, Bool, true, false, cond, List, [], ◌∷◌, Option, length, refl, sym, ap, subst, ◌∙◌, arith}
use Rattle.std.proofs.lemmas.List.Folds.{list_any-append}
use Rattle.std.specs.List.{AllByRecursion, list_any}
use Rattle.net_prefix.specs.declared.asn.Asn.{Asn}
use Rattle.net_prefix.specs.declared.payload.Vrp.{Vrp}
use Rattle.net_prefix.specs.declared.prefix.Prefix.{Prefix}
use Rattle.prefix_trie.specs.CoverWalks.{all_covering, covers}
use Rattle.origin_valid.specs.KeptPayloads.{AreByPrefix, AreOfPrefix, payloads_of}
use Rattle.origin_valid.specs.Validity.{covers_route, matches, validity}
use Rattle.origin_valid.specs.declared.validity.Validity.{Validity}
use Rattle.origin_valid.specs.declared.validity.Validity.TheVariants.{Valid, Invalid, NotFound}

-- the state that the entries of those that cover make of a state
abbrev pub judged : Prefix → Option Asn → Validity → List (Prefix × List Vrp) → Validity
judged prefix origin state [] = state
judged prefix origin state (e ∷ es) = cond (list_any (matches prefix origin) e.1) Valid (judged prefix origin Invalid es)

module _ (prefix : Prefix) (origin : Option Asn) where
  abbrev covered : List Vrp → Bool
  covered set = list_any (covers_route prefix) set

  abbrev matched : List Vrp → Bool
  matched set = list_any (matches prefix origin) set

  abbrev Own : Prefix → List Vrp → Type 0
  Own p set = AllByRecursion (λ v. v.prefix ≡ p) set

  pub covered_none : (p : Prefix) (set : List Vrp) → Own p set → covers p prefix ≡ false → covered set ≡ false
  covered_none p [] own h = refl
  covered_none p (v ∷ set) own h =
      let first : covers v.prefix prefix ≡ false = subst (λ (k : Prefix). covers k prefix ≡ false) (sym own.0) h in
      rw first (covered_none p set own.1 h)

  pub matched_none : (p : Prefix) (set : List Vrp) → Own p set → covers p prefix ≡ false → matched set ≡ false
  matched_none p [] own h = refl
  matched_none p (v ∷ set) own h =
      let first : covers v.prefix prefix ≡ false = subst (λ (k : Prefix). covers k prefix ≡ false) (sym own.0) h in
      rw first (matched_none p set own.1 h)

  covered_some : (p : Prefix) (set : List Vrp) → Own p set → 0 < length set → covers p prefix ≡ true → covered set ≡ true
  covered_some p [] own some h = absurd (omega arith)
  covered_some p (v ∷ set) own some h =
      let first : covers v.prefix prefix ≡ true = subst (λ (k : Prefix). covers k prefix ≡ true) (sym own.0) h in
      rw first refl

  abbrev state_from : Validity → Bool → Bool → Validity
  state_from state m c = cond m Valid (cond c Invalid state)

  here_case : (state : Validity) (m n d : Bool) → state_from state (m || n) (true || d) ≡ cond m Valid (state_from Invalid n d)
  here_case state true n d = refl
  here_case state false true d = refl
  here_case state false false true = refl
  here_case state false false false = refl

  entry_case : (state : Validity) (e : Prefix × List Vrp) (es : List (Prefix × List Vrp)) (b : Bool) → covers e.0 prefix ≡ b → AreOfPrefix e.0 e.1
      → ((s : Validity) → state_from s (matched (payloads_of es)) (covered (payloads_of es)) ≡ judged prefix origin s (all_covering prefix es))
      → state_from state (matched e.1 || matched (payloads_of es)) (covered e.1 || covered (payloads_of es)) ≡ judged prefix origin state (cond b (e ∷ all_covering prefix es) (all_covering prefix es))
  entry_case state e es true at of_prefix more =
      rw (covered_some e.0 e.1 of_prefix.own of_prefix.some at)
      (here_case state (matched e.1) (matched (payloads_of es)) (covered (payloads_of es)) ∙ ap (cond (matched e.1) Valid) (more Invalid))
  entry_case state e es false at of_prefix more =
      rw (covered_none e.0 e.1 of_prefix.own at, matched_none e.0 e.1 of_prefix.own at) (more state)

  judged_from : (es : List (Prefix × List Vrp)) → AllByRecursion (λ e. AreOfPrefix e.0 e.1) es
      → (state : Validity) → state_from state (matched (payloads_of es)) (covered (payloads_of es)) ≡ judged prefix origin state (all_covering prefix es)
  judged_from [] each state = refl
  judged_from (e ∷ es) each state =
      rw (list_any-append (matches prefix origin) e.1 (payloads_of es), list_any-append (covers_route prefix) e.1 (payloads_of es))
      (entry_case state e es (covers e.0 prefix) refl each.0 (judged_from es each.1))

  -- the state by all payloads is that by the entries of those that cover
  pub validity-judged : (es : List (Prefix × List Vrp)) → AreByPrefix es → validity (payloads_of es) prefix origin ≡ judged prefix origin NotFound (all_covering prefix es)
  validity-judged es h = judged_from es h.each NotFound

  -- an entry of which a payload matches
  pub judged-valid : (state : Validity) (l es : List (Prefix × List Vrp)) (e : Prefix × List Vrp) → l ≡ e ∷ es → matched e.1 ≡ true → judged prefix origin state l ≡ Valid
  judged-valid state l es e is h = rw (is, h) refl

  -- an entry of which none matches
  pub judged-invalid : (state : Validity) (l es : List (Prefix × List Vrp)) (e : Prefix × List Vrp) → l ≡ e ∷ es → matched e.1 ≡ false → judged prefix origin state l ≡ judged prefix origin Invalid es
  judged-invalid state l es e is h = rw (is, h) refl

  -- no entry
  pub judged-none : (state : Validity) (l : List (Prefix × List Vrp)) → l ≡ [] → judged prefix origin state l ≡ state
  judged-none state l is = rw is refl
