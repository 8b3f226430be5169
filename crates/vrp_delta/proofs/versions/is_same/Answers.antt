use Rattle.std.proofs.Common.{◌≡◌, ◌∙◌, sym, ap, refl}
use Rattle.std.specs.Cmp.Lexicographic.{slice_cmp, lists_ties}
use Rattle.std.specs.Ordering.{is_eq}
use Rattle.std.proofs.lemmas.Iterator.{YieldsList-from_slice}
use Rattle.std.proofs.lemmas.Iterator.Consumers.{YieldsList-from_rest}
use Rattle.std.proofs.lemmas.Iterator.Search.{cmp_from_yields_List}
use Rattle.net_prefix.specs.PayloadOrder.{payload_cmp}
use Rattle.vrp_delta.proofs.versions.is_same.Goals as goal

pub returns : goal.returns
returns g c =
    let compared : c.cmp.result ≡ slice_cmp payload_cmp c.args.payloads.now c.args.set.now.keys =
    cmp_from_yields_List (λ x y. y ≡ x) _ payload_cmp _ c.cmp.ensures.ran
    (YieldsList-from_slice c.args.payloads.now cc)
    (λ it e. YieldsList-from_rest c.args.set.now.keys (e ∙ c.iter-2.ensures.rest))
    (λ x y. refl) in
    c.is_eq.ensures ∙ ap is_eq compared ∙ sym (lists_ties payload_cmp (λ x y. refl) c.args.payloads.now c.args.set.now.keys)
