use Rattle.std.proofs.Common.{◌≡◌, ◌+◌, ◌∷◌, drop, sym, ap, ◌∙◌, true, false}
use Rattle.std.proofs.lemmas.List.{drop_more}
use Rattle.std.specs.BTreeSet.{insert_key}
use Rattle.net_prefix.specs.PayloadOrder.{payload_cmp}
use Rattle.vrp_delta.specs.Walks.{from_payload, is_first}
use Rattle.vrp_delta.proofs.Walks.{walked-step}
use Rattle.vrp_delta.proofs.delta.lacked_by.Goals as goal
use Rattle.vrp_delta.proofs.delta.lacked_by.Goals.{then-not-begins_with+in_ok-insert, else-not-begins_with}

pub loop-payload-preserved : goal.loop-payload-preserved
loop-payload-preserved g c =
    let here : drop c.loop-payload.payload-index c.args.set.now ≡ c.payload-item.result ∷ drop (c.loop-payload.payload-index + 1) c.args.set.now =
    drop_more c.args.set.now c.loop-payload.payload-index c.payload-item.result c.loop-payload-test.true
    ∙ ap (λ x. x ∷ drop (c.loop-payload.payload-index + 1) c.args.set.now) (sym c.payload-item.is) in
    let walked = rw here at c.loop-payload.invariant in
    rw c.not_below-rest.ensures
    (elim c.if-not-begins_with.branch [
      | then-not-begins_with+in_ok-insert w ↦
          let first : false ≡ is_first c.payload-item.result (from_payload c.payload-item.result c.loop-payload.rest.now) = cc in
          let put : c.if-not-begins_with.found.keys ≡ insert_key payload_cmp c.loop-payload.found.keys c.payload-item.result = ap (λ s. s.keys) w.found-is ∙ w.in_ok-insert.ensures.keys in
          walked-step _ _ _ _ _ _ false walked first put
      | else-not-begins_with w ↦
          let first : true ≡ is_first c.payload-item.result (from_payload c.payload-item.result c.loop-payload.rest.now) = cc in
          let same : c.if-not-begins_with.found.keys ≡ c.loop-payload.found.keys = cc in
          walked-step _ _ _ _ _ _ true walked first same
    ])
