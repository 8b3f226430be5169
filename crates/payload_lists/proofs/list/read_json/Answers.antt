use Rattle.std.proofs.Common.{◌∙◌, ℕ, List, subst}
use Rattle.vrp_json.specs.PayloadDocument.{IsRefused}
use Rattle.payload_lists.proofs.Reading.{timed}
use Rattle.payload_lists.proofs.list.read_json.Goals as goal

pub returns-in-Err : goal.returns-in-Err
returns-in-Err g c = λ rest left. c.fault_of.ensures _

pub returns-in-Ok : goal.returns-in-Ok
returns-in-Ok g c = λ rest left.
    timed c.args.second _ _ c.in-Ok.loaded c.with_time.result (c.as_slice-text.ensures.value ∙ (rw left at c.in_default.ensures.bytes)) c.in-Ok.ensures c.with_time.ensures

pub returns : goal.returns
returns g c = λ rest left.
    subst (λ (octets : List ℕ). IsRefused octets c.in-Err-read_list_at.fault) (c.as_slice-text.ensures.value ∙ (rw left at c.in_default.ensures.bytes)) c.in-Err-read_list_at.ensures
