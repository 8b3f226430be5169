use Rattle.std.proofs.Common.{ap, ◌∙◌}
use Rattle.rib_rows.specs.PrefixRows.{adj_in_of, book_of}
use Rattle.rib_rows.specs.Records.{RecordTable, routed, sent_of}
use Rattle.loc_rib.proofs.SentTables.{none_kept, none_sent}
use Rattle.loc_rib.specs.RibTables.{RibTables, started}
use Rattle.loc_rib.specs.SentTables.{sent_to}
use Rattle.loc_rib.proofs.ribs.Ribs.new.Goals as goal

pub invariant_of-result : goal.invariant_of-result
invariant_of-result g c = none_kept c.in_ok-rows.rows.entries c.in_ok-rows.ensures c.new-3.result.holders c.new-3.result.askers c.new-3.result.all_asked

pub returns : goal.returns
returns g c =
    let sent = sent_of c.in_ok-rows.rows.entries in
    let view : RecordTable → RibTables = λ es. record { adj_in = adj_in_of (routed es); book = book_of (routed es); chosen = c.new-2.result.count; sent = sent } in (
      ap view c.in_ok-rows.ensures ∙ ap (λ n. record started { chosen = n; sent = sent }) c.new-2.ensures,
      λ s. ap (λ es. sent_to (sent_of es) s) c.in_ok-rows.ensures ∙ none_sent s,
    )
