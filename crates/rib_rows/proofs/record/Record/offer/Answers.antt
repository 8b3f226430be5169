use Rattle.std.proofs.Common.{[]}
use Rattle.std.proofs.lemmas.List.Elements.{All-cons, All-nil}
use Rattle.std.specs.Option.{IsSome}
use Rattle.decision.specs.declared.book.Change.{Change}
use Rattle.rib_rows.specs.PrefixRows.{route_of}
use Rattle.rib_rows.proofs.record.Record.offer.Goals as goal

pub change-requires-clause-routed : goal.change-requires-clause-routed
change-requires-clause-routed g c =
    let change : Change = record { slot = c.args.slot; candidate = c.args.candidate } in
    All-cons (λ (ch : Change). IsSome (route_of c.args.self.now.row ch.slot)) change [] c.requires.routed (All-nil (λ (ch : Change). IsSome (route_of c.args.self.now.row ch.slot)))
