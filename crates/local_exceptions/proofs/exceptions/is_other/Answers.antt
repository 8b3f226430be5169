use Rattle.std.proofs.Common.{◌≡◌, rules, not, ap, sym, ◌∙◌}
use Rattle.std.specs.BTreeMap.{is_at}
use Rattle.local_exceptions.specs.FilterLengths.{is_other}
use Rattle.local_exceptions.specs.contracts.filter.FilterOrd.TheImpl as own
use Rattle.local_exceptions.proofs.Filters.{other_own}
use Rattle.local_exceptions.proofs.exceptions.is_other.Goals as goal

pub returns-in-Some : goal.returns-in-Some
returns-in-Some c =
    let apart : c.ne.result ≡ not (is_at (own.ghosts.cmp c.in-Some.but) c.args.filter.now) = search rules in
    apart ∙ ap not (other_own c.in-Some.but c.args.filter.now) ∙ ap (λ o. is_other o c.args.filter.now) (sym c.in-Some.is)
