-- The figures of a served list at a moment.
use Rattle.std.specs.Prelude.{◌-◌, ℕ, count_by, is_some}
use Rattle.cache_turns.specs.Holding.{held, holding_of}
use Rattle.cache_turns.specs.declared.holding.Holding.{Holding}
use Rattle.cache_figures.specs.declared.figures.CacheFigures.{CacheFigures}
use Rattle.cache_program.specs.Rereads.{Served}

-- how many routers hold what is served, another list, and none
abbrev pub holding : Served → Holding
holding served = holding_of served.serial (held served.turns)

abbrev pub figures_of : ℕ → Served → CacheFigures
figures_of now served = record {
  serial = served.serial;
  payloads = served.payloads;
  routers = count_by is_some served.turns.links;
  current = (holding served).current;
  behind = (holding served).behind;
  without = (holding served).without;
  octets_in = served.turns.counts.wire.octets_in;
  octets_out = served.turns.counts.wire.octets_out;
  lost = served.turns.counts.lost;
  closed = served.turns.counts.closed;
  read = now - served.read;
  withdrawn = served.turns.cache.shared.withdrawn;
}
