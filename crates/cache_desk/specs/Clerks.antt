-- What of a clerk others see (own): all but what it writes on, and what is left of tables.
use Rattle.cache_desk.specs.Desks.{DeskState}
use Rattle.cache_desk.specs.declared.clerk.Clerk.{Clerk}

abbrev pub state_of : {P : Type 0} → Clerk P → DeskState P
state_of clerk = record {
  operators = clerk.operators;
  asking = clerk.asking;
  askers = clerk.askers;
  asked = clerk.asked;
  last = clerk.last;
  stopped = clerk.stopped;
}
