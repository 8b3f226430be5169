-- How much a wire keeps in mind for a log (own).
use Rattle.std.specs.Prelude.{ℕ}

-- how many things that were seen are kept at most
unfoldable pub most_events : ℕ
most_events = 512
