-- One scraper's connection (own): a request is heard, an answer is said, and then it is over.
use Rattle.std.specs.Prelude.{◌≡◌, ◌≤◌, ◌+◌, ◌++◌, ◌⊎◌, ℕ, Bool, true, false, List, [], drop, length, nat_le}
use Rattle.prometheus_text.specs.Answers.{answer_of}
use Rattle.prometheus_text.specs.Requests.{AsksFor, most_octets}
use Rattle.prometheus_text.specs.declared.request.Asked.{Asked}
use Rattle.prometheus_text.specs.declared.request.Asked.TheVariants.{More, Metrics, OtherTarget, OtherMethod, NoRequest, TooMuch}
use Rattle.scrapers.specs.declared.scraper.Stage.{Stage}
use Rattle.scrapers.specs.declared.scraper.Stage.TheVariants.{Asking, Waiting, Answered, Over}

-- when it came, how far it is, what it has sent of its request, and what of its answer isn't written yet
pub record Scrape : Type 0 where
  pub came : ℕ
  pub stage : Stage
  pub request : List ℕ
  pub unsaid : List ℕ

-- no more octets are kept than a request may have, and who waits has asked for the figures
pub record IsHeard (stage : Stage) (request : List ℕ) : Type 0 where
  pub bound : length request ≤ most_octets
  pub waits : stage ≡ Waiting → AsksFor request Metrics

-- it is here for ten seconds
abbrev pub is_late : ℕ → Scrape → Bool
is_late now scrape = nat_le (scrape.came + 10) now

-- it is over, or a tail of this is still to be written
abbrev pub IsSaying : List ℕ → Scrape → Type 0
IsSaying text scrape = (scrape.stage ≡ Over) ⊎ ((scrape.stage ≡ Answered) × ((count : ℕ) × (scrape.unsaid ≡ drop count text)))

-- what follows where this was asked for: the figures are waited for, and anything else is answered at once
abbrev pub Follows : Asked → Scrape → Type 0
Follows More scrape = scrape.stage ≡ Asking
Follows Metrics scrape = scrape.stage ≡ Waiting
Follows OtherTarget scrape = IsSaying (answer_of OtherTarget []) scrape
Follows OtherMethod scrape = IsSaying (answer_of OtherMethod []) scrape
Follows NoRequest scrape = IsSaying (answer_of NoRequest []) scrape
Follows TooMuch scrape = IsSaying (answer_of TooMuch []) scrape

-- octets came, behind those that had come
pub record Hears (old new : Scrape) : Type 0 where
  pub octets : List ℕ
  pub gathered : new.request ≡ old.request ++ octets
  pub asked : Asked
  pub asks : AsksFor new.request asked
  pub follows : Follows asked new

-- a visit of one that isn't late, by how far it is
abbrev pub Moves : Stage → Scrape → Scrape → Type 0
Moves Asking old new = (new.stage ≡ Over) ⊎ ((new ≡ old) ⊎ Hears old new)
Moves Waiting old new = new ≡ old
Moves Answered old new = IsSaying old.unsaid new × (new.request ≡ old.request)
Moves Over old new = new ≡ old

-- a visit: one that is late is over
abbrev pub Visits : Bool → Scrape → Scrape → Type 0
Visits true old new = new.stage ≡ Over
Visits false old new = Moves old.stage old new
