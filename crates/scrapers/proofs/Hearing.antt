-- Octets of a request that came, and octets of an answer that went.
use Rattle.std.proofs.Common.{◌≡◌, ◌+◌, ◌++◌, ◌⊎◌, inr, ℕ, List, ap, drop, subst, sym, ◌∙◌}
use Rattle.std.proofs.lemmas.List.{drop-drop}
use Rattle.prometheus_text.specs.Requests.{AsksFor}
use Rattle.prometheus_text.specs.declared.request.Asked.{Asked}
use Rattle.scrapers.specs.Scraping.{Follows, Hears, Scrape}
use Rattle.scrapers.specs.declared.scraper.Stage.{Stage}
use Rattle.scrapers.specs.declared.scraper.Stage.TheVariants.{Answered, Over}

pub heard : (old new : Scrape) (octets whole : List ℕ) (asked : Asked) → whole ≡ old.request ++ octets → new.request ≡ whole → AsksFor whole asked → Follows asked new → Hears old new
heard old new octets whole asked gathered same asks follows = record {
  octets = octets;
  gathered = same ∙ gathered;
  asked = asked;
  asks = subst (λ (request : List ℕ). AsksFor request asked) (sym same) asks;
  follows = follows;
}

pub passed : (unsaid : List ℕ) (stage : Stage) (answer : List ℕ) (count written more : ℕ) → stage ≡ Answered → drop written answer ≡ unsaid → more ≡ written + count
    → (stage ≡ Over) ⊎ ((stage ≡ Answered) × ((count : ℕ) × (drop more answer ≡ drop count unsaid)))
passed unsaid stage answer count written more is was sum =
    inr (is, (count, ap (λ (n : ℕ). drop n answer) sum ∙ sym (drop-drop count written answer) ∙ ap (λ (octets : List ℕ). drop count octets) was))
