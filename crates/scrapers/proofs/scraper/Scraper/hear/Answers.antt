use Rattle.std.proofs.Common.{◌≡◌, ◌++◌, inr, rules, ap, sym, ◌∙◌}
use Rattle.scrapers.proofs.Hearing.{heard}
use Rattle.scrapers.specs.Scraping.{Scrape}
use Rattle.scrapers.proofs.scraper.Scraper.hear.Goals as goal

pub returns-clause-moves : goal.returns-clause-moves
returns-clause-moves g c =
    let came : c.try_extend_from_slice.new.self.items ≡ c.self.inside.request.items ++ c.args.octets.now = search rules in
    let was = ap (λ (s : Scrape). s.request) c.self.view_is in
    inr (inr (heard c.args.self.now c.follow.new.self c.args.octets.now c.as_slice.result.now c.judge_request-asked.result (c.as_slice.ensures.value ∙ came ∙ ap (λ request. request ++ c.args.octets.now) was)
    (c.follow.ensures.request ∙ sym c.as_slice.ensures.value) c.judge_request-asked.ensures c.follow.ensures.follows))
