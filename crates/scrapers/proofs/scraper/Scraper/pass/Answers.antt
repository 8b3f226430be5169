use Rattle.std.proofs.Common.{ap, ◌∙◌}
use Rattle.scrapers.proofs.Hearing.{passed}
use Rattle.scrapers.specs.Scraping.{Scrape}
use Rattle.scrapers.proofs.scraper.Scraper.pass.Goals as goal

pub returns-in-Some-clause-says : goal.returns-in-Some-clause-says
returns-in-Some-clause-says g c =
    passed c.args.self.now.unsaid c.self.inside.stage c.self.inside.answer.items c.args.count c.self.inside.written c.in-Some.written (ap (λ (s : Scrape). s.stage) c.self.view_is ∙ c.requires)
    (ap (λ (s : Scrape). s.unsaid) c.self.view_is) c.in-Some.ensures.1
