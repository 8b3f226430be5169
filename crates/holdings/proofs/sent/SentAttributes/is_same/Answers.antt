use Rattle.std.proofs.Common.{◌≡◌, sym, ap, ◌∙◌, rules}
use Rattle.bgp_attr.specs.AttributeSpelling.{attributes_spelling}
use Rattle.bgp_attr.specs.PathAttributes.{PathAttributes}
use Rattle.export_rules.specs.Rewriting.{rewritten}
use Rattle.holdings.proofs.sent.SentAttributes.is_same.Goals as goal

pub returns-then-eq : goal.returns-then-eq
returns-then-eq g c = λ h.
    let rewrites : c.self.inside.rewrite.value ≡ c.other.inside.rewrite.value = search rules in
    let attrs : c.self.inside.attrs.value ≡ c.other.inside.attrs.value = sym c.deref-then-eq.ensures ∙ c.are_same.ensures h ∙ c.deref-then-eq-2.ensures in
    sym c.self.view_is
    ∙ ap (λ rewrite. attributes_spelling (rewritten rewrite c.self.inside.attrs.value)) rewrites
    ∙ ap (λ (a : PathAttributes). attributes_spelling (rewritten c.other.inside.rewrite.value a)) attrs
    ∙ c.other.view_is
