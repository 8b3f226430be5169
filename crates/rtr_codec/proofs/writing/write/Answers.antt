use Rattle.std.proofs.Common.{List, ℕ, sym, subst}
use Rattle.rtr_codec.specs.PduSpelling.{content_of}
use Rattle.rtr_codec.specs.PduStream.{IsReadFirst}
use Rattle.rtr_codec.proofs.Spellings.{written_first}
use Rattle.rtr_codec.proofs.writing.write.Goals as goal

pub returns-clause-read : goal.returns-clause-read
returns-clause-read c carried place =
    let content = content_of c.args.pdu.now in
    subst (λ (octets : List ℕ). IsReadFirst place octets content) (sym c.spell.ensures.octets)
    (written_first place content (c.spell.ensures.lawful carried))
