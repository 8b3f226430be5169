use Rattle.std.proofs.Common.{◌∙◌}
use Rattle.bgp_conf.proofs.Assertions.{asserted_of-answer}
use Rattle.bgp_conf.proofs.conf.asserted.Goals as goal

pub returns : goal.returns
returns c = c.ok.ensures.value ∙ asserted_of-answer c.args.prefix c.args.max_len c.args.asn c.new.result c.new.ensures
