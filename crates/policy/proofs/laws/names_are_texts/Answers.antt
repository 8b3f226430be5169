use Rattle.policy.proofs.NameTexts.{name_of-one_text}
use Rattle.policy.proofs.laws.names_are_texts.Goals as goal

pub returns : goal.returns
returns c = name_of-one_text
