use Rattle.speaker_laws.proofs.AnsweredRefreshes.{asked_held, named_answered, names_are, none_asked, others_stay, refresh_asks, repeats_asked}
use Rattle.speaker_laws.proofs.a_refresh_is_answered_once.Goals as goal

pub returns-clause-asks : goal.returns-clause-asks
returns-clause-asks c = refresh_asks

pub returns-clause-answers : goal.returns-clause-answers
returns-clause-answers c = named_answered

pub returns-clause-others : goal.returns-clause-others
returns-clause-others c = others_stay

pub returns-clause-names : goal.returns-clause-names
returns-clause-names c = names_are

pub returns-clause-begins : goal.returns-clause-begins
returns-clause-begins c = none_asked

pub returns-clause-held : goal.returns-clause-held
returns-clause-held c = asked_held

pub returns-clause-repeats : goal.returns-clause-repeats
returns-clause-repeats c = repeats_asked
