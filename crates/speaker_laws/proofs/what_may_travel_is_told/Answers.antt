use Rattle.speaker_laws.proofs.TravellingUpdates.{exports_travel, held_travels, owed_travels}
use Rattle.speaker_laws.proofs.what_may_travel_is_told.Goals as goal

pub returns-clause-exported : goal.returns-clause-exported
returns-clause-exported c = exports_travel

pub returns-clause-queued : goal.returns-clause-queued
returns-clause-queued c = owed_travels

pub returns-clause-held : goal.returns-clause-held
returns-clause-held c = held_travels
