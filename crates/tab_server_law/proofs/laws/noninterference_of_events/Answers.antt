use Rattle.tab_server_law.proofs.EqualEvents.{two_worlds_of_events}
use Rattle.tab_server_law.proofs.laws.noninterference_of_events.Goals as goal

pub returns : goal.returns
returns c = two_worlds_of_events
