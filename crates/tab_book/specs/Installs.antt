-- For proofs. Which event an Install is that comes with its finished merge.
use Rattle.tab_history.specs.declared.event.Event.{Event}
use Rattle.tab_core.specs.Stepping.{installs_at}
use Rattle.tab_book.specs.declared.installation.Installation.{Installation}

-- the event, by the number of the merge's job
abbrev pub event_of : Installation → Event
event_of asked = installs_at asked.user asked.moment asked.table asked.finished
