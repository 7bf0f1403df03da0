-- For proofs. What was gathered, and what each stretch of it keeps.
use Rattle.tab_journal.specs.declared.gathered.Gathered.TheInside.{Inside}
use Rattle.tab_journal.specs.Journals.{AreEntries}
use Rattle.tab_journal.specs.Reading.{entries_from}
use Rattle.tab_journal.specs.Stretches.{Stretch}

-- the stretch: its events are those that its bytes say
abbrev pub stretch_in : Inside → Stretch
stretch_in g = record { clock = g.clock; entries = (entries_from g.text.bytes.items).0; bytes = g.text.bytes.items }

-- its bytes are entries
abbrev pub IsStretch : Inside → Type 0
IsStretch g = AreEntries g.text.bytes.items (entries_from g.text.bytes.items).0
