-- For proofs. What a cursor goes over.
use Rattle.std.specs.Prelude.{List, ◌-◌, drop}
use Rattle.tab_key.specs.Records.{Record}
use Rattle.tab_mem.specs.Lists.{part}
use Rattle.tab_mem.specs.declared.cursor.RunCursor.{RunCursor}

-- all records of its part of the run
abbrev pub whole : RunCursor → List Record
whole c = part c.from c.end c.records.now

-- those that are left
abbrev pub rest : RunCursor → List Record
rest c = drop (c.at - c.from) (whole c)
