-- For proofs. The tablets of a version.
use Rattle.std.specs.Prelude.{List, map}
use Rattle.tab_key.specs.Records.{Record}
use Rattle.tab_iter.specs.Bags.{flat}
use Rattle.tab_mem.specs.Lists.{HasShortParts}
use Rattle.tab_version.specs.InTurn.{AreInTurn, in_order}
use Rattle.tab_version.specs.Sources.{Sources, records_of}

-- all records of the tablets, one tablet after another
abbrev pub records_of_all : List Sources → List Record
records_of_all ts = flat (map records_of ts)

-- none is empty, one lies behind the other, and all parts are short
pub record IsVersion (ts : List Sources) : Type 0 where
  pub in_turn : AreInTurn (in_order ts)
  pub short : HasShortParts (records_of_all ts)
