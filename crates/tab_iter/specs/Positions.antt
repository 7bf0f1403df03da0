-- For proofs. What a source has left that may stand nowhere.
use Rattle.std.specs.Prelude.{List, [], Bool, true, false}
use Rattle.tab_key.specs.Records.{Record}

-- nothing while it is unpositioned
abbrev pub unless : Bool → List Record → List Record
unless true xs = []
unless false xs = xs
