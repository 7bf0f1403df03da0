use Rattle.std.proofs.Common.{ℕ}
use Rattle.std.proofs.lemmas.List.{drop-replicate}
use Rattle.tab_key.proofs.name.padded.Goals as goal

pub returns : goal.returns
returns c = rw (c.write_front.ensures, drop-replicate {X = ℕ})
