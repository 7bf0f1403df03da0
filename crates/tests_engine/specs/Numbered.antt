-- For proofs. Sources whose records are told apart by their numbers.
use Rattle.std.specs.Prelude.{ℕ, ◌<◌}
use Rattle.tab_key.specs.Records.{Record}
use Rattle.tab_key.specs.Sorted.{IsDistinct, IsIn}
use Rattle.tab_version.specs.Sources.{Sources, records_of}

-- no two records stand at one place, and all numbers are below this one
pub record IsNumbered (s : Sources) (n : ℕ) : Type 0 where
  pub distinct : IsDistinct (records_of s)
  pub below : (u : Record) → IsIn (records_of s) u → u.seq < n
