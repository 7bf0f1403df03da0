-- For proofs. Parts of runs and of tables.
use Rattle.std.specs.Prelude.{ℕ, ◌≤◌, List, ◌++◌, length, map}
use Rattle.tab_key.specs.Records.{Record}
use Rattle.tab_iter.specs.Lists.{IsRising, HasI64Timestamps}
use Rattle.tab_mem.specs.Lists.{HasShortParts}
use Rattle.tab_version.specs.Sources.{Sorted, Sources}

-- the two indexes name a part of the list, which rises and has short parts
pub record IsPart (from end : ℕ) (rs : List Record) : Type 0 where
  pub ordered : from ≤ end
  pub inside : end ≤ length rs
  pub rising : IsRising rs
  pub timestamps : HasI64Timestamps rs
  pub short : HasShortParts rs

-- the records of each source
abbrev pub lists_of : Sources → List (List Record)
lists_of s = s.runs ++ map (λ (t : Sorted). t.records) s.tables
