-- For proofs. What an entry says of its record.
use Rattle.std.specs.Prelude.{ℕ, ◌≡◌, ◌≤◌, ◌+◌, List, length}
use Rattle.tab_key.specs.Encoding.{length_at}
use Rattle.tab_key.specs.Records.{Key, Record}
use Rattle.tab_table.specs.Blocks.{shared}
use Rattle.tab_table.specs.declared.sharing.Counts.{Counts}

-- the head of an entry lies there, and the record is as long as what it says that is shared
pub record HasCounts (body : List ℕ) (p : ℕ) (r : Record) : Type 0 where
  pub head : p + 57 ≤ length body
  pub row : length_at body p ≤ length r.key.row
  pub family : length_at body (p + 4) ≤ length r.key.family
  pub qualifier : length_at body (p + 8) ≤ length r.key.qualifier
  pub label : length_at body (p + 12) ≤ length r.key.label

-- so many first bytes of each part a record shares with a key, and no more
pub record AreShared (c : Counts) (k : Key) (r : Record) : Type 0 where
  pub row : c.row ≡ shared k.row r.key.row
  pub family : c.family ≡ shared k.family r.key.family
  pub qualifier : c.qualifier ≡ shared k.qualifier r.key.qualifier
  pub label : c.label ≡ shared k.label r.key.label

-- each is at most so many
pub record AreFew (c : Counts) (most : ℕ) : Type 0 where
  pub row : c.row ≤ most
  pub family : c.family ≤ most
  pub qualifier : c.qualifier ≤ most
  pub label : c.label ≤ most
