-- For proofs. When two records are the same.
use Rattle.std.specs.Prelude.{Bool, ◌&&◌, ◌==◌, bytes_eq}
use Rattle.std.specs.Ordering.{int_eq}
use Rattle.tab_key.specs.Kept.{same_column}
use Rattle.tab_key.specs.Order.{kind_rank}
use Rattle.tab_key.specs.Records.{Record}

-- the same key, kind, value, number and place
unfoldable pub same_record : Record → Record → Bool
same_record a b = same_column a.key b.key && int_eq a.key.timestamp b.key.timestamp && kind_rank a.kind == kind_rank b.kind && bytes_eq a.value b.value && a.seq == b.seq && a.idx == b.idx
