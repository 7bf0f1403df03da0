-- To be believed by whoever relies on it. Work that is due on a tablet. (Accumulo user manual: minor and major compactions, splitting)
use Rattle.std.specs.Prelude.{ℕ, List, Bool, ◌++◌, ◌*◌, ◌&&◌, cond, is_some, length, nat_le}
use Rattle.std.specs.List.{sum_by}
use Rattle.tab_iter.specs.Bags.{flat}
use Rattle.tab_version.specs.Sources.{Sorted, size_of}
use Rattle.tab_compact.specs.Plans.{plan}
use Rattle.tab_compact.specs.Merges.{by_size, sizes_of}
use Rattle.tab_tablet.specs.Tablets.{Tablet}
use Rattle.tab_tablet.specs.declared.due.DueKind.{DueKind}
use Rattle.tab_tablet.specs.declared.due.DueKind.TheVariants.{Minor, Partial, Split}

-- Whether work of this kind is due: what was written and the runs come to 4,096 records or more; a partial compaction would merge some of
-- the sorted tables; or these come to 16,777,216 bytes or more.
abbrev pub is_due : DueKind → Tablet → Bool
is_due Minor t = nat_le 4096 (length (t.active ++ flat t.sources.runs))
is_due Partial t = is_some (plan (sizes_of (by_size t.sources.tables)))
is_due Split t = nat_le 16777216 (size_of t.sources)

-- ---- plans, said without an order
-- of these tables how many are no larger than this, in bytes, and how large they are together
abbrev pub count_within : ℕ → List Sorted → ℕ
count_within limit ts = sum_by (λ (t : Sorted). cond (nat_le t.size limit) 1 0) ts

abbrev pub size_within : ℕ → List Sorted → ℕ
size_within limit ts = sum_by (λ (t : Sorted). cond (nat_le t.size limit) t.size 0) ts

-- whether they are two or more, of which three times that is at most the sum
abbrev pub fit_within : ℕ → List Sorted → Bool
fit_within limit ts = nat_le 2 (count_within limit ts) && nat_le (3 * limit) (size_within limit ts)
