-- To be believed. Which records are hidden, and which are kept. (Accumulo user manual: deletes, versioning iterator)
use Rattle.std.specs.Prelude.{ℕ, List, Bool, true, false, not, ◌&&◌, nat_lt, int_le, filter, length, bytes_eq}
use Rattle.std.specs.List.{list_any}
use Rattle.tab_key.specs.Order.{stands_before}
use Rattle.tab_key.specs.Records.{Key, Record}
use Rattle.tab_key.specs.declared.key.Kind.{Kind}
use Rattle.tab_key.specs.declared.key.Kind.TheVariants.{Delete, Put}

-- a put and not a delete marker
abbrev pub is_put : Kind → Bool
is_put Delete = false
is_put Put = true

-- one column: the same row, family, qualifier and label, byte for byte
unfoldable pub same_column : Key → Key → Bool
same_column a b = bytes_eq a.row b.row && bytes_eq a.family b.family && bytes_eq a.qualifier b.qualifier && bytes_eq a.label b.label

-- a marker hides what its column has at or below its timestamp
unfoldable pub hides : Record → Record → Bool
hides m u = not (is_put m.kind) && same_column m.key u.key && int_le u.key.timestamp m.key.timestamp

-- some marker among the records hides it
unfoldable pub is_deleted : List Record → Record → Bool
is_deleted us u = list_any (λ m. hides m u) us

-- an undeleted put of the column that is newer
unfoldable pub outranks : List Record → Record → Record → Bool
outranks us u v = is_put v.kind && same_column v.key u.key && not (is_deleted us v) && stands_before v u

-- an undeleted put with fewer than n newer ones in its column
unfoldable pub is_kept : List Record → ℕ → Record → Bool
is_kept us n u = is_put u.kind && not (is_deleted us u) && nat_lt (length (filter (outranks us u) us)) n
