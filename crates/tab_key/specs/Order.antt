-- To be believed. The order of keys and of records. (Accumulo user manual: sorted keys)
use Rattle.std.specs.Prelude.{ℕ, List, Bool, ◌≡◌, ◌<◌, ◌⊎◌, ◌↔◌}
use Rattle.std.specs.List.{AllByRecursion}
use Rattle.std.specs.declared.cmp.Ordering.{Ordering}
use Rattle.std.specs.declared.cmp.Ordering.TheVariants.{Equal}
use Rattle.std.specs.Ordering.{nat_cmp, int_cmp, on, flip_args, then_cmp, is_lt}
use Rattle.tab_key.specs.Bytes.{bytes_cmp}
use Rattle.tab_key.specs.Records.{Key, Record}
use Rattle.tab_key.specs.declared.key.Kind.{Kind}
use Rattle.tab_key.specs.declared.key.Kind.TheVariants.{Delete, Put}

-- a marker stands before a put
abbrev pub kind_rank : Kind → ℕ
kind_rank Delete = 0
kind_rank Put = 1

-- row, family, qualifier and label, each rising
unfoldable pub column_cmp : Key → Key → Ordering
column_cmp = then_cmp (then_cmp (then_cmp (on (λ k. k.row) bytes_cmp) (on (λ k. k.family) bytes_cmp)) (on (λ k. k.qualifier) bytes_cmp)) (on (λ k. k.label) bytes_cmp)

-- the column, then the greater timestamp
unfoldable pub key_cmp : Key → Key → Ordering
key_cmp = then_cmp column_cmp (flip_args (on (λ k. k.timestamp) int_cmp))

-- the key, then a marker before a put
unfoldable pub place_cmp : Record → Record → Ordering
place_cmp = then_cmp (on (λ r. r.key) key_cmp) (on (λ r. kind_rank r.kind) nat_cmp)

-- the greater mutation number, then the greater place in the mutation
unfoldable pub newer_cmp : Record → Record → Ordering
newer_cmp = then_cmp (flip_args (on (λ r. r.seq) nat_cmp)) (flip_args (on (λ r. r.idx) nat_cmp))

-- the first record was accepted after the second
abbrev pub IsNewer : Record → Record → Type 0
IsNewer x y = (y.seq < x.seq) ⊎ ((y.seq ≡ x.seq) × (y.idx < x.idx))

-- all mutation numbers lie below n
abbrev pub NumbersBelow : ℕ → List Record → Type 0
NumbersBelow n records = AllByRecursion (λ r. r.seq < n) records

-- the order of records
abbrev pub record_cmp : Record → Record → Ordering
record_cmp = then_cmp place_cmp newer_cmp

-- whether one record comes strictly before another
abbrev pub stands_before : Record → Record → Bool
stands_before a b = is_lt (record_cmp a b)

-- two records tie where key, kind and both numbers are equal, and nowhere else; the value isn't read
abbrev pub TiesAreOne : Type 0
TiesAreOne = (a b : Record) → (record_cmp a b ≡ Equal) ↔ ((a.key ≡ b.key) × (a.kind ≡ b.kind) × (a.seq ≡ b.seq) × (a.idx ≡ b.idx))
