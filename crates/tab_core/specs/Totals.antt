-- To be believed by whoever relies on it. What all tables hold, counted.
use Rattle.std.specs.Prelude.{ℕ, ◌+◌, List, sum_by}
use Rattle.tab_history.specs.declared.counts.Counts.{Counts}
use Rattle.tab_store.specs.Stores.{TableContents, told_count, counts_of}

-- counts, each added to its like; the greatest u64 for any sum above it
abbrev pub added : Counts → Counts → Counts
added a b = record { tablets = told_count (a.tablets + b.tablets); sources = told_count (a.sources + b.sources); records = told_count (a.records + b.records) }

-- one of the counts that a Status tells of a table, summed over these tables; the greatest u64 for any sum above it
abbrev pub total : (Counts → ℕ) → List TableContents → ℕ
total one ts = told_count (sum_by (λ (t : TableContents). one (counts_of t.tablets)) ts)

-- what a Status tells of each of these tables, summed
abbrev pub totals_of : List TableContents → Counts
totals_of ts = record { tablets = total (λ c. c.tablets) ts; sources = total (λ c. c.sources) ts; records = total (λ c. c.records) ts }
