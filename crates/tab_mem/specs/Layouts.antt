-- For proofs. Where records lie.
use Rattle.std.specs.Prelude.{⊤, List, [], ◌∷◌}
use Rattle.tab_key.specs.Records.{Record}
use Rattle.tab_iter.specs.Bags.{flat}
use Rattle.tab_mem.specs.Partitions.{ArePartitions, ArePartitions-prop}
use Rattle.tab_mem.specs.declared.sorted_records.Form.{Form}
use Rattle.tab_mem.specs.declared.sorted_records.Form.TheVariants.{Nothing, Sorted, Made}
use Rattle.tab_mem.specs.declared.partitions.layout.Layout.{Layout}
use Rattle.tab_mem.specs.declared.partitions.layout.Layout.TheVariants.{One, Several}

-- what lies in one partition, or in several
abbrev pub written_in : Layout → List Record
written_in (One us) = us
written_in (Several partitions) = flat (partitions.value.lowest ∷ partitions.value.higher.items)

-- .. and the several are parted by their rows
abbrev pub AreParted : Layout → Type 0
AreParted (One us) = ⊤
AreParted (Several partitions) = ArePartitions partitions.value.lows.items partitions.value.lowest partitions.value.higher.items

-- what a freeze kept
abbrev pub kept_in : Form → List Record
kept_in Nothing = []
kept_in (Sorted records) = records.value
kept_in (Made run) = run.value

-- ---- this fact has one proof each
pub AreParted-prop : (l : Layout) → IsProp (AreParted l)
AreParted-prop (One us) a b = λ i. tt
AreParted-prop (Several partitions) a b = ArePartitions-prop partitions.value.lows.items partitions.value.lowest partitions.value.higher.items a b
