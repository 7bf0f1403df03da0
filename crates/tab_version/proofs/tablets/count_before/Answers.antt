use Rattle.std.proofs.Common.{rules, not}
use Rattle.std.proofs.lemmas.List.Sorted.{IsPartitionPoint-from_clause}
use Rattle.tab_key.specs.KeyOf.{key_of}
use Rattle.tab_version.specs.InTurn.{reaches}
use Rattle.tab_version.specs.Sources.{Sources, records_of}
use Rattle.tab_version.proofs.tablets.count_before.Goals as goal

pub returns-clause-parted : goal.returns-clause-parted
returns-clause-parted c = IsPartitionPoint-from_clause (λ (t : Sources). not (reaches (key_of c.args.key) (records_of t))) _ _ c.partition_point.ensures.partitioned c.requires (λ a r q k. search rules)
