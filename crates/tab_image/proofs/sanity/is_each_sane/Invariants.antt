use Rattle.std.proofs.Common.{◌≡◌, drop}
use Rattle.std.specs.List.{list_all}
use Rattle.tab_image.specs.Conditions.{is_accepted}
use Rattle.tab_image.proofs.sanity.is_each_sane.Given as goal

abbrev pub invariant-loop-index : goal.invariant-loop-index
invariant-loop-index l = list_all (is_accepted l.next) (drop l.index l.records) ≡ list_all (is_accepted l.next) l.records
