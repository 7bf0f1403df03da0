-- The first of all tablets but the last that reaches the key, or the last.
use Rattle.std.proofs.Common.{◌-◌, length, arith, length-take}
use Rattle.std.proofs.lemmas.List.{length-map}
use Rattle.tab_key.specs.KeyOf.{key_of}
use Rattle.tab_key.specs.Sorted.{sorted}
use Rattle.tab_version.specs.Sources.{Sources, records_of}
use Rattle.tab_version.proofs.InOrder.{parted, found_passed, found_here}
use Rattle.tab_version.proofs.tablets.TabletsListsTabletSource.find.Goals as goal

pub count_before-requires : goal.count_before-requires
count_before-requires c = parted (key_of c.args.key) c.args.self.now.tablets.now (length c.args.self.now.tablets.now - 1) c.requires.in_turn (omega arith)

pub returns-clause-passed : goal.returns-clause-passed
returns-clause-passed c =
    found_passed (key_of c.args.key) c.args.self.now.tablets.now (length c.args.self.now.tablets.now - 1) c.count_before.result (omega arith)
    (omega (arith, c.count_before.ensures.within, length-take (length c.args.self.now.tablets.now - 1) c.args.self.now.tablets.now)) c.count_before.ensures.parted

pub returns-clause-found : goal.returns-clause-found
returns-clause-found c = λ less.
    found_here (key_of c.args.key) c.args.self.now.tablets.now (length c.args.self.now.tablets.now - 1) c.count_before.result (omega arith) c.count_before.ensures.parted
    (omega (arith, less, length-map c.args.self.now.tablets.now (λ (s : Sources). sorted (records_of s))))
