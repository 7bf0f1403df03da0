use Rattle.std.proofs.Common.{subst}
use Rattle.std.specs.Prelude.{Contains}
use Rattle.tab_tablets.specs.ByRow.{records_of_all}
use Rattle.tab_store.specs.Tables.{TableState}
use Rattle.tab_store.specs.declared.table.Contents.{Contents}
use Rattle.tab_store.proofs.table.Table.write.Goals as goal

pub write-requires : goal.write-requires
write-requires c = record {
  unused = λ u h. c.requires.unused u (subst (λ (t : TableState). Contains (records_of_all t.tablets) u) c.self.view_is (subst (λ (x : Contents). Contains (records_of_all x.tablets) u) c.deref_mut.ensures.value h));
}
