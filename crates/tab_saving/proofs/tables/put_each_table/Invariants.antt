-- Some tables were put, and those that are left can be listed.
use Rattle.std.proofs.Common.{map}
use Rattle.std.specs.List.{AllByRecursion}
use Rattle.tab_image.specs.Images.{written_version}
use Rattle.tab_image.specs.Spelling.{table_bytes}
use Rattle.tab_store.specs.Stores.{TableContents}
use Rattle.tab_store.specs.Tables.{named_table}
use Rattle.tab_saving.specs.ImageOf.{table_of}
use Rattle.tab_saving.specs.Saves.{ForUsers, AreListed}
use Rattle.tab_saving.specs.Typed.{IsTypedTable}
use Rattle.tab_saving.proofs.Texts.{PutSome}
use Rattle.tab_saving.proofs.tables.put_each_table.Given as goal

abbrev pub invariant-loop-name : goal.invariant-loop-name
invariant-loop-name g l = record {
  put : ForUsers l.policy (λ names. PutSome g.W.Output l.initial.output l.output (λ t. table_bytes written_version (table_of l.policy names t)) l.tables (map named_table l.name-iterator));
  listed : AllByRecursion (λ (t : TableContents). AreListed t.tablets) (map named_table l.name-iterator);
  typed : AllByRecursion IsTypedTable (map named_table l.name-iterator) → AllByRecursion IsTypedTable l.tables;
}
