-- The records of the tablets before this place were put.
use Rattle.std.proofs.Common.{take}
use Rattle.std.specs.List.{AllByRecursion}
use Rattle.tab_io.specs.Writing.{HasPut}
use Rattle.tab_store.specs.Listing.{listed}
use Rattle.tab_saving.specs.Typed.{IsTypedRecord}
use Rattle.tab_saving.proofs.Listings.{written_of}
use Rattle.tab_saving.proofs.records.put_tablets.Given as goal

abbrev pub invariant-loop-place : goal.invariant-loop-place
invariant-loop-place g l = record {
  put : HasPut g.W.Output l.initial.output l.output (written_of (take l.place l.table.tablets));
  typed : AllByRecursion IsTypedRecord (listed (take l.place l.table.tablets));
}
