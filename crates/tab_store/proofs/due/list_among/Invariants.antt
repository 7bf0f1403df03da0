-- The tablets before this place are gone through, and the others are left.
use Rattle.std.proofs.Common.{◌≡◌, ◌≤◌, ◌++◌, List, length, drop}
use Rattle.tab_store.specs.Due.{due_among, listed_on}
use Rattle.tab_store.specs.declared.due.Due.{Due}
use Rattle.tab_store.proofs.due.list_among.Given as goal

abbrev pub invariant-loop-place : goal.invariant-loop-place
invariant-loop-place l = record {
  few : length l.list.items ≤ l.max;
  listed : (rest : List Due) → listed_on l.max l.list.items (due_among l.kind (drop l.place l.tablets) ++ rest) ≡ listed_on l.max l.fn.list.items (due_among l.kind l.tablets ++ rest);
}
