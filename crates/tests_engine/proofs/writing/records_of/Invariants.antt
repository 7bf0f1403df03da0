use Rattle.std.proofs.Common.{◌≡◌, ◌+◌, ◌++◌, length}
use Rattle.tab_mem.specs.Cursors.{whole, rest}
use Rattle.tests_engine.proofs.writing.records_of.Given as goal

abbrev pub invariant-loop : goal.invariant-loop
invariant-loop l = record {
  all : l.records.items ++ rest l.cursor ≡ l.clip;
  many : l.counter + length (rest l.cursor) ≡ length l.clip;
}
