use Rattle.std.proofs.Common.{◌≡◌, ◌++◌, drop}
use Rattle.tab_terminal.specs.Showing.{shown_bytes}
use Rattle.tab_terminal.proofs.showing.put_bytes.Given as goal

-- behind what is written stands what is shown of the bytes that are left
abbrev pub invariant-loop-byte : goal.invariant-loop-byte
invariant-loop-byte l = record {
  shows : l.text.items ++ shown_bytes l.quoted l.drawn (drop l.byte-index l.bytes) ≡ l.fn.text.items ++ shown_bytes l.quoted l.drawn l.bytes;
}
