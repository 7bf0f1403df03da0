use Rattle.std.proofs.Common.{◌≡◌, drop}
use Rattle.tab_terminal.specs.Typing.{sent, behind}
use Rattle.tab_terminal.specs.declared.place.LinePosition.TheVariants.{Between}
use Rattle.tab_terminal.proofs.sending.sent_words.Given as goal

-- behind what is written stands what is sent for the bytes that are left
abbrev pub invariant-loop-byte : goal.invariant-loop-byte
invariant-loop-byte l = record {
  sends : behind l.text.items (sent l.place (drop l.byte-index l.line)) ≡ sent Between l.line;
}
