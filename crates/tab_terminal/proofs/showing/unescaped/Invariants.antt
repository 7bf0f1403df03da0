use Rattle.std.proofs.Common.{◌≡◌, ◌++◌, drop, true}
use Rattle.std.specs.Option.{option_map}
use Rattle.tab_text.specs.Reading.{unescaped, digit_fits}
use Rattle.tab_text.specs.declared.escape.Escape.TheVariants.{Outside}
use Rattle.tab_terminal.proofs.showing.unescaped.Given as goal

abbrev pub invariant-loop-byte : goal.invariant-loop-byte
invariant-loop-byte l = record {
  reads : option_map (λ bs. l.bytes.items ++ bs) (unescaped l.state (drop l.byte-index l.word)) ≡ unescaped Outside l.word;
  fits : digit_fits l.state ≡ true;
}
