use Rattle.std.proofs.Common.{◌≡◌, ◌++◌, drop, true}
use Rattle.std.specs.Option.{option_map}
use Rattle.tab_text.specs.Reading.{unescaped, digit_fits}
use Rattle.tab_text.specs.declared.escape.Escape.TheVariants.{Outside}
use Rattle.tab_lines.proofs.spelling.unescaped.Given as goal

abbrev pub invariant-loop-byte : goal.invariant-loop-byte
invariant-loop-byte l = record {
  reads : option_map (λ bs. l.bytes.items ++ bs) (unescaped l.state (drop l.byte-index l.text)) ≡ unescaped Outside l.text;
  fits : digit_fits l.state ≡ true;
}
