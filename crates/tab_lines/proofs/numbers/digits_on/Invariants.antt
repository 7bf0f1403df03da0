use Rattle.std.proofs.Common.{◌≡◌, drop, ◌<◌, ◌^◌}
use Rattle.tab_lines.specs.Fields.{digits_on}
use Rattle.tab_lines.proofs.numbers.digits_on.Given as goal

abbrev pub invariant-loop-digit : goal.invariant-loop-digit
invariant-loop-digit l = record {
  reads : digits_on l.n (drop l.digit-index l.digits) ≡ digits_on 0 l.digits;
  fits : l.n < 2 ^ 64;
}
