-- Bytes that are gathered in memory stand there at once.
use Rattle.std.proofs.Common.{ℕ, ◌≡◌, List, [], ◌++◌, length, Some, sym, ap, ◌∙◌, arith}
use Rattle.std.proofs.lemmas.List.{take_all, drop_all}
use Rattle.tab_io.specs.Streams.{Gathers}

pub gathers_all : (old bs new : List ℕ) → new ≡ old ++ bs → Gathers (Some old) [] (Some new) [] bs
gathers_all old bs new is = record {
  count = length bs;
  fits = omega arith;
  written = is ∙ sym (ap (λ x. old ++ x) (take_all (length bs) bs (omega arith)));
  left = sym (drop_all (length bs) bs (omega arith));
}
