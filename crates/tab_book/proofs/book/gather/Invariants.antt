use Rattle.std.specs.Prelude.{◌≡◌, ◌+◌, ◌≤◌, length, sum_by}
use Rattle.tab_book.specs.Entries.{SeatState}
use Rattle.tab_book.proofs.book.gather.Given as goal

abbrev pub invariant-loop-seat : goal.invariant-loop-seat
invariant-loop-seat g l = (l.rest.parts ≡ l.fn.rest.parts + length l.yielded) × (l.rest.amount ≡ l.fn.rest.amount + sum_by (λ (s : SeatState). s.count) l.yielded) × (l.rest.parts ≤ g.L.Ledger.parts)
