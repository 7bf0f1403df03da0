-- The lengths, and behind them what the other head has.
use Rattle.std.proofs.Common.{◌≡◌, ◌+◌, List, ℕ, ◌++◌, sym, ◌∙◌, ap, take, arith}
use Rattle.std.specs.List.{slice_range}
use Rattle.tab_key.specs.Encoding.{four_bytes}
use Rattle.tab_table.proofs.Spliced.{chained}
use Rattle.tab_table.proofs.heads.write_head.Goals as goal

pub write_longer-requires-clause-ahead : goal.write_longer-requires-clause-ahead
write_longer-requires-clause-ahead c = λ t. omega (arith, c.requires.ahead t)

pub returns-clause-bytes : goal.returns-clause-bytes
returns-clause-bytes c =
    let o = c.args.out.now in
    let o1 = c.write_lens.new.out in
    let o2 = c.write_longer.new.out in
    let place = c.args.place in
    let others = c.args.others.now in
    let head = c.args.head in
    let lens = c.args.lens in
    let numbers : List ℕ = four_bytes lens.row ++ four_bytes lens.family ++ four_bytes lens.qualifier ++ four_bytes lens.label in
    let end : c.write_longer.result ≡ place + 41 = omega (arith, c.write_longer.ensures.end) in
    let last : head + 16 + 25 ≡ head + 41 = omega arith in
    ap (λ n. take n o2) (sym end)
    ∙ chained o o1 o2 numbers (slice_range others (head + 16) (head + 16 + 25)) place (place + 16) c.write_longer.result c.write_lens.ensures.bytes c.write_longer.ensures.bytes
    ∙ ap (λ n. take place o ++ (numbers ++ slice_range others (head + 16) n)) last
