-- The bytes, and behind them the first of many zeros.
use Rattle.std.proofs.Common.{rules, ◌≡◌, ◌+◌, List, ℕ, ◌++◌, length, take, replicate, ap, ◌∙◌}
use Rattle.tab_iter.proofs.LastColumn.{zeros_behind}
use Rattle.tab_iter.proofs.last_column.put_apart.Goals as goal

pub returns : goal.returns
returns c =
    let all : c.extend_from_slice-2.new.self.items ≡ c.args.bytes.now ++ replicate 64 0 = search rules in
    ap (take (length c.args.bytes.now + 1)) all ∙ zeros_behind c.args.bytes.now
