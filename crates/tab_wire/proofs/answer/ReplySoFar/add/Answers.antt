use Rattle.std.proofs.Common.{◌≡◌, ◌&&◌, true, rules}
use Rattle.tab_wire.specs.Answering.{listed, is_empty}
use Rattle.tab_wire.proofs.Answering.{alone_comes}
use Rattle.tab_wire.proofs.answer.ReplySoFar.add.Goals as goal

pub returns-in_default : goal.returns-in_default
returns-in_default c =
    let none : (is_empty c.args.self.now.cells && (is_empty c.args.self.now.ranges.items && is_empty c.args.self.now.rows.items)) ≡ true = search rules in
    alone_comes (listed c.args.self.now) c.args.told c.alone.result (listed c.args.self.now) c.in_default.not-Cell c.in_default.not-End c.in_default.not-Row c.in_default.not-RangeEnd none (c.alone.ensures (listed c.args.self.now))
