-- There is a restart for each 16th record.
use Rattle.std.proofs.Common.{◌≡◌, rules}
use Rattle.std.specs.List.{slice_index_or}
use Rattle.tab_mem.proofs.Seeking.{blank}
use Rattle.tab_table.proofs.Walked.{restart_there}
use Rattle.tab_table.proofs.packed.Packed.restart_at.Goals as goal

pub returns-clause-is : goal.returns-clause-is
returns-clause-is c =
    let self = c.args.self.now in
    let same : slice_index_or self.restarts.each.items c.args.restart c.index.result.now ≡ c.index.result.now = search rules in
    (restart_there self.bytes self.count self.laid self.restarts.each.items self.restarts.shares.items self.restarted c.args.restart c.index.result.now c.requires same).is

pub returns-clause-rest : goal.returns-clause-rest
returns-clause-rest c =
    let self = c.args.self.now in
    let same : slice_index_or self.restarts.each.items c.args.restart c.index.result.now ≡ c.index.result.now = search rules in
    (restart_there self.bytes self.count self.laid self.restarts.each.items self.restarts.shares.items self.restarted c.args.restart c.index.result.now c.requires same).rest

pub returns-clause-inside : goal.returns-clause-inside
returns-clause-inside c =
    let self = c.args.self.now in
    let same : slice_index_or self.restarts.each.items c.args.restart c.index.result.now ≡ c.index.result.now = search rules in
    ((restart_there self.bytes self.count self.laid self.restarts.each.items self.restarts.shares.items self.restarted c.args.restart c.index.result.now c.requires same).is blank).kept.inside
