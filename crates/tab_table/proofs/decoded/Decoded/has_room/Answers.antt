-- No more is shared than the record before has.
use Rattle.std.proofs.Common.{rules, ◌≡◌, ◌≤◌, ◌+◌, ◌-◌, List, ℕ, length, take, arith}
use Rattle.std.proofs.lemmas.List.{length-take-le}
use Rattle.std.proofs.lemmas.Bool.Decides.{nat_tests}
use Rattle.tab_key.specs.Encoding.{length_at, span_at}
use Rattle.tab_key.proofs.Placed.{head_inside}
use Rattle.tab_table.proofs.Inside.{counts_inside, read_end}
use Rattle.tab_table.proofs.Rebuilt.{own_enough}
use Rattle.tab_table.proofs.decoded.Decoded.has_room.Goals as goal

pub at-requires : goal.at-requires
at-requires c = omega (arith, counts_inside c.args.blocks.now c.args.self.now.at c.requires.entry.rest)

pub size-more-requires : goal.size-more-requires
size-more-requires c = omega (arith, c.requires.entry.rest.within.whole, read_end c.at.result c.args.blocks.now c.args.self.now.at c.at.ensures)

pub overflow_sub-own : goal.overflow_sub-own
overflow_sub-own c = omega (arith, head_inside (take c.args.self.now.end c.args.self.now.body.items) c.args.self.now.base c.requires.base, length-take-le c.args.self.now.end c.args.self.now.body.items c.args.self.now.inside)

pub overflow_add-need : goal.overflow_add-need
overflow_add-need c = omega (arith, c.size-more.ensures, c.requires.entry.rest.within.whole, read_end c.at.result c.args.blocks.now c.args.self.now.at c.at.ensures)

pub returns : goal.returns
returns c = λ t.
    let self = c.args.self.now in
    let out : List ℕ = take self.end self.body.items in
    let enough = own_enough out c.args.blocks.now self.base self.at c.requires.entry c.requires.base in
    let long = length-take-le self.end self.body.items self.inside in
    let ends = read_end c.at.result c.args.blocks.now self.at c.at.ensures in
    grind (arith, nat_tests, t, enough, long, ends, c.size-more.ensures, c.saturating_sub-room.ensures)
