use Rattle.std.proofs.Common.{◌∙◌, ap, take}
use Rattle.tab_key.specs.Encoding.{records_at}
use Rattle.tab_mem.proofs.Shortened.{indexed_cut, records_cut}
use Rattle.tab_mem.proofs.records.Records.truncate.Goals as goal

pub invariant_of-self : goal.invariant_of-self
invariant_of-self c =
    let p = c.self.inside in
    indexed_cut p.body.items p.places.items c.truncate.new.self.items p.row_index.numbers.items c.truncate-2.new.self.numbers.items c.args.count c.truncate.ensures.items c.self.invariant
    (c.truncate-2.ensures (records_at p.body.items p.places.items) c.self.invariant.row_index)

pub returns : goal.returns
returns c =
    let p = c.self.inside in
    ap (records_at p.body.items) c.truncate.ensures.items ∙ records_cut p.body.items p.places.items c.args.count ∙ ap (take c.args.count) c.self.view_is
