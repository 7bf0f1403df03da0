use Rattle.std.proofs.Common.{◌≡◌, ◌<◌, ◌∙◌, sym, ap, map, length, arith}
use Rattle.std.specs.List.{slice_index, slice_index_or}
use Rattle.std.proofs.lemmas.List.{get_or-map, get_or_default, length-map}
use Rattle.tab_key.specs.Encoding.{record_at, records_at}
use Rattle.tab_key.specs.Records.{cell_of}
use Rattle.tab_key.proofs.Placed.{record_there}
use Rattle.tab_key.proofs.cells.Cells.get.Goals as goal

pub returns : goal.returns
returns c =
    let body = c.self.inside.body.items in
    let places = c.self.inside.places.items in
    let rs = records_at body places in
    let index = c.args.index in
    let all : map cell_of rs ≡ c.args.self.now = c.self.view_is in
    let low : index < length rs = omega (arith, c.requires, ap length all, length-map rs cell_of) in
    let place : c.index.result.now ≡ slice_index places index = c.index.ensures ∙ get_or_default places index c.index.result.now 0 (omega (arith, low, length-map places (record_at body))) in
    let lent : c.at.result ≡ record_at body (slice_index places index) = c.at.ensures ∙ (λ i. record_at (c.as_slice.ensures.value i) (place i)) in
    let read = lent ∙ record_there body places index c.at.result low in
    c.of.ensures ∙ ap cell_of read ∙ sym (get_or-map cell_of rs index c.at.result c.of.result low) ∙ ap (λ cells. slice_index_or cells index c.of.result) all
