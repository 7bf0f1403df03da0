-- The record lies there in the longer body too.
use Rattle.std.proofs.Common.{rules, ◌≡◌, ◌<◌, List, ℕ, sym, ◌∙◌, ap, subst, length, map, take, get_or, arith}
use Rattle.std.specs.List.{slice_index}
use Rattle.std.proofs.lemmas.List.{length-map, get_or_default}
use Rattle.tab_key.specs.Encoding.{record_at, records_at, IsAt}
use Rattle.tab_key.proofs.Placed.{there_at, record_there}
use Rattle.tab_table.proofs.Longer.{longer_at, longer_record}
use Rattle.tab_table.proofs.decoded.Decoded.get.Goals as goal

pub at-requires : goal.at-requires
at-requires c =
    let self = c.args.self.now in
    let out : List ℕ = take self.end self.body.items in
    let all : c.as_slice.result.now ≡ self.body.items = search rules in
    let many : c.args.index < length (records_at out self.places.items) = omega (arith, c.requires, length-map self.places.items (record_at out)) in
    let told : c.index.result.now ≡ get_or self.places.items c.args.index c.index.result.now = search rules in
    let place : c.index.result.now ≡ slice_index self.places.items c.args.index = told ∙ get_or_default self.places.items c.args.index c.index.result.now 0 c.requires in
    subst (λ (xs : List ℕ). IsAt xs c.index.result.now) (sym all) (subst (IsAt self.body.items) (sym place) (longer_at self.body.items self.end (slice_index self.places.items c.args.index) self.inside (there_at out self.places.items c.args.index self.within many)))

pub returns : goal.returns
returns c = λ u.
    let self = c.args.self.now in
    let out : List ℕ = take self.end self.body.items in
    let all : c.as_slice.result.now ≡ self.body.items = search rules in
    let many : c.args.index < length (records_at out self.places.items) = omega (arith, c.requires, length-map self.places.items (record_at out)) in
    let told : c.index.result.now ≡ get_or self.places.items c.args.index c.index.result.now = search rules in
    let place : c.index.result.now ≡ slice_index self.places.items c.args.index = told ∙ get_or_default self.places.items c.args.index c.index.result.now 0 c.requires in
    c.at.ensures ∙ (λ i. record_at (all i) (place i)) ∙ longer_record self.body.items self.end (slice_index self.places.items c.args.index) self.inside (there_at out self.places.items c.args.index self.within many) ∙ record_there out self.places.items c.args.index u many
