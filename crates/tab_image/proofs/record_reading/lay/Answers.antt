use Rattle.std.proofs.Common.{rules, ◌≡◌, ℤ, [], length, w64, to_z, of_z, sym, subst}
use Rattle.tab_image.specs.Laying.{HasLaid}
use Rattle.tab_image.specs.Reading.{record_at}
use Rattle.tab_image.specs.Streams.{Stops}
use Rattle.tab_image.proofs.RecordLemmas.{all_laid, stops_1, stops_2, stops_3, stops_4, stops_5, stops_6, stops_7, stops_8, stops_9}
use Rattle.tab_image.proofs.record_reading.lay.Goals as goal

pub returns-in_err-read_part : goal.returns-in_err-read_part
returns-in_err-read_part g c =
    let stop : Stops g.R.Input c.args.input.now c.read_part.new.input record_at c.in_err-read_part.field-0.0 = stops_1 g.R.Input _ _ _ c.in_err-read_part.ensures.bytes in
    search (rules, stop)

pub returns-in_err-read_part-2 : goal.returns-in_err-read_part-2
returns-in_err-read_part-2 g c =
    let stop : Stops g.R.Input c.args.input.now c.read_part-2.new.input record_at c.in_err-read_part-2.field-0.0 = stops_2 g.R.Input _ _ _ _ _ c.in_ok-read_part.ensures.bytes.read c.in_err-read_part-2.ensures.bytes in
    search (rules, stop)

pub returns-in_err-read_part-3 : goal.returns-in_err-read_part-3
returns-in_err-read_part-3 g c =
    let stop : Stops g.R.Input c.args.input.now c.read_part-3.new.input record_at c.in_err-read_part-3.field-0.0 = stops_3 g.R.Input _ _ _ _ _ _ _ c.in_ok-read_part.ensures.bytes.read c.in_ok-read_part-2.ensures.bytes.read c.in_err-read_part-3.ensures.bytes in
    search (rules, stop)

pub returns-in_err-read_part-4 : goal.returns-in_err-read_part-4
returns-in_err-read_part-4 g c =
    let stop : Stops g.R.Input c.args.input.now c.read_part-4.new.input record_at c.in_err-read_part-4.field-0.0 = stops_4 g.R.Input _ _ _ _ _ _ _ _ _ c.in_ok-read_part.ensures.bytes.read c.in_ok-read_part-2.ensures.bytes.read c.in_ok-read_part-3.ensures.bytes.read c.in_err-read_part-4.ensures.bytes in
    search (rules, stop)

pub returns-in_err-timestamp : goal.returns-in_err-timestamp
returns-in_err-timestamp g c =
    let stop : Stops g.R.Input c.args.input.now c.read_i64.new.input record_at c.in_err-timestamp.field-0.0 = stops_5 g.R.Input _ _ _ _ _ _ _ _ _ _ _ c.in_ok-read_part.ensures.bytes.read c.in_ok-read_part-2.ensures.bytes.read c.in_ok-read_part-3.ensures.bytes.read c.in_ok-read_part-4.ensures.bytes.read c.in_err-timestamp.ensures in
    search (rules, stop)

pub returns-in_err-kind : goal.returns-in_err-kind
returns-in_err-kind g c =
    let stop : Stops g.R.Input c.args.input.now c.read_kind.new.input record_at c.in_err-kind.field-0.0 = stops_6 g.R.Input _ _ _ _ _ _ _ _ _ _ _ _ _ c.in_ok-read_part.ensures.bytes.read c.in_ok-read_part-2.ensures.bytes.read c.in_ok-read_part-3.ensures.bytes.read c.in_ok-read_part-4.ensures.bytes.read c.in_ok-timestamp.ensures c.in_err-kind.ensures in
    search (rules, stop)

pub returns-in_err-seq : goal.returns-in_err-seq
returns-in_err-seq g c =
    let stop : Stops g.R.Input c.args.input.now c.read_u64.new.input record_at c.in_err-seq.field-0.0 = stops_7 g.R.Input _ _ _ _ _ _ _ _ _ _ _ _ _ _ _ c.in_ok-read_part.ensures.bytes.read c.in_ok-read_part-2.ensures.bytes.read c.in_ok-read_part-3.ensures.bytes.read c.in_ok-read_part-4.ensures.bytes.read c.in_ok-timestamp.ensures c.in_ok-kind.ensures c.in_err-seq.ensures in
    search (rules, stop)

pub returns-in_err-idx : goal.returns-in_err-idx
returns-in_err-idx g c =
    let stop : Stops g.R.Input c.args.input.now c.read_u32.new.input record_at c.in_err-idx.field-0.0 = stops_8 g.R.Input _ _ _ _ _ _ _ _ _ _ _ _ _ _ _ _ _ c.in_ok-read_part.ensures.bytes.read c.in_ok-read_part-2.ensures.bytes.read c.in_ok-read_part-3.ensures.bytes.read c.in_ok-read_part-4.ensures.bytes.read c.in_ok-timestamp.ensures c.in_ok-kind.ensures c.in_ok-seq.ensures c.in_err-idx.ensures in
    search (rules, stop)

pub returns-in_err-read_part-5 : goal.returns-in_err-read_part-5
returns-in_err-read_part-5 g c =
    let stop : Stops g.R.Input c.args.input.now c.read_part-5.new.input record_at c.in_err-read_part-5.field-0.0 = stops_9 g.R.Input _ _ _ _ _ _ _ _ _ _ _ _ _ _ _ _ _ _ _ c.in_ok-read_part.ensures.bytes.read c.in_ok-read_part-2.ensures.bytes.read c.in_ok-read_part-3.ensures.bytes.read c.in_ok-read_part-4.ensures.bytes.read c.in_ok-timestamp.ensures c.in_ok-kind.ensures c.in_ok-seq.ensures c.in_ok-idx.ensures c.in_err-read_part-5.ensures.bytes in
    search (rules, stop)

pub returns : goal.returns
returns g c =
    let n1 : c.len-row_end.result ≡ length c.read_part.new.parts.items = search rules in
    let n2 : c.len-family_end.result ≡ length c.read_part-2.new.parts.items = search rules in
    let n3 : c.len-qualifier_end.result ≡ length c.read_part-3.new.parts.items = search rules in
    let n4 : c.len-label_end.result ≡ length c.read_part-4.new.parts.items = search rules in
    let none : c.clear.new.self.items ≡ [] = search rules in
    let time = c.in_ok-timestamp.timestamp in
    let same : to_z w64 (of_z w64 time) ≡ time = search rules in
    subst (λ (t : ℤ). HasLaid g.R.Input c.args.input.now c.read_part-5.new.input c.read_part-5.new.parts.items (record { row_end = c.len-row_end.result; family_end = c.len-family_end.result; qualifier_end = c.len-qualifier_end.result; label_end = c.len-label_end.result; timestamp = t; kind = c.in_ok-kind.kind; seq = c.in_ok-seq.seq; idx = c.in_ok-idx.idx })) (sym same)
    (all_laid g.R.Input _ _ _ _ _ _ _ _ _ _ _ _ _ _ _ _ c.len-row_end.result c.len-family_end.result c.len-qualifier_end.result c.len-label_end.result time _ _ _ none
    c.in_ok-read_part.ensures.bytes c.in_ok-read_part-2.ensures.bytes c.in_ok-read_part-3.ensures.bytes c.in_ok-read_part-4.ensures.bytes c.in_ok-timestamp.ensures c.in_ok-kind.ensures c.in_ok-seq.ensures c.in_ok-idx.ensures c.in_ok-read_part-5.ensures.bytes n1 n2 n3 n4
    c.in_ok-read_part.ensures.short c.in_ok-read_part-2.ensures.short c.in_ok-read_part-3.ensures.short c.in_ok-read_part-4.ensures.short c.in_ok-read_part-5.ensures.short)
