-- The head, the parts and the value are those of the entry's record.
use Rattle.std.proofs.Common.{rules, ◌≡◌, ◌≤◌, ◌<◌, ◌+◌, ◌-◌, ◌^◌, List, ℕ, ◌++◌, sym, ◌∙◌, ap, length, take, arith}
use Rattle.std.specs.List.{slice_range}
use Rattle.std.proofs.lemmas.List.{length-take-le}
use Rattle.tab_key.specs.Encoding.{length_at, span_at, record_at, IsAt}
use Rattle.tab_table.specs.Blocks.{entry_at}
use Rattle.tab_table.specs.Decoding.{key_at, parts_in}
use Rattle.tab_table.proofs.Headed.{head_of, value_width}
use Rattle.tab_table.proofs.Inside.{counts_inside}
use Rattle.tab_table.proofs.Rebuilt.{row_short, family_short, qualifier_short, label_short, row_fits, family_fits, qualifier_fits, label_fits, base_inside, parts_same, rebuilt_at, rebuilt_record}
use Rattle.tab_table.proofs.Spliced.{front_kept, kept_front, front_shorter}
use Rattle.tab_table.proofs.rebuilding.put_record.Goals as goal

pub overflow_add-at : goal.overflow_add-at
overflow_add-at c = omega (arith, counts_inside c.args.blocks.now c.args.at c.requires.entry.rest)

pub at-entry-requires : goal.at-entry-requires
at-entry-requires c = omega (arith, counts_inside c.args.blocks.now c.args.at c.requires.entry.rest)

pub plus-lens-requires-clause-row : goal.plus-lens-requires-clause-row
plus-lens-requires-clause-row c = omega (arith, c.at-entry.ensures.row, c.at-entry.ensures.row_rest, row_short (key_at (take c.args.place c.args.out.now) c.args.base) c.args.blocks.now c.args.at c.requires.entry)

pub plus-lens-requires-clause-family : goal.plus-lens-requires-clause-family
plus-lens-requires-clause-family c = omega (arith, c.at-entry.ensures.family, c.at-entry.ensures.family_rest, family_short (key_at (take c.args.place c.args.out.now) c.args.base) c.args.blocks.now c.args.at c.requires.entry)

pub plus-lens-requires-clause-qualifier : goal.plus-lens-requires-clause-qualifier
plus-lens-requires-clause-qualifier c = omega (arith, c.at-entry.ensures.qualifier, c.at-entry.ensures.qualifier_rest, qualifier_short (key_at (take c.args.place c.args.out.now) c.args.base) c.args.blocks.now c.args.at c.requires.entry)

pub plus-lens-requires-clause-label : goal.plus-lens-requires-clause-label
plus-lens-requires-clause-label c = omega (arith, c.at-entry.ensures.label, c.at-entry.ensures.label_rest, label_short (key_at (take c.args.place c.args.out.now) c.args.base) c.args.blocks.now c.args.at c.requires.entry)

pub sum-rests-requires : goal.sum-rests-requires
unfolding span_at
sum-rests-requires c = omega (arith, c.requires.entry.rest.within.value, c.requires.entry.rest.within.whole, c.at-entry.ensures.row_rest, c.at-entry.ensures.family_rest, c.at-entry.ensures.qualifier_rest, c.at-entry.ensures.label_rest)

pub overflow_add-value : goal.overflow_add-value
overflow_add-value c = omega (arith, counts_inside c.args.blocks.now c.args.at c.requires.entry.rest)

pub overflow_add-value-2 : goal.overflow_add-value-2
unfolding span_at
overflow_add-value-2 c = omega (arith, c.sum-rests.ensures, c.requires.entry.rest.within.value, c.requires.entry.rest.within.whole, c.at-entry.ensures.row_rest, c.at-entry.ensures.family_rest, c.at-entry.ensures.qualifier_rest, c.at-entry.ensures.label_rest)

pub write_head-requires-clause-ahead : goal.write_head-requires-clause-ahead
write_head-requires-clause-ahead c = λ t. omega (arith, (c.requires.steps t).ahead)

pub write_longer-requires-clause-inside : goal.write_longer-requires-clause-inside
unfolding span_at
write_longer-requires-clause-inside c = omega (arith, c.sum-rests.ensures, c.requires.entry.rest.within.whole, c.at-entry.ensures.row_rest, c.at-entry.ensures.family_rest, c.at-entry.ensures.qualifier_rest, c.at-entry.ensures.label_rest, c.at-entry.ensures.value)

pub write_longer-requires-clause-room : goal.write_longer-requires-clause-room
unfolding span_at
write_longer-requires-clause-room c = omega (arith, c.requires.room, c.write_parts-end.ensures.end, c.write_parts-end.ensures.length, c.write_head.ensures.length, c.at-entry.ensures.value)

pub write_longer-requires-clause-few : goal.write_longer-requires-clause-few
write_longer-requires-clause-few c = λ t. omega (arith, (c.requires.steps t).value, c.at-entry.ensures.value)

pub write_longer-requires-clause-ahead : goal.write_longer-requires-clause-ahead
write_longer-requires-clause-ahead c = λ t. omega (arith, (c.requires.steps t).ahead, (c.requires.steps t).row, (c.requires.steps t).family, (c.requires.steps t).qualifier, (c.requires.steps t).label, c.sum-rests.ensures, c.at-entry.ensures.row_rest, c.at-entry.ensures.family_rest, c.at-entry.ensures.qualifier_rest, c.at-entry.ensures.label_rest)

pub returns-clause-inside : goal.returns-clause-inside
unfolding span_at
returns-clause-inside c = omega (arith, c.requires.room, c.write_longer.ensures.end, c.write_longer.ensures.length, c.write_parts-end.ensures.end, c.write_parts-end.ensures.length, c.write_head.ensures.length, c.at-entry.ensures.value)

pub write_head-requires-clause-head : goal.write_head-requires-clause-head
write_head-requires-clause-head c = omega (arith, counts_inside c.args.blocks.now c.args.at c.requires.entry.rest)

pub write_head-requires-clause-room : goal.write_head-requires-clause-room
unfolding span_at
write_head-requires-clause-room c = omega (arith, c.requires.room)

pub write_parts-end-requires-clause-room : goal.write_parts-end-requires-clause-room
unfolding span_at
write_parts-end-requires-clause-room c = omega (arith, c.requires.room, c.write_head.ensures.length)

pub write_head-requires-clause-row : goal.write_head-requires-clause-row
write_head-requires-clause-row c = omega (arith, c.plus-lens.ensures.row, c.at-entry.ensures.row, c.at-entry.ensures.row_rest, row_short (key_at (take c.args.place c.args.out.now) c.args.base) c.args.blocks.now c.args.at c.requires.entry)

pub write_head-requires-clause-family : goal.write_head-requires-clause-family
write_head-requires-clause-family c = omega (arith, c.plus-lens.ensures.family, c.at-entry.ensures.family, c.at-entry.ensures.family_rest, family_short (key_at (take c.args.place c.args.out.now) c.args.base) c.args.blocks.now c.args.at c.requires.entry)

pub write_head-requires-clause-qualifier : goal.write_head-requires-clause-qualifier
write_head-requires-clause-qualifier c = omega (arith, c.plus-lens.ensures.qualifier, c.at-entry.ensures.qualifier, c.at-entry.ensures.qualifier_rest, qualifier_short (key_at (take c.args.place c.args.out.now) c.args.base) c.args.blocks.now c.args.at c.requires.entry)

pub write_head-requires-clause-label : goal.write_head-requires-clause-label
write_head-requires-clause-label c = omega (arith, c.plus-lens.ensures.label, c.at-entry.ensures.label, c.at-entry.ensures.label_rest, label_short (key_at (take c.args.place c.args.out.now) c.args.base) c.args.blocks.now c.args.at c.requires.entry)

pub write_parts-end-requires-clause-row : goal.write_parts-end-requires-clause-row
write_parts-end-requires-clause-row c = row_fits (take c.args.place c.args.out.now) c.args.blocks.now c.args.base c.args.at c.requires.entry c.write_head.new.out c.requires.base (kept_front c.args.out.now c.write_head.new.out _ c.args.place (c.args.place + 41) (omega (arith, c.requires.room)) (omega arith) c.write_head.ensures.bytes)

pub write_parts-end-requires-clause-family : goal.write_parts-end-requires-clause-family
write_parts-end-requires-clause-family c = family_fits (take c.args.place c.args.out.now) c.args.blocks.now c.args.base c.args.at c.requires.entry c.write_head.new.out c.requires.base (kept_front c.args.out.now c.write_head.new.out _ c.args.place (c.args.place + 41) (omega (arith, c.requires.room)) (omega arith) c.write_head.ensures.bytes)

pub write_parts-end-requires-clause-qualifier : goal.write_parts-end-requires-clause-qualifier
write_parts-end-requires-clause-qualifier c = qualifier_fits (take c.args.place c.args.out.now) c.args.blocks.now c.args.base c.args.at c.requires.entry c.write_head.new.out c.requires.base (kept_front c.args.out.now c.write_head.new.out _ c.args.place (c.args.place + 41) (omega (arith, c.requires.room)) (omega arith) c.write_head.ensures.bytes)

pub write_parts-end-requires-clause-label : goal.write_parts-end-requires-clause-label
write_parts-end-requires-clause-label c = label_fits (take c.args.place c.args.out.now) c.args.blocks.now c.args.base c.args.at c.requires.entry c.write_head.new.out c.requires.base (kept_front c.args.out.now c.write_head.new.out _ c.args.place (c.args.place + 41) (omega (arith, c.requires.room)) (omega arith) c.write_head.ensures.bytes)

pub write_parts-end-requires-clause-base : goal.write_parts-end-requires-clause-base
write_parts-end-requires-clause-base c = omega (arith, length-take-le c.args.place c.args.out.now (omega (arith, c.requires.room)), base_inside (take c.args.place c.args.out.now) c.args.blocks.now c.args.base c.args.at c.requires.entry c.write_head.new.out c.requires.base (kept_front c.args.out.now c.write_head.new.out _ c.args.place (c.args.place + 41) (omega (arith, c.requires.room)) (omega arith) c.write_head.ensures.bytes))

pub write_parts-end-requires-clause-rests : goal.write_parts-end-requires-clause-rests
unfolding span_at
write_parts-end-requires-clause-rests c = omega (arith, c.requires.entry.rest.within.value, c.requires.entry.rest.within.whole)

pub returns-clause-front : goal.returns-clause-front
unfolding span_at
returns-clause-front c =
    let o = c.args.out.now in
    let place = c.args.place in
    let low : place ≤ length o = omega (arith, c.requires.room) in
    let o1 = c.write_head.new.out in
    let o2 = c.write_parts-end.new.out in
    let o3 = c.write_longer.new.out in
    let one : take place o1 ≡ take place o = front_kept o o1 _ place (place + 41) low (omega arith) c.write_head.ensures.bytes in
    let two : take (place + 41) o2 ≡ take (place + 41) o1 = front_kept o1 o2 _ (place + 41) c.write_parts-end.result (omega (arith, c.write_head.ensures.length, c.requires.room)) (omega (arith, c.write_parts-end.ensures.end)) c.write_parts-end.ensures.bytes in
    let three : take c.write_parts-end.result o3 ≡ take c.write_parts-end.result o2 = front_kept o2 o3 _ c.write_parts-end.result c.write_longer.result (omega (arith, c.write_parts-end.ensures.end, c.write_parts-end.ensures.length, c.write_head.ensures.length, c.requires.room)) (omega (arith, c.write_longer.ensures.end)) c.write_longer.ensures.bytes in
    front_shorter o2 o3 place c.write_parts-end.result (omega (arith, c.write_parts-end.ensures.end)) three ∙ front_shorter o1 o2 place (place + 41) (omega arith) two ∙ one

pub returns-clause-within : goal.returns-clause-within
unfolding span_at
returns-clause-within c =
    let o = c.args.out.now in
    let blocks = c.args.blocks.now in
    let place = c.args.place in
    let base = c.args.base in
    let at = c.args.at in
    let front : List ℕ = take place o in
    let low : place ≤ length o = omega (arith, c.requires.room) in
    let long : length front ≡ place = length-take-le place o low in
    let o1 = c.write_head.new.out in
    let o2 = c.write_parts-end.new.out in
    let o3 = c.write_longer.new.out in
    let lens = c.plus-lens.result in
    let head : List ℕ = head_of lens.row lens.family lens.qualifier lens.label blocks (at + 16) in
    let value : slice_range blocks (at + 57 + c.sum-rests.result) (at + 57 + c.sum-rests.result + c.at-entry.result.value) ≡ (record_at blocks (at + 16)).value =
    let read = c.at-entry.ensures in
    let low : at + 57 + c.sum-rests.result ≡ (span_at blocks (at + 16)).label_end = omega (arith, c.sum-rests.ensures, read.row_rest, read.family_rest, read.qualifier_rest, read.label_rest) in
    let high : at + 57 + c.sum-rests.result + c.at-entry.result.value ≡ (span_at blocks (at + 16)).end = omega (arith, c.sum-rests.ensures, read.row_rest, read.family_rest, read.qualifier_rest, read.label_rest, read.value) in
    λ i. slice_range blocks (low i) (high i)
    in
    let h1 = c.write_head.ensures.bytes in
    let k1 : take place o1 ≡ front = front_kept o o1 head place (place + 41) low (omega arith) h1 in
    let same : take (length front) o1 ≡ front = ap (λ n. take n o1) long ∙ k1 in
    let h2 : take c.write_parts-end.result o2 ≡ take (place + 41) o1 ++ parts_in front base blocks at = c.write_parts-end.ensures.bytes ∙ ap (λ xs. take (place + 41) o1 ++ xs) (parts_same front blocks base at c.requires.entry o1 c.requires.base same) in
    let h3 = c.write_longer.ensures.bytes in
    let two : take c.write_parts-end.result o2 ≡ (front ++ head) ++ parts_in front base blocks at = h2 ∙ ap (λ xs. xs ++ parts_in front base blocks at) h1 in
    let all : take c.write_longer.result o3 ≡ ((front ++ head) ++ parts_in front base blocks at) ++ (record_at blocks (at + 16)).value = h3 ∙ (λ i. two i ++ value i) in
    rebuilt_at front (take c.write_longer.result o3) blocks place base at lens.row lens.family lens.qualifier lens.label (sym long) c.requires.entry
    (omega (arith, c.plus-lens.ensures.row, c.at-entry.ensures.row, c.at-entry.ensures.row_rest))
    (omega (arith, c.plus-lens.ensures.family, c.at-entry.ensures.family, c.at-entry.ensures.family_rest))
    (omega (arith, c.plus-lens.ensures.qualifier, c.at-entry.ensures.qualifier, c.at-entry.ensures.qualifier_rest))
    (omega (arith, c.plus-lens.ensures.label, c.at-entry.ensures.label, c.at-entry.ensures.label_rest))
    all

pub returns-clause-record : goal.returns-clause-record
unfolding span_at
returns-clause-record c =
    let o = c.args.out.now in
    let blocks = c.args.blocks.now in
    let place = c.args.place in
    let base = c.args.base in
    let at = c.args.at in
    let front : List ℕ = take place o in
    let low : place ≤ length o = omega (arith, c.requires.room) in
    let long : length front ≡ place = length-take-le place o low in
    let o1 = c.write_head.new.out in
    let o2 = c.write_parts-end.new.out in
    let o3 = c.write_longer.new.out in
    let lens = c.plus-lens.result in
    let head : List ℕ = head_of lens.row lens.family lens.qualifier lens.label blocks (at + 16) in
    let value : slice_range blocks (at + 57 + c.sum-rests.result) (at + 57 + c.sum-rests.result + c.at-entry.result.value) ≡ (record_at blocks (at + 16)).value =
    let read = c.at-entry.ensures in
    let low : at + 57 + c.sum-rests.result ≡ (span_at blocks (at + 16)).label_end = omega (arith, c.sum-rests.ensures, read.row_rest, read.family_rest, read.qualifier_rest, read.label_rest) in
    let high : at + 57 + c.sum-rests.result + c.at-entry.result.value ≡ (span_at blocks (at + 16)).end = omega (arith, c.sum-rests.ensures, read.row_rest, read.family_rest, read.qualifier_rest, read.label_rest, read.value) in
    λ i. slice_range blocks (low i) (high i)
    in
    let h1 = c.write_head.ensures.bytes in
    let k1 : take place o1 ≡ front = front_kept o o1 head place (place + 41) low (omega arith) h1 in
    let same : take (length front) o1 ≡ front = ap (λ n. take n o1) long ∙ k1 in
    let h2 : take c.write_parts-end.result o2 ≡ take (place + 41) o1 ++ parts_in front base blocks at = c.write_parts-end.ensures.bytes ∙ ap (λ xs. take (place + 41) o1 ++ xs) (parts_same front blocks base at c.requires.entry o1 c.requires.base same) in
    let h3 = c.write_longer.ensures.bytes in
    let two : take c.write_parts-end.result o2 ≡ (front ++ head) ++ parts_in front base blocks at = h2 ∙ ap (λ xs. xs ++ parts_in front base blocks at) h1 in
    let all : take c.write_longer.result o3 ≡ ((front ++ head) ++ parts_in front base blocks at) ++ (record_at blocks (at + 16)).value = h3 ∙ (λ i. two i ++ value i) in
    rebuilt_record front (take c.write_longer.result o3) blocks place base at lens.row lens.family lens.qualifier lens.label (sym long) c.requires.entry
    (omega (arith, c.plus-lens.ensures.row, c.at-entry.ensures.row, c.at-entry.ensures.row_rest))
    (omega (arith, c.plus-lens.ensures.family, c.at-entry.ensures.family, c.at-entry.ensures.family_rest))
    (omega (arith, c.plus-lens.ensures.qualifier, c.at-entry.ensures.qualifier, c.at-entry.ensures.qualifier_rest))
    (omega (arith, c.plus-lens.ensures.label, c.at-entry.ensures.label, c.at-entry.ensures.label_rest))
    all
