-- Bytes that are copied to a later place.
use Rattle.std.proofs.Common.{◌≡◌, ◌≤◌, ◌+◌, ◌-◌, ◌++◌, ◌∙◌, ap, length, take, drop, arith, length-append}
use Rattle.std.specs.List.{slice_range}
use Rattle.std.proofs.lemmas.List.{length-take-le, length-drop, take_at}
use Rattle.tab_table.proofs.writing.repeat_long.Goals as goal

pub returns-clause-bytes : goal.returns-clause-bytes
returns-clause-bytes c =
    let old = c.args.out.now in
    let from = c.args.from in
    let place = c.args.place in
    let len = c.args.len in
    let part = slice_range old from (from + len) in
    let wide : from + len - from ≡ len = omega arith in
    let part_long : length part ≡ from + len - from = length-take-le (from + len - from) (drop from old) (omega (arith, c.requires.before, c.requires.room, length-drop from old)) in
    let long : length (take place old ++ part) ≡ place + len = omega (arith, length-append (take place old) part, length-take-le place old (omega (arith, c.requires.room)), part_long, wide) in
    ap (take (place + len)) c.copy_within.ensures.after ∙ take_at (take place old ++ part) (drop (place + (from + len - from)) old) (place + len) long
