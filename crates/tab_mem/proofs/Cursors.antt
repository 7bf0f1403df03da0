-- What a cursor has left, as a part of its run.
use Rattle.std.proofs.Common.{◌≡◌, ℕ, ◌+◌, ◌-◌, ◌<◌, ◌≤◌, List, Some, sym, ◌∙◌, ap, drop, take, length, arith}
use Rattle.std.specs.List.{slice_index_or}
use Rattle.tab_key.specs.Records.{Record}
use Rattle.tab_iter.proofs.ListSourceLaws.{tail_drop}
use Rattle.tab_iter.specs.Lists.{first_of, tail}
use Rattle.tab_mem.specs.Lists.{part}
use Rattle.tab_mem.proofs.Parts.{drop_sum, top_of_part}

pub left_part : (from at end : ℕ) (rs : List Record) → from ≤ at → drop (at - from) (part from end rs) ≡ part at end rs
left_part from at end rs le =
    let sum : (at - from) + from ≡ at = omega arith in
    sym (drop_sum (at - from) from (take end rs)) ∙ ap (λ k. drop k (take end rs)) sum

-- the first record left
pub first_left : (from at end : ℕ) (rs : List Record) (u : Record) → from ≤ at → at < end → end ≤ length rs → u ≡ slice_index_or rs at u → Some u ≡ first_of (drop (at - from) (part from end rs))
first_left from at end rs u le lt fits is = top_of_part rs at end u lt fits is ∙ ap first_of (sym (left_part from at end rs le))

-- one less is left
pub passed_one : (from at end : ℕ) (rs : List Record) → from ≤ at → drop ((at + 1) - from) (part from end rs) ≡ tail (drop (at - from) (part from end rs))
passed_one from at end rs le =
    let more : (at + 1) - from ≡ (at - from) + 1 = omega arith in
    ap (λ k. drop k (part from end rs)) more ∙ tail_drop (at - from) (part from end rs)
