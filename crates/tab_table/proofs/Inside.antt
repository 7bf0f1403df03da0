-- The head of an entry lies in its body.
use Rattle.std.proofs.Common.{ℕ, ◌≡◌, ◌+◌, ◌≤◌, List, length, arith}
use Rattle.tab_key.specs.Encoding.{span_at, IsAt}
use Rattle.tab_key.proofs.Placed.{head_inside}
use Rattle.tab_table.specs.Blocks.{entry_end}
use Rattle.tab_table.specs.Reading.{IsRead}
use Rattle.tab_table.specs.declared.rebuilding.Entry.{Entry}

pub counts_inside : (body : List ℕ) (p : ℕ) → IsAt body (p + 16) → p + 57 ≤ length body
counts_inside body p w = omega (arith, head_inside body (p + 16) w)

-- .. and it ends where its lengths say
pub read_end : (e : Entry) (blocks : List ℕ) (p : ℕ) → IsRead e blocks p → p + (57 + e.rests.row + e.rests.family + e.rests.qualifier + e.rests.label + e.value) ≡ entry_end blocks p
unfolding span_at
read_end e blocks p read = omega (arith, read.row_rest, read.family_rest, read.qualifier_rest, read.label_rest, read.value)
