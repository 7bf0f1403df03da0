-- For proofs. What an entry says of lengths.
use Rattle.std.specs.Prelude.{ℕ, ◌≡◌, ◌≤◌, ◌+◌, List, length}
use Rattle.tab_key.specs.Encoding.{length_at}
use Rattle.tab_table.specs.declared.rebuilding.Entry.{Entry}

-- these are what the entry at a place says
pub record IsRead (e : Entry) (blocks : List ℕ) (p : ℕ) : Type 0 where
  pub row : e.counts.row ≡ length_at blocks p
  pub family : e.counts.family ≡ length_at blocks (p + 4)
  pub qualifier : e.counts.qualifier ≡ length_at blocks (p + 8)
  pub label : e.counts.label ≡ length_at blocks (p + 12)
  pub row_rest : e.rests.row ≡ length_at blocks (p + 16)
  pub family_rest : e.rests.family ≡ length_at blocks (p + 16 + 4)
  pub qualifier_rest : e.rests.qualifier ≡ length_at blocks (p + 16 + 8)
  pub label_rest : e.rests.label ≡ length_at blocks (p + 16 + 12)
  pub value : e.value ≡ length_at blocks (p + 16 + 16)

-- of the record of the entry at a place no part is longer than the one number, and the value no longer than the other; and so many bytes
-- lie from the entry's beginning on
pub record MayStep (blocks : List ℕ) (p longest_part longest_value onward : ℕ) : Type 0 where
  pub row : length_at blocks p + length_at blocks (p + 16) ≤ longest_part
  pub family : length_at blocks (p + 4) + length_at blocks (p + 16 + 4) ≤ longest_part
  pub qualifier : length_at blocks (p + 8) + length_at blocks (p + 16 + 8) ≤ longest_part
  pub label : length_at blocks (p + 12) + length_at blocks (p + 16 + 12) ≤ longest_part
  pub value : length_at blocks (p + 16 + 16) ≤ longest_value
  pub ahead : p + onward ≤ length blocks
