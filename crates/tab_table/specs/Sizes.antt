-- To be believed by whoever relies on it. How many bytes records take in a sorted table.
--
-- They stand in blocks of 64, the last of which may have fewer. In its block a record leaves out the first bytes of row, family, qualifier
-- and label that the same part of the record before it has; a block's first record leaves out none.
use Rattle.std.specs.Prelude.{ℕ, suc, pos, ◌+◌, ◌-◌, ◌%◌, ◌==◌, List, [], ◌∷◌, length, cond}
use Rattle.tab_key.specs.Records.{Key, Record}

-- how many first bytes two byte strings share
abbrev pub shared : List ℕ → List ℕ → ℕ
shared [] ys = 0
shared (x ∷ xs) [] = 0
shared (x ∷ xs) (y ∷ ys) = cond (x == y) (suc (shared xs ys)) 0

-- what a record takes that stands behind one with this key: 57 bytes, what its four parts don't share with that key's, and its value
abbrev pub size_behind : Key → Record → ℕ
size_behind k r = 57 + (length r.key.row - shared k.row r.key.row) + (length r.key.family - shared k.family r.key.family) + (length r.key.qualifier - shared k.qualifier r.key.qualifier) + (length r.key.label - shared k.label r.key.label) + length r.value

-- the key that stands before a block's first record
abbrev pub no_key : Key
no_key = record { row = []; family = []; qualifier = []; label = []; timestamp = pos 0 }

-- the key that the record with an index shares bytes with: that of the record before it, but none where a block begins
abbrev pub base_of : ℕ → Key → Key
base_of k before = cond (k % 64 == 0) no_key before

-- what these records take, the first of which has this index and stands behind one with this key
abbrev pub sizes_from : ℕ → Key → List Record → ℕ
sizes_from k before [] = 0
sizes_from k before (r ∷ rs) = size_behind (base_of k before) r + sizes_from (k + 1) r.key rs

-- what the records of a whole table take
unfoldable pub encoded_size : List Record → ℕ
encoded_size rs = sizes_from 0 no_key rs

-- the key of the last of some records, or the one before them
abbrev pub key_behind : Key → List Record → Key
key_behind before [] = before
key_behind before (r ∷ rs) = key_behind r.key rs
