-- Worked examples, computed: how many bytes records take in a sorted table.
use Rattle.std.specs.Prelude.{◌≡◌, ℕ, pos, List, [], ◌∷◌, ◌*◌, ◌+◌, codes, replicate, refl}
use Rattle.tab_key.specs.Records.{Record}
use Rattle.tab_key.specs.declared.key.Kind.TheVariants.{Put}
use Rattle.tab_table.specs.Sizes.{encoded_size, shared}

-- a put of a value of one byte in this row, by the mutation with this number
abbrev put : List ℕ → ℕ → Record
put row seq = record { key = record { row = row; family = codes "f"; qualifier = codes "q"; label = []; timestamp = pos 1 }; kind = Put; value = codes "v"; seq = seq; idx = 0 }

-- the same record, so many times
abbrev many : ℕ → List Record
many n = replicate n (put (codes "row") 1)

-- none takes none
nothing : encoded_size [] ≡ 0
unfolding encoded_size
nothing = refl

-- the first of a block takes 57 bytes, its parts and its value
one : encoded_size (many 1) ≡ 57 + 3 + 1 + 1 + 0 + 1
unfolding encoded_size
one = refl

-- each later one what it doesn't share
a_block : encoded_size (many 64) ≡ 63 + 63 * 58
unfolding encoded_size
a_block = refl

-- the 65th begins a block
one_more : encoded_size (many 65) ≡ (63 + 63 * 58) + 63
unfolding encoded_size
one_more = refl

-- .. and so does the 129th
two_and_one : encoded_size (many 129) ≡ (63 + 63 * 58) + (63 + 63 * 58) + 63
unfolding encoded_size
two_and_one = refl

-- rows that share their first byte
two_rows : encoded_size (put (codes "aa") 1 ∷ put (codes "ab") 2 ∷ []) ≡ 121
unfolding encoded_size
two_rows = refl

-- a row that goes on, and one that ends early
longer : shared (codes "ab") (codes "abc") ≡ 2
longer = refl

shorter : shared (codes "abc") (codes "ab") ≡ 2
shorter = refl

-- a byte that agrees behind one that doesn't isn't shared
broken : shared (codes "axc") (codes "abc") ≡ 1
broken = refl
