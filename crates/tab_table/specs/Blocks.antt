-- For proofs. How records lie in blocks of 64, one block behind the other.
--
-- An entry of a block has four numbers of 4 bytes each, the most significant byte first: how many first bytes of row, family, qualifier and
-- label are those of the record before it in its block. What the record has beyond these bytes follows as a record lies in a body
-- (`tab_key`, `Encoding`): a head of 41 bytes, the rests of the four parts, and the value. A block's first record shares nothing.
use Rattle.std.specs.Prelude.{ℕ, zero, suc, pos, ◌≡◌, ◌≤◌, ◌+◌, List, [], ◌∷◌, ◌++◌, length, take, drop}
use Rattle.std.specs.Coded.{le_prop}
use Rattle.tab_key.specs.Encoding.{length_at, span_at, record_at, IsAt, IsShort, AreAt-prop}
use Rattle.tab_key.specs.Records.{Key, Record}
pub use Rattle.tab_table.specs.Sizes.{shared, size_behind, no_key, base_of, sizes_from, key_behind}
use Rattle.tab_table.specs.Sizes.{encoded_size}

-- ---- reading
-- the record of which so many first bytes of each part are the base's and the others those of the rest
abbrev pub rebuilt : Key → ℕ → ℕ → ℕ → ℕ → Record → Record
rebuilt base row family qualifier label rest = record rest {
  key = record {
    row = take row base.row ++ rest.key.row;
    family = take family base.family ++ rest.key.family;
    qualifier = take qualifier base.qualifier ++ rest.key.qualifier;
    label = take label base.label ++ rest.key.label;
    timestamp = rest.key.timestamp;
  };
}

-- the record whose entry begins at a place
abbrev pub entry_at : Key → List ℕ → ℕ → Record
entry_at base body p = rebuilt base (length_at body p) (length_at body (p + 4)) (length_at body (p + 8)) (length_at body (p + 12)) (record_at body (p + 16))

-- where the entry ends
abbrev pub entry_end : List ℕ → ℕ → ℕ
entry_end body p = (span_at body (p + 16)).end

-- it lies in the body whole, the base is as long as what is taken of it, and the record is short
pub record IsEntry (base : Key) (body : List ℕ) (p : ℕ) : Type 0 where
  pub row : length_at body p ≤ length base.row
  pub family : length_at body (p + 4) ≤ length base.family
  pub qualifier : length_at body (p + 8) ≤ length base.qualifier
  pub label : length_at body (p + 12) ≤ length base.label
  pub rest : IsAt body (p + 16)
  pub short : IsShort (entry_at base body p)

-- of a key the bytes that an entry says are shared
abbrev pub shared_key : List ℕ → ℕ → Key → Key
shared_key body p k = record { row = take (length_at body p) k.row; family = take (length_at body (p + 4)) k.family; qualifier = take (length_at body (p + 8)) k.qualifier; label = take (length_at body (p + 12)) k.label; timestamp = pos 0 }

-- so many records from a place on, the first of them with this index and behind a record with this key
abbrev pub listed : List ℕ → ℕ → Key → ℕ → ℕ → List Record
listed body p before k zero = []
listed body p before k (suc n) = entry_at (base_of k before) body p ∷ listed body (entry_end body p) (entry_at (base_of k before) body p).key (k + 1) n

-- each of them lies there
abbrev pub IsLaid : List ℕ → ℕ → Key → ℕ → ℕ → Type 0
IsLaid body p before k zero = Unit {0}
IsLaid body p before k (suc n) = IsEntry (base_of k before) body p × IsLaid body (entry_end body p) (entry_at (base_of k before) body p).key (k + 1) n

-- where the entry behind so many begins
abbrev pub place_behind : List ℕ → ℕ → ℕ → ℕ
place_behind body p zero = p
place_behind body p (suc n) = place_behind body (entry_end body p) n

-- ---- writing
-- a record without so many first bytes of each part
abbrev pub cut : ℕ → ℕ → ℕ → ℕ → Record → Record
cut row family qualifier label r = record r { key = record { row = drop row r.key.row; family = drop family r.key.family; qualifier = drop qualifier r.key.qualifier; label = drop label r.key.label; timestamp = r.key.timestamp } }

-- what a record has beyond the bytes that it shares
abbrev pub beyond : Key → Record → Record
beyond base r = cut (shared base.row r.key.row) (shared base.family r.key.family) (shared base.qualifier r.key.qualifier) (shared base.label r.key.label) r

-- ---- a body of blocks
-- so many records from its beginning on
abbrev pub block_records : List ℕ → ℕ → List Record
block_records body count = listed body 0 no_key 0 count

-- so many records fill the body, and this is the key of the last one
pub record AreBlocks (body : List ℕ) (count : ℕ) (last : Key) : Type 0 where
  pub laid : IsLaid body 0 no_key 0 count
  pub ends : place_behind body 0 count ≡ length body
  pub key : key_behind no_key (block_records body count) ≡ last
  pub size : length body ≡ encoded_size (block_records body count)

-- the key of the last of so many records, of which there is a copy
abbrev pub last_key : ℕ → List ℕ → Key
last_key zero copy = no_key
last_key (suc n) copy = (record_at copy 0).key

-- ---- these facts have one proof each
pub IsAt-prop : (body : List ℕ) (p : ℕ) → IsProp (IsAt body p)
IsAt-prop body p a b = λ i. (AreAt-prop body (p ∷ []) (a, tt) (b, tt) i).0

IsShort-prop : (u : Record) → IsProp (IsShort u)
IsShort-prop u a b = λ i. record { row = le_prop a.row b.row i; family = le_prop a.family b.family i; qualifier = le_prop a.qualifier b.qualifier i; label = le_prop a.label b.label i; value = le_prop a.value b.value i }

pub IsEntry-prop : (base : Key) (body : List ℕ) (p : ℕ) → IsProp (IsEntry base body p)
IsEntry-prop base body p a b = λ i. record {
  row = le_prop a.row b.row i;
  family = le_prop a.family b.family i;
  qualifier = le_prop a.qualifier b.qualifier i;
  label = le_prop a.label b.label i;
  rest = IsAt-prop body (p + 16) a.rest b.rest i;
  short = IsShort-prop (entry_at base body p) a.short b.short i;
}

pub IsLaid-prop : (body : List ℕ) (p : ℕ) (before : Key) (k n : ℕ) → IsProp (IsLaid body p before k n)
IsLaid-prop body p before k zero a b = λ i. tt
IsLaid-prop body p before k (suc n) a b = λ i. (IsEntry-prop (base_of k before) body p a.0 b.0 i, IsLaid-prop body (entry_end body p) (entry_at (base_of k before) body p).key (k + 1) n a.1 b.1 i)
