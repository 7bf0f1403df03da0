-- For proofs. How a part compares with one that is sought.
use Rattle.std.specs.Prelude.{ℕ, ◌≡◌, ◌≤◌, List, length, slice_index_or}
use Rattle.tab_key.specs.Bytes.{bytes_cmp}
use Rattle.tab_key.specs.Records.{Key, Record}
use Rattle.tab_table.specs.Blocks.{shared, place_behind, block_records}
use Rattle.tab_table.specs.declared.agreement.Agreement.{Agreement}
use Rattle.tab_table.specs.declared.key_agreement.KeyAgreement.{KeyAgreement}

-- it says how many first bytes they share, and which of them comes first
pub record IsAgreement (a : Agreement) (part sought : List ℕ) : Type 0 where
  pub shares : a.count ≡ shared part sought
  pub compares : a.order ≡ bytes_cmp part sought

-- the same of each part of a key
pub record AreAgreements (a : KeyAgreement) (k sought : Key) : Type 0 where
  pub rows : IsAgreement a.row k.row sought.row
  pub families : IsAgreement a.family k.family sought.family
  pub qualifiers : IsAgreement a.qualifier k.qualifier sought.qualifier
  pub labels : IsAgreement a.label k.label sought.label

-- none shares more with the sought part than this has
pub record AreInside (a : KeyAgreement) (sought : Key) : Type 0 where
  pub row : a.row.count ≤ length sought.row
  pub family : a.family.count ≤ length sought.family
  pub qualifier : a.qualifier.count ≤ length sought.qualifier
  pub label : a.label.count ≤ length sought.label

-- where the entry of the record with an index begins, and how its key compares with one that is sought
pub record IsWalked (body : List ℕ) (count : ℕ) (a : KeyAgreement) (place index : ℕ) (sought : Key) : Type 0 where
  pub here : place ≡ place_behind body 0 index
  pub agree : (u : Record) → AreAgreements a (slice_index_or (block_records body count) index u).key sought
