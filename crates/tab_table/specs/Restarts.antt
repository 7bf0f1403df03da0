-- For proofs. Where decoding may begin: at the first record and each 16th one after it.
use Rattle.std.specs.Prelude.{ℕ, ◌≡◌, ◌≤◌, ◌<◌, ◌+◌, ◌*◌, List, length, take}
use Rattle.std.specs.List.{slice_range, slice_index_or}
use Rattle.std.specs.Coded.{Coded-set, coded_ℕ, coded_list, le_prop}
use mathlib.Core.HLevel.{Π_prop}
use Rattle.tab_key.specs.Encoding.{length_at}
use Rattle.tab_key.specs.Records.{Key, Record}
use Rattle.tab_table.specs.Blocks.{place_behind, block_records}
use Rattle.tab_table.specs.declared.restarts.Restart.{Restart}
use Rattle.tab_table.specs.declared.restarts.TheConstants.{RESTART_LEN}

-- from a place on lie so many first bytes of each part of a key, one part's behind those of another
pub record HasShares (shares : List ℕ) (from a b c d : ℕ) (k : Key) : Type 0 where
  pub row : slice_range shares from (from + a) ≡ take a k.row
  pub family : slice_range shares (from + a) (from + a + b) ≡ take b k.family
  pub qualifier : slice_range shares (from + a + b) (from + a + b + c) ≡ take c k.qualifier
  pub label : slice_range shares (from + a + b + c) (from + a + b + c + d) ≡ take d k.label
  pub inside : from + a + b + c + d ≤ length shares

-- the entry of this record, which has this index, begins there, and so do the bytes that it shares
pub record IsRestart (body shares : List ℕ) (index : ℕ) (u : Record) (r : Restart) : Type 0 where
  pub there : r.place ≡ place_behind body 0 index
  pub kept : HasShares shares r.from (length_at body r.place) (length_at body (r.place + 4)) (length_at body (r.place + 8)) (length_at body (r.place + 12)) u.key

-- there is one for each of these records
pub record AreRestarts (restarts : List Restart) (body shares : List ℕ) (count : ℕ) : Type 0 where
  pub all : count ≤ RESTART_LEN * length restarts
  pub few : RESTART_LEN * length restarts < count + RESTART_LEN
  pub each : (j : ℕ) (d : Restart) (u : Record) → j < length restarts → IsRestart body shares (RESTART_LEN * j) (slice_index_or (block_records body count) (RESTART_LEN * j) u) (slice_index_or restarts j d)

-- ---- these facts have one proof each
HasShares-prop : (shares : List ℕ) (from a b c d : ℕ) (k : Key) → IsProp (HasShares shares from a b c d k)
HasShares-prop shares from a b c d k x y = λ i. record {
  row = Coded-set (coded_list coded_ℕ) _ _ x.row y.row i;
  family = Coded-set (coded_list coded_ℕ) _ _ x.family y.family i;
  qualifier = Coded-set (coded_list coded_ℕ) _ _ x.qualifier y.qualifier i;
  label = Coded-set (coded_list coded_ℕ) _ _ x.label y.label i;
  inside = le_prop x.inside y.inside i;
}

IsRestart-prop : (body shares : List ℕ) (index : ℕ) (u : Record) (r : Restart) → IsProp (IsRestart body shares index u r)
IsRestart-prop body shares index u r x y = λ i. record {
  there = Coded-set coded_ℕ _ _ x.there y.there i;
  kept = HasShares-prop shares r.from (length_at body r.place) (length_at body (r.place + 4)) (length_at body (r.place + 8)) (length_at body (r.place + 12)) u.key x.kept y.kept i;
}

pub AreRestarts-prop : (restarts : List Restart) (body shares : List ℕ) (count : ℕ) → IsProp (AreRestarts restarts body shares count)
AreRestarts-prop restarts body shares count x y = λ i. record {
  all = le_prop x.all y.all i;
  few = le_prop x.few y.few i;
  each = Π_prop (λ j. Π_prop λ d. Π_prop λ u. Π_prop λ lt. IsRestart-prop body shares (RESTART_LEN * j) (slice_index_or (block_records body count) (RESTART_LEN * j) u) (slice_index_or restarts j d)) x.each y.each i;
}
