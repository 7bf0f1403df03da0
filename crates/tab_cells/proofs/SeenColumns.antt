-- What is kept of the columns that are seen is kept of all.
use Rattle.std.proofs.Common.{◌≡◌, ℕ, List, Bool, true, false, not, ◌&&◌, ap, length}
use Rattle.std.specs.Prelude.{filter, nat_lt, int_le}
use Rattle.tab_key.specs.Records.{Key, Record}
use Rattle.tab_key.specs.Order.{stands_before}
use Rattle.tab_key.specs.Kept.{is_put, same_column, hides, is_deleted, outranks, is_kept}
use Rattle.tab_cells.proofs.Lists.{and_false, any_filter, filter_seen}

-- a test of keys under which no two keys of one column differ
module _ (seen : Key → Bool) (apart : (a b : Key) → seen b ≡ true → seen a ≡ false → same_column a b ≡ false) where
  abbrev shown : Record → Bool
  shown u = seen u.key

  deleted_seen : (us : List Record) (u : Record) → seen u.key ≡ true → is_deleted us u ≡ is_deleted (filter shown us) u
  unfolding is_deleted hides
  deleted_seen us u h = any_filter shown (λ m. hides m u) (λ m n. rw (apart m.key u.key h n) (ap (λ r. r && int_le u.key.timestamp m.key.timestamp) (and_false (not (is_put m.kind))))) us

  outranks_seen : (us : List Record) (u v : Record) → seen v.key ≡ true → outranks us u v ≡ outranks (filter shown us) u v
  unfolding outranks
  outranks_seen us u v h = ap (λ r. is_put v.kind && same_column v.key u.key && not r && stands_before v u) (deleted_seen us v h)

  unseen_outranks : (us : List Record) (u v : Record) → seen u.key ≡ true → seen v.key ≡ false → outranks us u v ≡ false
  unfolding outranks
  unseen_outranks us u v h n = rw (apart v.key u.key h n) (ap (λ r. r && not (is_deleted us v) && stands_before v u) (and_false (is_put v.kind)))

  pub kept_seen : (us : List Record) (n : ℕ) (u : Record) → seen u.key ≡ true → is_kept us n u ≡ is_kept (filter shown us) n u
  unfolding is_kept
  kept_seen us n u h =
      let ranks : filter (outranks us u) us ≡ filter (outranks (filter shown us) u) (filter shown us) = filter_seen shown (outranks us u) (outranks (filter shown us) u) (λ v. unseen_outranks us u v h) (λ v. outranks_seen us u v) us in
      λ i. is_put u.kind && not (deleted_seen us u h i) && nat_lt (length (ranks i)) n
