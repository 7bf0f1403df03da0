-- What is kept of the rows in range is kept of all.
use Rattle.std.proofs.Common.{◌≡◌, ℕ, List, Bool, true, false, ◌&&◌, refl, sym, ◌∙◌, ap}
use Rattle.std.specs.Prelude.{filter, bytes_eq}
use Rattle.std.specs.Cmp.Lexicographic.{bytes_decides}
use mathlib.Core.Bool.{true≢false}
use Rattle.tab_key.specs.Records.{Key, Record}
use Rattle.tab_key.specs.Kept.{same_column, is_kept}
use Rattle.tab_key.specs.Ranges.{is_in_range}
use Rattle.tab_key.specs.declared.range.Bounds.{Bounds}
use Rattle.tab_cells.proofs.SeenColumns as columns

module _ (rows : Bounds) where
  -- whether the record's row is in range
  abbrev pub seen : Record → Bool
  seen u = is_in_range rows u.key.row

  -- what is in range lies in another column than what isn't
  apart : (a b : Key) → is_in_range rows b.row ≡ true → is_in_range rows a.row ≡ false → same_column a b ≡ false
  unfolding same_column
  apart a b h n = go (bytes_eq a.row b.row) refl
    where
      go : (v : Bool) → bytes_eq a.row b.row ≡ v → (v && bytes_eq a.family b.family && bytes_eq a.qualifier b.qualifier && bytes_eq a.label b.label) ≡ false
      go true e = absurd (true≢false (sym h ∙ ap (is_in_range rows) (sym ((bytes_decides a.row b.row).0 e)) ∙ n))
      go false e = refl

  pub kept_seen : (us : List Record) (n : ℕ) (u : Record) → seen u ≡ true → is_kept us n u ≡ is_kept (filter seen us) n u
  kept_seen us n u h = columns.kept_seen (λ k. is_in_range rows k.row) apart us n u h
