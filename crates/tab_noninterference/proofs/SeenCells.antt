-- Cells are the same over the updates that a user may read.
use Rattle.std.proofs.Common.{◌≡◌, ℕ, List, Bool, true, false, ◌&&◌, refl, sym, ◌∙◌, ap}
use Rattle.std.specs.Prelude.{filter, map, bytes_eq}
use Rattle.std.specs.Cmp.Lexicographic.{bytes_decides}
use mathlib.Core.Bool.{true≢false}
use Rattle.tab_key.specs.Records.{Key, Record, cell_of}
use Rattle.tab_key.specs.Kept.{same_column, is_kept}
use Rattle.tab_key.specs.Sorted.{sorted}
use Rattle.tab_key.specs.Ranges.{is_in_range}
use Rattle.tab_key.specs.Columns.{is_selected}
use Rattle.tab_label.specs.Holding.{label_holds}
use Rattle.tab_cells.proofs.Lists.{and_false, filter_seen}
use Rattle.tab_cells.proofs.SeenColumns as columns
use Rattle.tab_noninterference.proofs.SeenBase.{seen}
use Rattle.tab_cells.specs.Cells.{matches, Query, is_shown, cells}

module _ (held : List (List ℕ)) where
  abbrev may_see : Record → Bool
  may_see = seen held

  -- what he doesn't see lies in another column than what he sees
  apart : (a b : Key) → label_holds b.label held ≡ true → label_holds a.label held ≡ false → same_column a b ≡ false
  unfolding same_column
  apart a b h n = go (bytes_eq a.label b.label) refl
    where
      go : (v : Bool) → bytes_eq a.label b.label ≡ v → (bytes_eq a.row b.row && bytes_eq a.family b.family && bytes_eq a.qualifier b.qualifier && v) ≡ false
      go true e = absurd (true≢false (sym h ∙ ap (λ l. label_holds l held) (sym ((bytes_decides a.label b.label).0 e)) ∙ n))
      go false e = and_false _

  kept_seen : (us : List Record) (n : ℕ) (u : Record) → may_see u ≡ true → is_kept us n u ≡ is_kept (filter may_see us) n u
  kept_seen us n u h = columns.kept_seen (λ k. label_holds k.label held) apart us n u h

  -- what the authorizations of a scan let through, the user may see
  pub cells_seen : (us : List Record) (n : ℕ) (q : Query) → ((label : List ℕ) → label_holds label q.authorizations ≡ true → label_holds label held ≡ true) → cells us n q ≡ cells (filter may_see us) n q
  unfolding cells matches
  cells_seen us n q more = ap (λ rs. map cell_of (sorted rs)) (filter_seen may_see (is_shown us n q) (is_shown (filter may_see us) n q) hidden same us)
    where
      hidden : (m : Record) → may_see m ≡ false → is_shown us n q m ≡ false
      hidden m e = go (label_holds m.key.label q.authorizations) refl
        where
          go : (v : Bool) → label_holds m.key.label q.authorizations ≡ v → (v && is_in_range q.bounds m.key.row && is_selected q.columns m.key && is_kept us n m) ≡ false
          go true h = absurd (true≢false (sym (more m.key.label h) ∙ e))
          go false h = refl

      same : (m : Record) → may_see m ≡ true → is_shown us n q m ≡ is_shown (filter may_see us) n q m
      same m e = ap (λ r. matches q m.key && r) (kept_seen us n m e)
