-- What a cut leaves of a search.
use Rattle.std.proofs.Common.{◌≡◌, ℕ, ◌-◌, ◌<◌, ◌≤◌, List, Bool, sym, ◌∙◌, ap, subst, length}
use Rattle.std.specs.Prelude.{filter}
use Rattle.std.specs.Ordering.{is_lt, is_gt}
use Rattle.tab_key.specs.Bytes.{bytes_cmp}
use Rattle.tab_key.specs.Records.{Record}
use Rattle.tab_key.specs.Sorted.{IsDistinct}
use Rattle.tab_version.specs.Sources.{Sources, records_of, clipped}
use Rattle.tab_tablet.specs.Selecting.{count_below, count_upto, HasRow, IsNarrower}
use Rattle.tab_tablet.proofs.Cut.{clipped_records}
use Rattle.tab_tablet.proofs.Selected.{narrower_below, narrower_above}

-- how many records have rows that pass, where the test is another one
pub count_by_test : (us : List Record) (p q : List ℕ → Bool) (n : ℕ) → n ≡ length (filter (λ u. p u.key.row) us) → p ≡ q → n ≡ length (filter (λ u. q u.key.row) us)
count_by_test us p q n e same = e ∙ ap (λ t. length (filter (λ u. t u.key.row) us)) same

module _ (s left : Sources) (d : IsDistinct (records_of s)) (r : List ℕ) (n now : ℕ) (p : List ℕ → Bool) (cut : left ≡ clipped p s) (held : HasRow (records_of s) r) where
  abbrev us : List Record
  us = records_of s

  left_are : (q : List ℕ → Bool) → p ≡ q → records_of left ≡ filter (λ u. q u.key.row) us
  left_are q same = ap records_of cut ∙ clipped_records p s ∙ ap (λ t. filter (λ u. t u.key.row) us) same

  pub cut_lower : p ≡ (λ x. is_lt (bytes_cmp x r)) → now ≡ n → n < count_below r us → IsNarrower us n (records_of left) now
  cut_lower same place lt =
      subst (λ l. IsNarrower us n l now) (sym (left_are (λ x. is_lt (bytes_cmp x r)) same))
      (subst (IsNarrower us n (filter (λ u. is_lt (bytes_cmp u.key.row r)) us)) (sym place) (narrower_below us d r n held lt))

  pub cut_upper : p ≡ (λ x. is_gt (bytes_cmp x r)) → now ≡ n - count_upto r us → n < length us → count_upto r us ≤ n → IsNarrower us n (records_of left) now
  cut_upper same place lt le =
      subst (λ l. IsNarrower us n l now) (sym (left_are (λ x. is_gt (bytes_cmp x r)) same))
      (subst (IsNarrower us n (filter (λ u. is_gt (bytes_cmp u.key.row r)) us)) (sym place) (narrower_above us d r n held lt le))
