-- What the last row, or the place where a search stops, tells of a record and a key.
use Rattle.std.proofs.Common.{◌≡◌, ◌<◌, ◌≤◌, ◌+◌, ◌-◌, ℕ, List, [], Bool, true, false, refl, sym, ◌∙◌, ap, length, map, arith}
use Rattle.std.specs.List.{slice_index_or, prefix_len}
use Rattle.std.specs.List.Sorted.{IsStrictlySortedBy}
use Rattle.std.specs.Ordering.{is_lt}
use Rattle.std.specs.declared.cmp.Ordering.TheVariants.{Less, Greater}
use Rattle.std.proofs.lemmas.List.{get_or-map}
use Rattle.tab_key.specs.Bytes.{bytes_cmp}
use Rattle.tab_key.specs.KeyOf.{key_of}
use Rattle.tab_key.specs.Order.{column_cmp, key_cmp, record_cmp}
use Rattle.tab_key.specs.Records.{Key, Record}
use Rattle.tab_key.specs.declared.key.Key.{Key as Lent}
use Rattle.tab_mem.specs.Starts.{is_before}
use Rattle.tab_mem.specs.declared.start.Start.{Start}
use Rattle.tab_mem.specs.declared.start.Start.TheVariants.{AtKey}
use Rattle.tab_mem.proofs.Seeking.{before_earlier, before_later}
use Rattle.tab_table.specs.LastRows.{row_at_end}

-- ---- the last row
pub row_at_last : (rs : List Record) (i : ℕ) (u : Record) → i + 1 ≡ length rs → (slice_index_or rs i u).key.row ≡ row_at_end rs
unfolding row_at_end
row_at_last rs i u e =
    let inside : i < length rs = omega (arith, e) in
    let last : i ≡ length rs - 1 = omega (arith, e) in
    sym (get_or-map (λ (v : Record). v.key.row) rs i u [] inside) ∙ ap (λ (k : ℕ). slice_index_or (map (λ (v : Record). v.key.row) rs) k []) last

pub no_last : row_at_end [] ≡ []
unfolding row_at_end
no_last = refl

pub row_less : (a b : Key) → bytes_cmp a.row b.row ≡ Less → true ≡ is_lt (key_cmp a b)
unfolding key_cmp column_cmp
row_less a b e = rw e refl

pub row_greater : (a b : Key) → bytes_cmp a.row b.row ≡ Greater → false ≡ is_lt (key_cmp a b)
unfolding key_cmp column_cmp
row_greater a b e = rw e refl

-- ---- where a search for the key stops
by_bool : {G : Type 0} (v : Bool) → (v ≡ true → G) → (v ≡ false → G) → G
by_bool true f g = f refl
by_bool false f g = g refl

pub not_passed : (s : Start) (k : Lent) → s ≡ AtKey k → (rs : List Record) → IsStrictlySortedBy record_cmp rs → (i : ℕ) (u : Record) → i < length rs → prefix_len (is_before s) rs ≤ i → false ≡ is_lt (key_cmp (slice_index_or rs i u).key (key_of k))
unfolding is_before
not_passed s k e rs rises i u inside stop = by_bool (is_before s (slice_index_or rs i u))
    (λ t. absurd (omega (arith, stop, before_earlier s rs rises i u inside t)))
    (λ f. sym f ∙ ap (λ x. is_before x (slice_index_or rs i u)) e)

pub passed : (s : Start) (k : Lent) → s ≡ AtKey k → (rs : List Record) (i : ℕ) (u : Record) → i < length rs → i < prefix_len (is_before s) rs → true ≡ is_lt (key_cmp (slice_index_or rs i u).key (key_of k))
unfolding is_before
passed s k e rs i u inside behind = by_bool (is_before s (slice_index_or rs i u))
    (λ t. sym t ∙ ap (λ x. is_before x (slice_index_or rs i u)) e)
    (λ f. absurd (omega (arith, behind, before_later s rs i u f inside)))
