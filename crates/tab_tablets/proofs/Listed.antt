-- What tablets hold, listed one behind the other.
use Rattle.std.proofs.Common.{◌≡◌, ℕ, zero, suc, ◌+◌, ◌<◌, List, [], ◌∷◌, ◌++◌, sym, ◌∙◌, ap, length, take, arith, append-nil, append_assoc}
use Rattle.tab_key.specs.Sorted.{sorted}
use Rattle.tab_cells.proofs.Rising.{rising_distinct, sorted_rising}
use Rattle.tab_tablet.specs.Tablets.{Tablet, records_in}
use Rattle.tab_tablets.specs.ByRow.{records_of_all, LieApart}
use Rattle.tab_tablets.specs.Places.{tablet_at}
use Rattle.tab_tablets.specs.Listing.{listed}
use Rattle.tab_tablets.proofs.Ranges.{sorted_once, held_permuted}

pub lists_on : (ts : List Tablet) (place : ℕ) → place < length ts → listed (take (place + 1) ts) ≡ listed (take place ts) ++ sorted (records_in (tablet_at ts place))
lists_on [] place lt = absurd (omega arith)
lists_on (t ∷ ts) zero lt = append-nil (sorted (records_in t))
lists_on (t ∷ ts) (suc place) lt =
    let same : suc place + 1 ≡ suc (place + 1) = omega arith in
    ap (λ k. listed (take k (t ∷ ts))) same
    ∙ ap (λ l. sorted (records_in t) ++ l) (lists_on ts place (omega arith))
    ∙ sym (append_assoc (sorted (records_in t)) (listed (take place ts)) (sorted (records_in (tablet_at ts place))))

pub lists_in_order : (ts : List Tablet) → LieApart ts → listed ts ≡ sorted (records_of_all ts)
lists_in_order ts apart = sym (sorted_rising (listed ts) apart) ∙ sorted_once (listed ts) (records_of_all ts) (rising_distinct (listed ts) apart) (held_permuted ts)
