-- The prefixes of two rows decide which record stands before, where they differ.
use Rattle.std.proofs.Common.{◌≡◌, ◌≢◌, ℕ, refl, sym}
use Rattle.std.specs.Ordering.{nat_cmp}
use Rattle.std.specs.declared.cmp.Ordering.{Ordering}
use Rattle.std.specs.declared.cmp.Ordering.TheVariants.{Less, Equal, Greater}
use Rattle.tab_key.specs.Bytes.{bytes_cmp}
use Rattle.tab_key.specs.Order.{column_cmp, key_cmp, place_cmp, record_cmp}
use Rattle.tab_key.specs.Records.{Record}
use Rattle.tab_key.specs.RowPrefix.{IsRowPrefix}
use Rattle.tab_key.proofs.RowPrefix.{prefix_orders}

-- records whose rows differ stand in the order of their rows
by_row : (a b : Record) (o : Ordering) → o ≢ Equal → o ≡ bytes_cmp a.key.row b.key.row → o ≡ record_cmp a b
unfolding column_cmp key_cmp place_cmp
by_row a b Less other e = rw (sym e) refl
by_row a b Equal other e = absurd (other refl)
by_row a b Greater other e = rw (sym e) refl

pub prefix_decides : (a b : Record) (m n : ℕ) (o : Ordering) → IsRowPrefix m a.key.row → IsRowPrefix n b.key.row → nat_cmp m n ≡ o → o ≢ Equal → o ≡ record_cmp a b
prefix_decides a b m n o p q e other = by_row a b o other (prefix_orders a.key.row b.key.row m n o p q e other)
