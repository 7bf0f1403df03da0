-- The order of records is total.
use Rattle.std.proofs.Common.{◌≡◌, false, ap, arith}
use Rattle.std.specs.Cmp.{IsTotalOrder, then_total, on_total, back_total, nat_cmp_total, int_cmp_total, tied_itself}
use Rattle.std.specs.Cmp.Lexicographic.{nat_list_cmp_total}
use Rattle.std.specs.Ordering.{is_lt}
use Rattle.std.specs.declared.cmp.Ordering.TheVariants.{Less, Greater}
use Rattle.std.proofs.lemmas.Bool.Decides.{nat_tests}
use Rattle.tab_key.specs.Order.{kind_rank, column_cmp, key_cmp, place_cmp, newer_cmp, record_cmp, stands_before, IsNewer}
use Rattle.tab_key.specs.Records.{Key, Record}

pub column_cmp_total : IsTotalOrder column_cmp
unfolding column_cmp
column_cmp_total = then_total (then_total (then_total (on_total (λ (k : Key). k.row) nat_list_cmp_total) (on_total (λ (k : Key). k.family) nat_list_cmp_total)) (on_total (λ (k : Key). k.qualifier) nat_list_cmp_total)) (on_total (λ (k : Key). k.label) nat_list_cmp_total)

pub key_cmp_total : IsTotalOrder key_cmp
unfolding key_cmp
key_cmp_total = then_total column_cmp_total (back_total (on_total (λ (k : Key). k.timestamp) int_cmp_total))

pub place_cmp_total : IsTotalOrder place_cmp
unfolding place_cmp
place_cmp_total = then_total (on_total (λ (r : Record). r.key) key_cmp_total) (on_total (λ (r : Record). kind_rank r.kind) nat_cmp_total)

pub newer_cmp_total : IsTotalOrder newer_cmp
unfolding newer_cmp
newer_cmp_total = then_total (back_total (on_total (λ (r : Record). r.seq) nat_cmp_total)) (back_total (on_total (λ (r : Record). r.idx) nat_cmp_total))

pub record_cmp_total : IsTotalOrder record_cmp
record_cmp_total = then_total place_cmp_total newer_cmp_total

pub not_before_itself : (r : Record) → stands_before r r ≡ false
not_before_itself r = ap is_lt (tied_itself record_cmp_total r)

pub newer_first : (x y : Record) → IsNewer x y → newer_cmp x y ≡ Less
unfolding newer_cmp
newer_first x y h = grind (arith, nat_tests)

pub older_last : (x y : Record) → IsNewer x y → newer_cmp y x ≡ Greater
unfolding newer_cmp
older_last x y h = grind (arith, nat_tests)
