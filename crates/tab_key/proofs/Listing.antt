-- There is one rising list of the records that pass a test, and sorting them makes it.
use Rattle.std.proofs.Common.{◌≡◌, List, Bool, sym, subst}
use Rattle.std.specs.Prelude.{filter}
use Rattle.tab_key.specs.Records.{Record}
use Rattle.tab_key.specs.Sorted.{sorted, IsDistinct, IsRisingList, SortsOnce}
use Rattle.tab_key.proofs.Rising.{in_from, in_to, in_sorted, sorted_in, in_filter, filter_in, distinct_filter, rising_sorted, same_rising}

-- at most one
pub one_list : (passes : Record → Bool) (us xs ys : List Record) → IsRisingList passes us xs → IsRisingList passes us ys → xs ≡ ys
one_list passes us xs ys a b =
    same_rising xs ys a.rising b.rising
    (λ u h. let s = a.sound u (in_to xs u h) in in_from ys u (b.complete u s.0 s.1))
    (λ u h. let s = b.sound u (in_to ys u h) in in_from xs u (a.complete u s.0 s.1))

-- what is computed is one
pub computed_list : (passes : Record → Bool) (us : List Record) → IsDistinct us → IsRisingList passes us (sorted (filter passes us))
computed_list passes us d = record {
  rising = rising_sorted (filter passes us) (distinct_filter passes us d);
  sound = λ u c. let k = in_filter passes us u (in_sorted (filter passes us) u (in_from _ u c)) in (in_to us u k.0, k.1);
  complete = λ u c e. in_to _ u (sorted_in (filter passes us) u (filter_in passes us u (in_from us u c) e));
}

pub sorts_once : SortsOnce
sorts_once passes us xs d = (
  (λ a. one_list passes us xs (sorted (filter passes us)) a (computed_list passes us d)),
  (λ e. subst (IsRisingList passes us) (sym e) (computed_list passes us d)),
)
