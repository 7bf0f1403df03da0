-- Of two records with other numbers, no two stand at one place.
use Rattle.std.proofs.Common.{◌≡◌, ◌≢◌, List, [], ◌∷◌, Bool, true, false, cond}
use Rattle.std.specs.List.{AllByRecursion}
use Rattle.std.specs.Ordering.{ordering_then}
use Rattle.std.specs.declared.cmp.Ordering.{Ordering}
use Rattle.std.specs.declared.cmp.Ordering.TheVariants.{Less, Equal, Greater}
use Rattle.tab_key.specs.Order.{place_cmp, newer_cmp, record_cmp, IsNewer}
use Rattle.tab_key.specs.Sorted.{IsDistinct}
use Rattle.tab_key.specs.Records.{Record}
use Rattle.tab_key.proofs.Order.{newer_first}

pub apart_places : (o r : Ordering) → r ≡ Less → ordering_then o r ≢ Equal
apart_places Less r e f = absurd (cc)
apart_places Equal r e f = absurd (cc)
apart_places Greater r e f = absurd (cc)

pub newer_apart : (x y : Record) → IsNewer x y → record_cmp x y ≢ Equal
newer_apart x y h = apart_places (place_cmp x y) (newer_cmp x y) (newer_first x y h)

pub all_apart : (x : Record) (xs : List Record) → AllByRecursion (IsNewer x) xs → AllByRecursion (λ y. record_cmp x y ≢ Equal) xs
all_apart x [] a = tt
all_apart x (y ∷ ys) a = (newer_apart x y a.0, all_apart x ys a.1)

pub each_cond : (P : Record → Type 0) (v : Bool) (xs ys : List Record) → AllByRecursion P xs → AllByRecursion P ys → AllByRecursion P (cond v xs ys)
each_cond P true xs ys a b = a
each_cond P false xs ys a b = b

pub distinct_cond : (v : Bool) (xs ys : List Record) → IsDistinct xs → IsDistinct ys → IsDistinct (cond v xs ys)
distinct_cond true xs ys a b = a
distinct_cond false xs ys a b = b
