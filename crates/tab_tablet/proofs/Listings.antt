-- What a tablet holds, frozen, is listed as what it holds.
use Rattle.std.proofs.Common.{◌≡◌, List, ◌∙◌, ap}
use Rattle.std.specs.Prelude.{Result, Ok, Err, IfOk}
use Rattle.tab_key.specs.Records.{Record}
use Rattle.tab_key.specs.Sorted.{sorted, IsDistinct}
use Rattle.tab_tablet.specs.Tablets.{Tablet, records_in, frozen}
use Rattle.tab_tablet.proofs.Compacted.{frozen_sorted}

pub lists : {E : Type 0} (r : Result (List Record) E) (t : Tablet) → IsDistinct (records_in t) → IfOk r (λ v. v ≡ records_in (frozen t)) → IfOk r (λ v. sorted v ≡ sorted (records_in t))
lists (Ok v) t d e = ap sorted e ∙ frozen_sorted t d
lists (Err e) t d h = tt
