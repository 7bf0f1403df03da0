-- For proofs. The order in which records were written.
use Rattle.std.specs.Prelude.{List, [], ◌∷◌, cond}
use Rattle.std.specs.List.{IsDistinct}
use Rattle.std.specs.Ordering.{nat_cmp, on, flip_args, then_cmp, is_lt, eq_by_cmp}
use Rattle.std.specs.declared.cmp.Ordering.{Ordering}
use Rattle.tab_key.specs.Records.{Record}
use Rattle.tab_iter.specs.Lists.{HasI64Timestamps}

-- the smaller mutation number, then the greater place in the mutation: of one mutation the last update is written first
unfoldable pub written_cmp : Record → Record → Ordering
written_cmp = then_cmp (on (λ r. r.seq) nat_cmp) (flip_args (on (λ r. r.idx) nat_cmp))

-- put before the first record that was written after it
abbrev pub put_in : Record → List Record → List Record
put_in r [] = r ∷ []
put_in r (s ∷ ss) = cond (is_lt (written_cmp r s)) (r ∷ s ∷ ss) (s ∷ put_in r ss)

-- the records in the order of writing
abbrev pub as_written : List Record → List Record
as_written [] = []
as_written (r ∷ rs) = put_in r (as_written rs)

-- what holds of the records of an active part, wherever they lie
pub record IsHeld (us : List Record) : Type 0 where
  -- no two have one number and one place in its mutation
  pub apart : IsDistinct (eq_by_cmp written_cmp) us
  pub timestamps : HasI64Timestamps us
