-- Tablets refine their updates also where fewer versions are kept.
use Rattle.std.proofs.Common.{ℕ, ◌≤◌, List, [], ◌∷◌, arith}
use Rattle.std.specs.Prelude.{ℤ, filter}
use Rattle.tab_key.specs.Records.{Record}
use Rattle.tab_key.specs.Sorted.{sorted}
use Rattle.tab_tablets.specs.Tablets.{Tablet, records_in}
use Rattle.tab_tablets.specs.ByRow.{records_of_all}
use Rattle.tab_history.proofs.Holds.{holds_fewer}
use Rattle.tab_store.specs.Keeping.{TabletsRefine, is_low, is_high, FewerKeeps, SoundWithFewer}

le_on : (a b c : ℕ) → a ≤ b → b ≤ c → a ≤ c
le_on a b c p q = omega (arith, p, q)

pub fewer_keeps : FewerKeeps
fewer_keeps t us next n fewer floor le h = record {
  refines = holds_fewer (records_in t) us next n fewer floor le h.refines;
  jobs = λ k m e. let o = h.jobs k m e in record { enough = le_on fewer n m.versions le o.enough; lower = o.lower; above = o.above };
}

all_fewer : (ts : List Tablet) (us : List Record) (next n fewer : ℕ) (floor : ℤ) → fewer ≤ n → TabletsRefine ts us next n floor → TabletsRefine ts us next fewer floor
all_fewer [] us next n fewer floor le a = a
all_fewer (t ∷ ts) us next n fewer floor le a = (fewer_keeps t (filter (is_low t.end) us) next n fewer floor le a.0, all_fewer ts (filter (is_high t.end) us) next n fewer floor le a.1)

pub sound_with_fewer : SoundWithFewer
sound_with_fewer ts next n fewer floor le s = record { whole = s.whole; once = s.once; numbered = s.numbered; refines = all_fewer ts (sorted (records_of_all ts)) next n fewer floor le s.refines }
