-- What a cursor has left.
use Rattle.std.proofs.Common.{◌≡◌, ℕ, ◌-◌, ◌≤◌, List, ◌∙◌, subst, drop}
use Rattle.tab_key.specs.Records.{Key, Record}
use Rattle.tab_iter.specs.Lists.{from_key}
use Rattle.tab_mem.specs.Lists.{part}
use Rattle.tab_mem.proofs.Cursors.{left_part}

pub sought : (rs us : List Record) (from at end : ℕ) (k : Key) → us ≡ rs → from ≤ at → part at end us ≡ from_key k (part from end us) → drop (at - from) (part from end rs) ≡ from_key k (part from end rs)
sought rs us from at end k same le found = left_part from at end rs le ∙ subst (λ l. part at end l ≡ from_key k (part from end l)) same found
