use Rattle.std.proofs.Common.{◌<◌, ℕ, sym, subst}
use Rattle.std.specs.Prelude.{Contains}
use Rattle.tab_key.specs.Records.{Record}
use Rattle.tab_tablet.specs.Tablets.{Tablet, records_in}
use Rattle.tab_tablets.proofs.bounded_tablet.BoundedTablet.write.Goals as goal

-- every record of the tablet has a lower number
abbrev AreBelow : ℕ → Tablet → Type 0
AreBelow seq t = (u : Record) → Contains (records_in t) u → u.seq < seq

pub write-requires : goal.write-requires
write-requires c = record { unused = subst (AreBelow c.args.seq) (sym c.deref_mut.ensures.value) (subst (AreBelow c.args.seq) (sym c.self.view_is) c.requires.unused) }
