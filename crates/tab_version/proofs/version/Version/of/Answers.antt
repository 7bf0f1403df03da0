-- Without the tablets that hold no record.
use Rattle.std.proofs.Common.{◌≡◌, true, map, subst}
use Rattle.std.specs.Prelude.{int_le}
use Rattle.tab_key.specs.Records.{Record}
use Rattle.tab_iter.specs.Bags.{flat}
use Rattle.tab_iter.specs.Lists.{latest, HasI64Timestamps}
use Rattle.tab_mem.specs.Lists.{HasShortParts}
use Rattle.tab_version.specs.Sources.{records_of}
use Rattle.tab_version.proofs.InOrder.{kept_records, kept_rising, kept_filled, order_holds}
use Rattle.tab_version.proofs.version.Version.of.Goals as goal

pub invariant_of-result : goal.invariant_of-result
invariant_of-result c =
    let ts = c.drop_empty.new.tablets.items in
    record {
      in_turn = record {
        rising = kept_rising c.args.tablets.items ts c.drop_empty.ensures c.requires;
        timestamps = order_holds (λ (u : Record). int_le u.key.timestamp latest ≡ true) ts (subst (λ l. HasI64Timestamps (flat (map records_of l))) c.deref.ensures.value c.read_all.ensures.timestamps);
        filled = kept_filled c.args.tablets.items ts c.drop_empty.ensures;
      };
      short = subst (λ l. HasShortParts (flat (map records_of l))) c.deref.ensures.value c.read_all.ensures.short;
    }

pub returns : goal.returns
returns c = kept_records c.args.tablets.items c.drop_empty.new.tablets.items c.drop_empty.ensures
