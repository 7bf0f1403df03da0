use Rattle.std.proofs.Common.{◌≡◌, [], ◌∷◌, Some, OnOk, ap, subst}
use Rattle.std.specs.Ordering.{is_gt}
use Rattle.tab_key.specs.Bytes.{bytes_cmp}
use Rattle.tab_tablet.specs.Splitting.{cut_to, split_at}
use Rattle.tab_tablet.specs.Tablets.{Tablet, next_number}
use Rattle.tab_tablets.specs.Places.{ended, tablet_at}
use Rattle.tab_tablets.proofs.At.{at_same}
use Rattle.tab_tablets.proofs.Told.{halves_are}
use Rattle.tab_tablets.proofs.tablet_list.TabletList.split.Goals as goal

pub returns-clause-ok : goal.returns-clause-ok
returns-clause-ok c =
    let upper : c.in_ok-lower.upper ≡ cut_to (next_number c.args.number) (λ r. is_gt (bytes_cmp r c.args.row)) c.tablet.result.now = subst (λ n. c.in_ok-lower.upper ≡ cut_to n (λ r. is_gt (bytes_cmp r c.args.row)) c.tablet.result.now) c.saturating_add-next.ensures c.in_ok-lower.ensures.upper in
    subst (λ ts. OnOk c.divide.result (c.divide.new.self ≡ ts))
    (at_same (λ (t : Tablet). ended (Some c.args.row) c.in_ok-lower.lower ∷ ended t.end c.in_ok-lower.upper ∷ []) (split_at c.args.row c.args.number) c.args.self.now c.args.place
    (halves_are c.args.row c.args.number (tablet_at c.args.self.now c.args.place) c.tablet.result.now c.in_ok-lower.lower c.in_ok-lower.upper c.tablet.ensures c.in_ok-lower.ensures.lower upper))
    c.divide.ensures.ok
