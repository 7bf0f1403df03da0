use Rattle.std.proofs.Common.{◌≡◌, ◌<◌, ◌^◌, List, length, sym, ap, subst, rules}
use Rattle.std.specs.Prelude.{IfOk, OnOk}
use Rattle.tab_tablet.specs.Tablets.{Tablet}
use Rattle.tab_tablets.specs.declared.splitting.Split.{Split}
use Rattle.tab_tablets.proofs.Told.{small_told, large_told}
use Rattle.tab_tablets.proofs.tablets.Tablets.halve.Goals as goal

pub returns-then-size-limit-clause-told : goal.returns-then-size-limit-clause-told
returns-then-size-limit-clause-told c =
    let fits : c.args.limit < 2 ^ 64 = search rules in
    sym (ap (λ (x : Split × List Tablet). x.0) (small_told c.args.row.now c.args.limit c.args.number c.size.result c.self.inside.tablet_list c.args.self.now c.place_of-place.result c.tablet.result.now c.self.view_is c.place_of-place.ensures c.tablet.ensures c.size.ensures fits c.if-size-limit.true))

pub returns-then-size-limit-clause-tablets : goal.returns-then-size-limit-clause-tablets
returns-then-size-limit-clause-tablets c =
    let fits : c.args.limit < 2 ^ 64 = search rules in
    sym (ap (λ (x : Split × List Tablet). x.1) (small_told c.args.row.now c.args.limit c.args.number c.size.result c.self.inside.tablet_list c.args.self.now c.place_of-place.result c.tablet.result.now c.self.view_is c.place_of-place.ensures c.tablet.ensures c.size.ensures fits c.if-size-limit.true))

pub halve_at-requires : goal.halve_at-requires
halve_at-requires c = subst (λ (ts : List Tablet). c.place_of-place.result < length ts) c.self.view_is c.place_of-place.ensures.inside

pub returns-clause-told : goal.returns-clause-told
returns-clause-told c =
    let fits : c.args.limit < 2 ^ 64 = search rules in
    subst (λ (x : Split). IfOk c.halve_at.result (λ told. told ≡ x))
    (sym (ap (λ (x : Split × List Tablet). x.0) (large_told c.args.row.now c.args.limit c.args.number c.size.result c.self.inside.tablet_list c.args.self.now c.place_of-place.result c.tablet.result.now c.self.view_is c.place_of-place.ensures c.tablet.ensures c.size.ensures fits c.if-size-limit.false)))
    c.halve_at.ensures.told

pub returns-clause-tablets : goal.returns-clause-tablets
returns-clause-tablets c =
    let fits : c.args.limit < 2 ^ 64 = search rules in
    subst (λ (ts : List Tablet). OnOk c.halve_at.result (c.halve_at.new.self ≡ ts))
    (sym (ap (λ (x : Split × List Tablet). x.1) (large_told c.args.row.now c.args.limit c.args.number c.size.result c.self.inside.tablet_list c.args.self.now c.place_of-place.result c.tablet.result.now c.self.view_is c.place_of-place.ensures c.tablet.ensures c.size.ensures fits c.if-size-limit.false)))
    c.halve_at.ensures.tablets
