use Rattle.std.proofs.Common.{◌∙◌, ◌+◌, ◌<◌, ℕ, List, Some, length, ap, subst, arith}
use Rattle.std.specs.List.{insert}
use Rattle.std.proofs.lemmas.List.Edits.{length-insert}
use Rattle.tab_tablet.specs.Tablets.{Tablet}
use Rattle.tab_tablets.specs.Places.{ended, put_at}
use Rattle.tab_tablets.proofs.At.{divided}
use Rattle.tab_tablets.proofs.tablet_list.TabletList.divide.Goals as goal

pub put-requires : goal.put-requires
put-requires c =
    let ts : List Tablet = c.args.self.now in
    let count = length-insert ts c.args.place c.in_ok-lower.lower (omega (arith, c.requires)) in
    omega (arith, c.requires, count, ap length c.in_ok-behind.ensures.ok, c.in_ok-behind.ensures.behind)

pub returns-clause-ok : goal.returns-clause-ok
returns-clause-ok c =
    let ts : List Tablet = c.args.self.now in
    c.put.ensures
    ∙ (λ i. put_at (c.in_ok-behind.ensures.behind i) c.args.upper (c.in_ok-behind.ensures.ok i))
    ∙ ap (λ (low : Tablet). put_at (c.args.place + 1) c.args.upper (insert ts c.args.place low)) c.in_ok-lower.ensures
    ∙ divided ts (ended (Some c.args.row) c.args.lower) c.args.upper c.args.place c.requires
