-- Each 16th record is a restart.
use Rattle.std.proofs.Common.{◌++◌, ◌∷◌, [], ◌+◌, refl, sym, subst, length, take}
use Rattle.tab_key.specs.Encoding.{length_at}
use Rattle.tab_table.specs.Restarts.{AreRestarts}
use Rattle.tab_table.specs.declared.restarts.Restart.{Restart}
use Rattle.tab_table.proofs.Noted.{not_noted, noted, put_shares}
use Rattle.tab_table.proofs.restarts.Restarts.put.Goals as goal

pub returns-then-index-ne0 : goal.returns-then-index-ne0
returns-then-index-ne0 c = not_noted c.args.blocks.now c.args.index c.args.record.now c.requires.more c.args.self.now.each.items c.args.self.now.shares.items c.requires.restarts c.if-index-ne0.true

pub returns : goal.returns
returns c =
    let blocks = c.args.blocks.now in
    let place = c.args.place in
    let u = c.args.record.now in
    let old = c.args.self.now.shares.items in
    let extra = take (length_at blocks place) u.key.row ++ take (length_at blocks (place + 4)) u.key.family ++ take (length_at blocks (place + 8)) u.key.qualifier ++ take (length_at blocks (place + 12)) u.key.label in
    let at : Restart = record { place = place; from = length old } in
    let new = c.put_restart.new.self in
    let more = noted blocks c.args.index u c.requires.more c.args.self.now.each.items old c.requires.restarts extra at c.if-index-ne0.false
    (record { there = c.requires.there; kept = put_shares old (old ++ extra) (length_at blocks place) (length_at blocks (place + 4)) (length_at blocks (place + 8)) (length_at blocks (place + 12)) u.key c.requires.row c.requires.family c.requires.qualifier c.requires.label refl }) in
    subst (λ rs. AreRestarts rs blocks new.shares.items (c.args.index + 1)) (sym c.in_ok-put_restart.ensures.each)
    (subst (λ s. AreRestarts (c.args.self.now.each.items ++ at ∷ []) blocks s (c.args.index + 1)) (sym c.in_ok-put_restart.ensures.shares) more)
