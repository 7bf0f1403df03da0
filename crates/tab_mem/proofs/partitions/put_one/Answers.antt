use Rattle.std.proofs.Common.{◌≡◌, ℕ, ◌≤◌, ◌∙◌, ap, sym, length, subst, ◌+◌, ◌<◌, slice_range, arith, rules}
use Rattle.tab_mem.specs.Numbers.{count_below}
use Rattle.tab_mem.proofs.Searched.{below_within}
use Rattle.tab_mem.proofs.Apart.{placed_by, lowest_put, higher_put, own_one}
use Rattle.tab_mem.proofs.partitions.put_one.Goals as goal

pub index_mut-requires : goal.index_mut-requires
index_mut-requires c =
    let b = c.args.partitions.now in
    let at : c.count_below-place.result ≡ count_below c.prefix.result b.lows.items = c.count_below-place.ensures ∙ ap (count_below c.prefix.result) c.deref.ensures.value in
    let within = below_within c.prefix.result b.lows.items in
    let some : 0 < c.count_below-place.result = search rules in
    omega (arith, some, at, within, c.requires.parted.many)

pub returns-then-place-eq0-clause-moved : goal.returns-then-place-eq0-clause-moved
returns-then-place-eq0-clause-moved c =
    let b = c.args.partitions.now in
    let r = c.index-items-index.result in
    let place = c.count_below-place.result in
    (lowest_put c.push_all.result b.lows.items b.lowest b.higher.items r.key.row (slice_range c.args.items.now c.args.index (c.args.index + 1)) c.push_all.new.self place c.requires.parted
    (own_one c.args.items.now c.args.index r c.requires.inside c.index-items-index.is) (placed_by b.lows.items place r.key.row c.prefix.result (c.count_below-place.ensures ∙ ap (count_below c.prefix.result) c.deref.ensures.value) c.prefix.ensures) (search rules) c.push_all.ensures.ok c.push_all.ensures.err).moved

pub returns-then-place-eq0-clause-parted : goal.returns-then-place-eq0-clause-parted
returns-then-place-eq0-clause-parted c =
    let b = c.args.partitions.now in
    let r = c.index-items-index.result in
    let place = c.count_below-place.result in
    (lowest_put c.push_all.result b.lows.items b.lowest b.higher.items r.key.row (slice_range c.args.items.now c.args.index (c.args.index + 1)) c.push_all.new.self place c.requires.parted
    (own_one c.args.items.now c.args.index r c.requires.inside c.index-items-index.is) (placed_by b.lows.items place r.key.row c.prefix.result (c.count_below-place.ensures ∙ ap (count_below c.prefix.result) c.deref.ensures.value) c.prefix.ensures) (search rules) c.push_all.ensures.ok c.push_all.ensures.err).parted

pub returns-clause-moved : goal.returns-clause-moved
returns-clause-moved c =
    let b = c.args.partitions.now in
    let r = c.index-items-index.result in
    let place = c.count_below-place.result in
    let some : 0 < place = search rules in
    (higher_put c.push_all-2.result b.lows.items b.lowest b.higher.items r.key.row (slice_range c.args.items.now c.args.index (c.args.index + 1)) c.index_mut.result.now c.push_all-2.new.self place c.requires.parted
    (own_one c.args.items.now c.args.index r c.requires.inside c.index-items-index.is) (placed_by b.lows.items place r.key.row c.prefix.result (c.count_below-place.ensures ∙ ap (count_below c.prefix.result) c.deref.ensures.value) c.prefix.ensures) some (subst (λ (n : ℕ). n ≤ length b.lows.items) (sym (c.count_below-place.ensures ∙ ap (count_below c.prefix.result) c.deref.ensures.value)) (below_within c.prefix.result b.lows.items)) c.index_mut.ensures.value c.push_all-2.ensures.ok c.push_all-2.ensures.err).moved

pub returns-clause-parted : goal.returns-clause-parted
returns-clause-parted c =
    let b = c.args.partitions.now in
    let r = c.index-items-index.result in
    let place = c.count_below-place.result in
    let some : 0 < place = search rules in
    (higher_put c.push_all-2.result b.lows.items b.lowest b.higher.items r.key.row (slice_range c.args.items.now c.args.index (c.args.index + 1)) c.index_mut.result.now c.push_all-2.new.self place c.requires.parted
    (own_one c.args.items.now c.args.index r c.requires.inside c.index-items-index.is) (placed_by b.lows.items place r.key.row c.prefix.result (c.count_below-place.ensures ∙ ap (count_below c.prefix.result) c.deref.ensures.value) c.prefix.ensures) some (subst (λ (n : ℕ). n ≤ length b.lows.items) (sym (c.count_below-place.ensures ∙ ap (count_below c.prefix.result) c.deref.ensures.value)) (below_within c.prefix.result b.lows.items)) c.index_mut.ensures.value c.push_all-2.ensures.ok c.push_all-2.ensures.err).parted
