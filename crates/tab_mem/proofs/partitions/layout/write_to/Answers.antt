use Rattle.std.proofs.Common.{ℕ, ◌≤◌, ◌∙◌, ap, sym, length, subst, arith, ◌≡◌, ◌<◌, ◌-◌, ◌∷◌, ◌++◌, ℤ, slice_set, rules, to_z, of_z, w64}
use Rattle.std.specs.Prelude.{OnOk}
use Rattle.std.specs.List.Sorted.{IsPermutation}
use Rattle.tab_cells.specs.Written.{mutation_records}
use Rattle.tab_iter.specs.Bags.{flat}
use Rattle.tab_mem.specs.Numbers.{count_below}
use Rattle.tab_mem.proofs.Searched.{below_within}
use Rattle.tab_mem.proofs.Apart.{placed_by, lowest_put, higher_put, rows_of}
use Rattle.tab_mem.proofs.partitions.layout.write_to.Goals as goal

pub index_mut-requires : goal.index_mut-requires
index_mut-requires c =
    let b = c.args.partitions.now in
    let at : c.count_below-place.result ≡ count_below c.row_prefix.result b.lows.items = c.count_below-place.ensures ∙ ap (count_below c.row_prefix.result) c.deref.ensures.value in
    let within = below_within c.row_prefix.result b.lows.items in
    let some : 0 < c.count_below-place.result = search rules in
    omega (arith, some, at, within, c.requires.parted.many)

pub returns-then-place-eq0-clause-ok : goal.returns-then-place-eq0-clause-ok
returns-then-place-eq0-clause-ok c =
    let b = c.args.partitions.now in
    let m = c.args.mutation.now in
    let place = c.count_below-place.result in
    let trip : to_z w64 (of_z w64 c.args.clock) ≡ c.args.clock = search rules in
    subst (λ (z : ℤ). OnOk c.write.result (IsPermutation (flat (b.lowest ∷ b.higher.items) ++ mutation_records c.args.seq z m) (c.write.new.self ++ flat b.higher.items))) trip
    (lowest_put c.write.result b.lows.items b.lowest b.higher.items m.row _ c.write.new.self place c.requires.parted (rows_of c.args.seq m.row _) (placed_by b.lows.items place m.row c.row_prefix.result (c.count_below-place.ensures ∙ ap (count_below c.row_prefix.result) c.deref.ensures.value) (search rules)) (search rules) c.write.ensures.ok c.write.ensures.err).moved

pub returns-then-place-eq0-clause-parted : goal.returns-then-place-eq0-clause-parted
returns-then-place-eq0-clause-parted c =
    let b = c.args.partitions.now in
    let m = c.args.mutation.now in
    let place = c.count_below-place.result in
    (lowest_put c.write.result b.lows.items b.lowest b.higher.items m.row _ c.write.new.self place c.requires.parted (rows_of c.args.seq m.row _) (placed_by b.lows.items place m.row c.row_prefix.result (c.count_below-place.ensures ∙ ap (count_below c.row_prefix.result) c.deref.ensures.value) (search rules)) (search rules) c.write.ensures.ok c.write.ensures.err).parted

pub returns-clause-ok : goal.returns-clause-ok
returns-clause-ok c =
    let b = c.args.partitions.now in
    let m = c.args.mutation.now in
    let place = c.count_below-place.result in
    let some : 0 < place = search rules in
    let trip : to_z w64 (of_z w64 c.args.clock) ≡ c.args.clock = search rules in
    subst (λ (z : ℤ). OnOk c.write-2.result (IsPermutation (flat (b.lowest ∷ b.higher.items) ++ mutation_records c.args.seq z m) (b.lowest ++ flat (slice_set b.higher.items (place - 1) c.write-2.new.self)))) trip
    (higher_put c.write-2.result b.lows.items b.lowest b.higher.items m.row _ c.index_mut.result.now c.write-2.new.self place c.requires.parted (rows_of c.args.seq m.row _) (placed_by b.lows.items place m.row c.row_prefix.result (c.count_below-place.ensures ∙ ap (count_below c.row_prefix.result) c.deref.ensures.value) (search rules)) some (subst (λ (n : ℕ). n ≤ length b.lows.items) (sym (c.count_below-place.ensures ∙ ap (count_below c.row_prefix.result) c.deref.ensures.value)) (below_within c.row_prefix.result b.lows.items)) c.index_mut.ensures.value c.write-2.ensures.ok c.write-2.ensures.err).moved

pub returns-clause-parted : goal.returns-clause-parted
returns-clause-parted c =
    let b = c.args.partitions.now in
    let m = c.args.mutation.now in
    let place = c.count_below-place.result in
    let some : 0 < place = search rules in
    (higher_put c.write-2.result b.lows.items b.lowest b.higher.items m.row _ c.index_mut.result.now c.write-2.new.self place c.requires.parted (rows_of c.args.seq m.row _) (placed_by b.lows.items place m.row c.row_prefix.result (c.count_below-place.ensures ∙ ap (count_below c.row_prefix.result) c.deref.ensures.value) (search rules)) some (subst (λ (n : ℕ). n ≤ length b.lows.items) (sym (c.count_below-place.ensures ∙ ap (count_below c.row_prefix.result) c.deref.ensures.value)) (below_within c.row_prefix.result b.lows.items)) c.index_mut.ensures.value c.write-2.ensures.ok c.write-2.ensures.err).parted
