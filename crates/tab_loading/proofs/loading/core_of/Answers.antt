use Rattle.std.proofs.Common.{◌≡◌, sym, subst, rules, w64, to_z, of_z}
use Rattle.tab_loading.proofs.Loaded.{IsLoaded, made_by_calls}
use Rattle.tab_loading.proofs.loading.core_of.Goals as goal

pub restored-requires : goal.restored-requires
restored-requires c =
    let trip : to_z w64 (of_z w64 c.args.image.clock) ≡ c.args.image.clock = search rules in
    (made_by_calls c.args.image c.requires _ trip _ _ _ _ _ _ _ c.into_vec.ensures c.in_ok-policy.ensures c.as_slice.ensures c.in_ok-put_tables.ensures c.into_vec-2.ensures c.in_ok-tables.ensures.tables c.in_ok-tables.ensures.number).core

pub returns-clause-of : goal.returns-clause-of
returns-clause-of c =
    let trip : to_z w64 (of_z w64 c.args.image.clock) ≡ c.args.image.clock = search rules in
    (subst (IsLoaded c.args.image) (sym c.restored.ensures)
    (made_by_calls c.args.image c.requires _ trip _ _ _ _ _ _ _ c.into_vec.ensures c.in_ok-policy.ensures c.as_slice.ensures c.in_ok-put_tables.ensures c.into_vec-2.ensures c.in_ok-tables.ensures.tables c.in_ok-tables.ensures.number)).of

pub returns-clause-laid : goal.returns-clause-laid
returns-clause-laid c =
    let trip : to_z w64 (of_z w64 c.args.image.clock) ≡ c.args.image.clock = search rules in
    (subst (IsLoaded c.args.image) (sym c.restored.ensures)
    (made_by_calls c.args.image c.requires _ trip _ _ _ _ _ _ _ c.into_vec.ensures c.in_ok-policy.ensures c.as_slice.ensures c.in_ok-put_tables.ensures c.into_vec-2.ensures c.in_ok-tables.ensures.tables c.in_ok-tables.ensures.number)).laid

pub returns-clause-counts : goal.returns-clause-counts
returns-clause-counts c =
    let trip : to_z w64 (of_z w64 c.args.image.clock) ≡ c.args.image.clock = search rules in
    (subst (IsLoaded c.args.image) (sym c.restored.ensures)
    (made_by_calls c.args.image c.requires _ trip _ _ _ _ _ _ _ c.into_vec.ensures c.in_ok-policy.ensures c.as_slice.ensures c.in_ok-put_tables.ensures c.into_vec-2.ensures c.in_ok-tables.ensures.tables c.in_ok-tables.ensures.number)).counts
