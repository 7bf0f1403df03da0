use Rattle.std.proofs.Common.{rules, ◌≡◌, ◌∙◌, ◌+◌, ℕ, ℤ, List, Some, cond, ap, subst, length, min, arith, w64, to_z, of_z}
use Rattle.std.specs.Prelude.{OnOk, bytes_eq}
use Rattle.tab_tablets.proofs.Restored.{either_way}
use Rattle.tab_store.specs.Tables.{TableState, table_at, restored_table}
use Rattle.tab_loading.specs.Tables.{number_behind, table_state_of}
use Rattle.tab_loading.proofs.Restoring.{restored_count}
use Rattle.tab_loading.proofs.tables.put_table.Goals as goal

-- there is one tablet more than end rows
pub returns-clause-number : goal.returns-clause-number
returns-clause-number c =
    let head = c.args.table.head in
    let count : c.tablet_count.result ≡ min (length head.ends + 1) 18446744073709551615 =
    c.tablet_count.ensures
    ∙ ap (λ (t : TableState). min (length t.tablets) 18446744073709551615) c.in_ok-restored.ensures
    ∙ ap (λ n. min n 18446744073709551615) (restored_count c.args.number.now head.ends c.args.table.records c.requires.ends c.requires.records) in
    let sum = c.saturating_add.ensures in
    let behind : c.saturating_add.result ≡ number_behind c.args.number.now c.args.table = omega (arith, count, sum) in
    either_way c.put_table.result behind

pub returns-clause-tables : goal.returns-clause-tables
returns-clause-tables c =
    let head = c.args.table.head in
    let trip : to_z w64 (of_z w64 head.horizon) ≡ head.horizon = search rules in
    let made : c.in_ok-restored.restored ≡ table_state_of (record { number = c.args.number.now; table = c.args.table }) =
    c.in_ok-restored.ensures ∙ ap (λ (z : ℤ). restored_table head.time head.versions head.constraints z c.args.number.now head.ends c.args.table.records) trip in
    subst (λ (t : TableState). OnOk c.put_table.result ((q : List ℕ) → table_at c.put_table.new.self q ≡ cond (bytes_eq head.name q) (Some t) (table_at c.args.made.now q))) made c.put_table.ensures.tables
