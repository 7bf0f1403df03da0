use Rattle.std.proofs.Common.{◌≡◌, ℕ, true, false, refl, subst, sym, List, length, rules}
use Rattle.std.specs.Prelude.{nat_le, is_some}
use Rattle.tab_policy.specs.State.{State, user_exists}
use Rattle.tab_history.specs.declared.event.Act.{Act}
use Rattle.tab_history.specs.declared.event.Act.TheVariants as act
use Rattle.tab_history.specs.declared.reply.Refusal.TheVariants.{NoMemory}
use Rattle.tab_history.specs.declared.reply.Reply.TheVariants.{Done, Refused}
use Rattle.tab_history.specs.Readings.{has_user}
use Rattle.tab_store.specs.Stores.{TableContents}
use Rattle.tab_store.specs.Tables.{made_table, table_at}
use Rattle.tab_store.proofs.Changed.{tables_back, count_back}
use Rattle.tab_core.specs.Holding.{held}
use Rattle.tab_core.specs.Stepping.{Does}
use Rattle.tab_core.proofs.Acting.{lacked, lacked_alike}
use Rattle.tab_core.proofs.TableActs.{table_exists_already, tables_used_up, table_made, made_by}
use Rattle.tab_core.proofs.store.Store.create_table.Goals as goal

pub returns-then-is_some : goal.returns-then-is_some
returns-then-is_some c =
    let there : is_some (table_at c.args.self.now.tables c.args.table.now) ≡ true = search rules in
    table_exists_already (held c.args.self.now) c.args.now c.args.user.now c.args.table.now c.args.time c.args.versions c.requires.core there

pub returns-then-len-ge-MAX_TABLES : goal.returns-then-len-ge-MAX_TABLES
returns-then-len-ge-MAX_TABLES c =
    let absent : is_some (table_at c.args.self.now.tables c.args.table.now) ≡ false = search rules in
    let full : nat_le 4294967295 (length c.args.self.now.tables) ≡ true = search rules in
    tables_used_up (held c.args.self.now) c.args.now c.args.user.now c.args.table.now c.args.time c.args.versions c.requires.core absent full

pub returns-in-Err : goal.returns-in-Err
returns-in-Err c =
    subst (λ (ts : List TableContents). Does c.args.self.now c.args.now c.args.user.now (act.CreateTable c.args.table.now c.args.time c.args.versions) (Refused NoMemory) (record (c.args.self.now) { tables = ts })) (sym c.in-Err.ensures.err)
    (lacked _ (held c.args.self.now) c.args.now c.args.user.now (act.CreateTable c.args.table.now c.args.time c.args.versions) refl c.requires.core)

pub returns-in-Ok-create_table : goal.returns-in-Ok-create_table
unfolding user_exists has_user
returns-in-Ok-create_table c =
    let absent : is_some (table_at c.args.self.now.tables c.args.table.now) ≡ false = search rules in
    let room : nat_le 4294967295 (length c.args.self.now.tables) ≡ false = search rules in
    subst (λ (n : ℕ). Does c.args.self.now c.args.now c.args.user.now (act.CreateTable c.args.table.now c.args.time c.args.versions) Done (record (c.args.self.now) { policy = c.create_table.new.self; tables = c.insert.new.self; tablet = n })) (sym c.next_number-self.ensures)
    (table_made (held c.args.self.now) c.create_table.new.self c.insert.new.self c.args.now c.args.user.now c.args.table.now c.args.time c.args.versions c.requires.core absent room c.insert.ensures.names c.in-Ok.ensures.count c.in-Ok.ensures.tables
    (made_by _ c.create_table.new.self c.args.user.now c.args.table.now c.requires.admitted.0 c.in-Ok-create_table.ensures.ok))

pub returns-in-Err-create_table : goal.returns-in-Err-create_table
returns-in-Err-create_table c =
    let a : Act = act.CreateTable c.args.table.now c.args.time c.args.versions in
    let absent : is_some (table_at c.args.self.now.tables c.args.table.now) ≡ false = search rules in
    let back = tables_back c.args.self.now.tables c.insert.new.self c.remove.new.self c.args.table.now (made_table c.args.time c.args.versions c.args.self.now.tablet) absent c.in-Ok.ensures.tables c.remove.ensures.tables in
    let count = count_back c.args.self.now.tables c.insert.new.self c.remove.new.self c.args.table.now (made_table c.args.time c.args.versions c.args.self.now.tablet) absent c.in-Ok.ensures.tables c.remove.ensures.tables c.in-Ok.ensures.count c.remove.ensures.count in
    subst (λ (p : State). Does c.args.self.now c.args.now c.args.user.now a (Refused NoMemory) (record (c.args.self.now) { policy = p; tables = c.remove.new.self })) (sym c.in-Err-create_table.ensures.err)
    (lacked_alike _ (held c.args.self.now) c.remove.new.self c.args.now c.args.user.now a refl c.requires.core (record { names = c.remove.ensures.names; count = count; same = back }))
