use Rattle.std.proofs.Common.{◌≡◌, None, List, rules}
use Rattle.tab_store.specs.Stores.{TableContents}
use Rattle.tab_store.specs.declared.setting.Setting.TheVariants.{Constraints}
use Rattle.tab_store.specs.Tables.{TableState, table_at, with_setting}
use Rattle.tab_core.specs.Holding.{held}
use Rattle.tab_core.proofs.Lent.{Lent, lent_so, alters, alters_none}
use Rattle.tab_core.proofs.TableActs.{constraints_set}
use Rattle.tab_core.proofs.store.Store.set_constraints.Goals as goal
use Rattle.tab_core.proofs.store.Store.set_constraints.Goals.{in-Some, in_default}

pub returns-clause-does : goal.returns-clause-does
returns-clause-does c =
    let t = c.args.table.now in
    let old : List TableContents = c.args.self.now.tables in
    elim c.match-get_mut.branch [
      | in-Some w ↦
          let given : c.replace-given.result ≡ c.args.constraints.now = search rules in
          let now : TableState = w.set.new.self in
          let lent : Lent t old (c.get_mut.follows.lender now) w.in-Some.table.now now = lent_so t old _ now c.get_mut.result _ c.get_mut.ensures.value w.in-Some.is (c.get_mut.follows.holds now) in
          rw w.self-is (constraints_set (held c.args.self.now) _ c.args.now c.args.user.now t c.args.constraints.now c.requires (alters (with_setting (Constraints c.args.constraints.now)) lent (rw given at w.set.ensures)))
      | in_default w ↦
          let none : table_at old t ≡ None = search rules in
          let same : c.get_mut.follows.lender-at-none ≡ old = search rules in
          rw w.self-is (constraints_set (held c.args.self.now) _ c.args.now c.args.user.now t c.args.constraints.now c.requires (alters_none t (with_setting (Constraints c.args.constraints.now)) old _ c.requires.store.names none same))
    ]
