use Rattle.std.proofs.Common.{◌≡◌, ℤ, List, None, subst, rules, to_z, of_z, w64}
use Rattle.std.specs.Prelude.{OnOk}
use Rattle.tab_store.specs.Stores.{TableContents}
use Rattle.tab_store.specs.Tables.{TableState, table_at}
use Rattle.tab_core.specs.Holding.{held}
use Rattle.tab_core.proofs.Compacting.{compacted_at, compaction_done, compacts}
use Rattle.tab_core.proofs.Lent.{Lent, lent_so, alters_ok, alters_none, untouched_err}
use Rattle.tab_core.proofs.store.Store.compact.Goals as goal

pub returns-in-Some : goal.returns-in-Some
returns-in-Some c = λ act is.
    let t = c.args.table.now in
    let kind = c.args.kind in
    let old : List TableContents = c.args.self.now.tables in
    let was : TableState = c.in-Some.table.now in
    let now : TableState = c.compact.new.self in
    let lent : Lent t old (c.get_mut.follows.lender now) was now = lent_so t old _ now c.get_mut.result _ c.get_mut.ensures.value c.in-Some.is (c.get_mut.follows.holds now) in
    let trip : to_z w64 (of_z w64 c.args.now) ≡ c.args.now = search rules in
    let done : OnOk c.compact.result (now ≡ compacted_at kind c.args.now was) = subst (λ (m : ℤ). OnOk c.compact.result (now ≡ compacted_at kind m was)) trip c.compact.ensures.ok in
    compacts (held c.args.self.now) _ c.args.now c.args.user.now t act kind c.compact.result c.compacted.result c.requires is
    (alters_ok (compacted_at kind c.args.now) c.compact.result lent done) (untouched_err c.compact.result lent c.compact.ensures.err) c.compacted.ensures.ok c.compacted.ensures.err

pub returns-in-None : goal.returns-in-None
returns-in-None c = λ act is.
    let t = c.args.table.now in
    let old : List TableContents = c.args.self.now.tables in
    let none : table_at old t ≡ None = search rules in
    let same : c.get_mut.follows.lender-at-none ≡ old = search rules in
    compaction_done (held c.args.self.now) _ c.args.now c.args.user.now t act c.args.kind c.requires is (alters_none t (compacted_at c.args.kind c.args.now) old _ c.requires.store.names none same)
