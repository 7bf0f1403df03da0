use Rattle.std.proofs.Common.{◌≡◌, ℕ, ℤ, List, None, refl, sym, rules, subst, to_z, of_z, w64}
use Rattle.std.specs.Prelude.{IfOk}
use Rattle.tab_history.specs.declared.event.Act.TheVariants as act
use Rattle.tab_history.specs.declared.reply.Refusal.TheVariants.{NoMemory}
use Rattle.tab_history.specs.declared.reply.Reply.TheVariants.{Refused, Nothing}
use Rattle.tab_store.specs.Stores.{TableContents}
use Rattle.tab_store.specs.Tables.{TableState, table_at}
use Rattle.tab_core.specs.Holding.{held}
use Rattle.tab_core.specs.Stepping.{Does}
use Rattle.tab_core.proofs.Acting.{lacked}
use Rattle.tab_core.proofs.Beginning.{BeganSo, began_so, began_none, begin_done, begins_or_lacks}
use Rattle.tab_core.proofs.Lent.{Lent, lent_so, untouched, untouched_err}
use Rattle.tab_core.proofs.store.Store.begin.Goals as goal

pub returns-in_default : goal.returns-in_default
returns-in_default c =
    let t = c.args.table.now in
    let number = c.args.self.now.job in
    let old : List TableContents = c.args.self.now.tables in
    let none : table_at old t ≡ None = search rules in
    let same : c.get_mut.follows.lender-at-none ≡ old = search rules in
    begin_done (held c.args.self.now) c.args.now c.args.user.now t c.args.row.now c.args.kind c.requires _ number None Nothing (began_none t c.args.row.now c.args.kind c.args.now number old _ c.requires.store.names none same) refl refl refl

pub returns-in-Err : goal.returns-in-Err
returns-in-Err c =
    let t = c.args.table.now in
    let old : List TableContents = c.args.self.now.tables in
    let was : TableState = c.in-Some.table.now in
    let lent : Lent t old (c.get_mut.follows.lender was) was was = lent_so t old _ was c.get_mut.result _ c.get_mut.ensures.value c.in-Some.is (c.get_mut.follows.holds was) in
    subst (λ (ts : List TableContents). Does c.args.self.now c.args.now c.args.user.now (act.Begin t c.args.row.now c.args.kind) (Refused NoMemory) (record (c.args.self.now) { tables = ts })) (sym (untouched lent refl))
    (lacked _ (held c.args.self.now) c.args.now c.args.user.now (act.Begin t c.args.row.now c.args.kind) refl c.requires)

pub returns : goal.returns
returns c =
    let t = c.args.table.now in
    let number = c.args.self.now.job in
    let old : List TableContents = c.args.self.now.tables in
    let was : TableState = c.in-Some.table.now in
    let now : TableState = c.begin.new.self in
    let lent : Lent t old (c.get_mut.follows.lender now) was now = lent_so t old _ now c.get_mut.result _ c.get_mut.ensures.value c.in-Some.is (c.get_mut.follows.holds now) in
    let trip : to_z w64 (of_z w64 c.args.now) ≡ c.args.now = search rules in
    let same : c.in-Ok.kept ≡ c.args.row.now = search rules in
    let began : IfOk c.begin.result (BeganSo t c.in-Ok.kept c.args.kind c.args.now number old (c.get_mut.follows.lender now)) =
    subst (λ (m : ℤ). IfOk c.begin.result (BeganSo t c.in-Ok.kept c.args.kind m number old (c.get_mut.follows.lender now))) trip
    (began_so c.in-Ok.kept c.args.kind (to_z w64 (of_z w64 c.args.now)) number c.begin.result lent c.begin.ensures.job c.begin.ensures.ok) in
    let done : IfOk c.begin.result (BeganSo t c.args.row.now c.args.kind c.args.now number old (c.get_mut.follows.lender now)) =
    subst (λ (row : List ℕ). IfOk c.begin.result (BeganSo t row c.args.kind c.args.now number old (c.get_mut.follows.lender now))) same began in
    begins_or_lacks (held c.args.self.now) c.args.now c.args.user.now t c.args.row.now c.args.kind c.requires _ c.begun_reply.new.number c.begin.result c.begun_reply.result done (untouched_err c.begin.result lent c.begin.ensures.err)
    c.begun_reply.ensures.told c.begun_reply.ensures.hands c.begun_reply.ensures.err c.begun_reply.ensures.numbers
