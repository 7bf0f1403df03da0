use Rattle.std.proofs.Common.{◌≡◌, ℕ, List, true, false, None, refl, sym, subst, rules}
use Rattle.std.specs.Prelude.{IfOk}
use Rattle.tab_mutation.specs.Shape.{is_too_long}
use Rattle.tab_history.specs.declared.event.Act.TheVariants as act
use Rattle.tab_history.specs.declared.reply.Refusal.TheVariants.{NoMemory}
use Rattle.tab_history.specs.declared.reply.Reply.TheVariants.{Refused}
use Rattle.tab_store.specs.Splits.{splits}
use Rattle.tab_store.specs.SplitVariants as split
use Rattle.tab_store.specs.Stepping.{Splitting}
use Rattle.tab_store.specs.Stores.{TableContents}
use Rattle.tab_store.specs.Tables.{TableState, table_at}
use Rattle.tab_core.specs.Holding.{held}
use Rattle.tab_core.specs.Stepping.{Does}
use Rattle.tab_core.proofs.Acting.{lacked}
use Rattle.tab_core.proofs.Lent.{Lent, lent_so, untouched, untouched_err}
use Rattle.tab_core.proofs.Splitting.{SplitSo, adds_split, split_done, split_none, splits_or_lacks, split_so, row_refused, add_passes}
use Rattle.tab_core.proofs.store.Store.add_split.Goals as goal

pub returns-then-is_too_long : goal.returns-then-is_too_long
returns-then-is_too_long c =
    let long : is_too_long c.args.row.now ≡ true = search rules in
    row_refused (held c.args.self.now) c.args.now c.args.user.now c.args.row.now (act.AddSplit c.args.table.now c.args.row.now) c.requires refl long

pub returns-in_default : goal.returns-in_default
returns-in_default c =
    let t = c.args.table.now in
    let row = c.args.row.now in
    let old : List TableContents = c.args.self.now.tables in
    let short : is_too_long row ≡ false = search rules in
    let none : table_at old t ≡ None = search rules in
    let same : c.get_mut.follows.lender-at-none ≡ old = search rules in
    split_done (held c.args.self.now) c.args.now c.args.user.now t (act.AddSplit t row) (Splitting row) (splits row c.args.self.now.tablet) c.requires (adds_split (held c.args.self.now) t row) (add_passes (held c.args.self.now) c.args.now c.args.user.now t row short)
    _ c.told_split.new.tablet split.Done c.told_split.result (split_none t (splits row c.args.self.now.tablet) old _ split.Done c.requires.store.names none same refl) c.told_split.ensures.told c.told_split.ensures.numbers

pub returns-in-Err : goal.returns-in-Err
returns-in-Err c =
    let t = c.args.table.now in
    let old : List TableContents = c.args.self.now.tables in
    let was : TableState = c.in-Some.table.now in
    let lent : Lent t old (c.get_mut.follows.lender was) was was = lent_so t old _ was c.get_mut.result _ c.get_mut.ensures.value c.in-Some.is (c.get_mut.follows.holds was) in
    subst (λ (ts : List TableContents). Does c.args.self.now c.args.now c.args.user.now (act.AddSplit t c.args.row.now) (Refused NoMemory) (record (c.args.self.now) { tables = ts })) (sym (untouched lent refl))
    (lacked _ (held c.args.self.now) c.args.now c.args.user.now (act.AddSplit t c.args.row.now) refl c.requires)

pub returns : goal.returns
returns c =
    let t = c.args.table.now in
    let row = c.args.row.now in
    let number = c.args.self.now.tablet in
    let old : List TableContents = c.args.self.now.tables in
    let was : TableState = c.in-Some.table.now in
    let now : TableState = c.split.new.self in
    let lent : Lent t old (c.get_mut.follows.lender now) was now = lent_so t old _ now c.get_mut.result _ c.get_mut.ensures.value c.in-Some.is (c.get_mut.follows.holds now) in
    let short : is_too_long row ≡ false = search rules in
    let same : c.in-Ok.end ≡ row = search rules in
    let made : IfOk c.split.result (SplitSo t (splits row number) old (c.get_mut.follows.lender now)) =
    subst (λ (r : List ℕ). IfOk c.split.result (SplitSo t (splits r number) old (c.get_mut.follows.lender now))) same (split_so (splits c.in-Ok.end number) c.split.result lent c.split.ensures.told c.split.ensures.ok) in
    splits_or_lacks (held c.args.self.now) c.args.now c.args.user.now t (act.AddSplit t row) (Splitting row) (splits row number) c.requires (adds_split (held c.args.self.now) t row) (add_passes (held c.args.self.now) c.args.now c.args.user.now t row short)
    _ c.split_reply.new.tablet c.split.result c.split_reply.result made (untouched_err c.split.result lent c.split.ensures.err) c.split_reply.ensures.ok c.split_reply.ensures.err c.split_reply.ensures.numbers
