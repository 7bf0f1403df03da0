use Rattle.std.proofs.Common.{◌≡◌, ℕ, List, true, false, None, refl, subst, rules}
use Rattle.std.specs.Prelude.{IfOk}
use Rattle.tab_mutation.specs.Shape.{is_too_long}
use Rattle.tab_history.specs.declared.event.Act.TheVariants as act
use Rattle.tab_history.specs.declared.reply.Refusal.TheVariants.{BadSplit}
use Rattle.tab_history.specs.declared.reply.Reply.TheVariants.{Refused}
use Rattle.tab_history.specs.declared.split_fault.SplitFault.TheVariants.{OneRow}
use Rattle.tab_store.specs.Splits.{halves}
use Rattle.tab_store.specs.SplitVariants as split
use Rattle.tab_store.specs.Stepping.{Halving}
use Rattle.tab_store.specs.Stores.{TableContents}
use Rattle.tab_store.specs.Tables.{TableState, table_at}
use Rattle.tab_core.specs.Holding.{held}
use Rattle.tab_core.proofs.Lent.{Lent, lent_so, untouched_err}
use Rattle.tab_core.proofs.Splitting.{SplitSo, splits_by_size, split_done, split_none, splits_or_lacks, split_so, row_refused, halve_passes}
use Rattle.tab_core.proofs.store.Store.halve.Goals as goal

pub returns-then-is_too_long : goal.returns-then-is_too_long
returns-then-is_too_long c =
    let long : is_too_long c.args.row.now ≡ true = search rules in
    row_refused (held c.args.self.now) c.args.now c.args.user.now c.args.row.now (act.SplitBySize c.args.table.now c.args.row.now c.args.limit) c.requires refl long

pub returns-in_default : goal.returns-in_default
returns-in_default c =
    let t = c.args.table.now in
    let row = c.args.row.now in
    let number = c.args.self.now.tablet in
    let old : List TableContents = c.args.self.now.tables in
    let short : is_too_long row ≡ false = search rules in
    let none : table_at old t ≡ None = search rules in
    let same : c.get_mut.follows.lender-at-none ≡ old = search rules in
    split_done (held c.args.self.now) c.args.now c.args.user.now t (act.SplitBySize t row c.args.limit) (Halving row c.args.limit) (halves row c.args.limit number) c.requires
    (splits_by_size (held c.args.self.now) t row c.args.limit) (halve_passes (held c.args.self.now) c.args.now c.args.user.now t row c.args.limit short)
    _ number split.OneRow (Refused (BadSplit OneRow)) (split_none t (halves row c.args.limit number) old _ split.OneRow c.requires.store.names none same refl) refl (λ q r. refl)

pub returns : goal.returns
returns c =
    let t = c.args.table.now in
    let row = c.args.row.now in
    let number = c.args.self.now.tablet in
    let old : List TableContents = c.args.self.now.tables in
    let was : TableState = c.in-Some.table.now in
    let now : TableState = c.halve-made.new.self in
    let lent : Lent t old (c.get_mut.follows.lender now) was now = lent_so t old _ now c.get_mut.result _ c.get_mut.ensures.value c.in-Some.is (c.get_mut.follows.holds now) in
    let short : is_too_long row ≡ false = search rules in
    let made : IfOk c.halve-made.result (SplitSo t (halves row c.args.limit number) old (c.get_mut.follows.lender now)) =
    subst (λ (r : List ℕ). IfOk c.halve-made.result (SplitSo t (halves r c.args.limit number) old (c.get_mut.follows.lender now))) c.as_bytes.ensures
    (split_so (halves c.as_bytes.result.now c.args.limit number) c.halve-made.result lent c.halve-made.ensures.told c.halve-made.ensures.ok) in
    splits_or_lacks (held c.args.self.now) c.args.now c.args.user.now t (act.SplitBySize t row c.args.limit) (Halving row c.args.limit) (halves row c.args.limit number) c.requires
    (splits_by_size (held c.args.self.now) t row c.args.limit) (halve_passes (held c.args.self.now) c.args.now c.args.user.now t row c.args.limit short)
    _ c.split_reply.new.tablet c.halve-made.result c.split_reply.result made (untouched_err c.halve-made.result lent c.halve-made.ensures.err) c.split_reply.ensures.ok c.split_reply.ensures.err c.split_reply.ensures.numbers
