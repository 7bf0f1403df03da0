use Rattle.std.proofs.Common.{◌≡◌, ◌∙◌, ◌⊎◌, inl, inr, ℕ, ℤ, List, Result, Ok, Err, Option, Some, None, sym, ap, subst, map, rules}
use Rattle.tab_key.specs.Sorted.{sorted}
use Rattle.tab_mutation.specs.Shape.{first_some}
use Rattle.tab_history.specs.declared.reply.Refusal.{Refusal}
use Rattle.tab_history.specs.declared.reply.Refusal.TheVariants.{NoMemory}
use Rattle.tab_history.specs.declared.event.Act.TheVariants.{Open}
use Rattle.tab_history.specs.declared.event.Scan.{Scan}
use Rattle.tab_history.specs.declared.reply.Reply.{Reply}
use Rattle.tab_history.specs.Answers.{listed, query_of, told_of}
use Rattle.tab_history.specs.Checks.{scan_checks}
use Rattle.tab_session.specs.OpenSession.{OpenSession, opened}
use Rattle.tab_store.specs.ByRow.{records_of_all}
use Rattle.tab_store.specs.Parts.{TabletMerge}
use Rattle.tab_store.specs.Stores.{TableContents}
use Rattle.tab_store.specs.Tablets.{frozen}
use Rattle.tab_store.specs.Tables.{TableState, table_at, settings_at, tablets_of, with_tablets}
use Rattle.tab_core.specs.Spending.{OpensOn, left_of}
use Rattle.tab_core.specs.Stepping.{ActsOnTables}
use Rattle.tab_core.proofs.Lent.{Lent, lent_so, alters, untouched}
use Rattle.tab_core.proofs.Opening.{leaves_tables, open_either}
use Rattle.tab_core.proofs.scans.open.Goals as goal

-- The table that was lent is the one that is scanned.
opens_lent : {old new : List TableContents} {was left : TableState} (auths : List (List ℕ)) (now : ℤ) (scan : Scan) (next : ℕ) (reply : Reply OpenSession TabletMerge) (scan' : Scan) → (None ≡ first_some (scan_checks auths scan)) ⊎ (None ≡ Some NoMemory)
    → Lent scan.table old new was left → OpensOn was scan reply left scan' → ActsOnTables auths now (Open scan) old next reply new next
opens_lent {old} {new} auths now scan next reply scan' passes lent (inl made) =
    let session : OpenSession = made.0 in
    let is : session ≡ opened (listed (sorted (records_of_all (tablets_of (table_at old scan.table)))) (query_of scan) (settings_at (table_at old scan.table))) = subst (λ (o : Option TableState). session ≡ opened (listed (sorted (records_of_all (tablets_of o))) (query_of scan) (settings_at o))) (sym lent.had) made.2 in
    let done : Result OpenSession (Unit {0}) = Ok session in
    open_either auths now scan old new next done reply passes is (alters (with_tablets (map frozen)) lent made.3) tt made.1 tt
opens_lent {old} {new} auths now scan next reply scan' passes lent (inr lacks) =
    let done : Result OpenSession (Unit {0}) = Err tt in
    open_either auths now scan old new next done reply passes tt tt (untouched lent lacks.1) tt lacks.0

-- What is left of the scan goes with what is told.
left_so : (was left : TableState) (scan scan' : Scan) (reply : Reply OpenSession TabletMerge) → OpensOn was scan reply left scan' → Open scan' ≡ left_of (Open scan) (told_of reply)
left_so was left scan scan' reply (inl made) = made.4 ∙ sym (ap (λ (r : Reply OpenSession TabletMerge). left_of (Open scan) (told_of r)) made.1)
left_so was left scan scan' reply (inr lacks) = ap Open lacks.2 ∙ sym (ap (λ (r : Reply OpenSession TabletMerge). left_of (Open scan) (told_of r)) lacks.0)

pub returns-in-Some-clause-acts : goal.returns-in-Some-clause-acts
returns-in-Some-clause-acts c = λ now next. leaves_tables c.args.authorizations.now now c.args.scan.now c.args.tables.now next c.in-Some.refusal c.in-Some.ensures

pub returns-in-Some-get_mut-clause-acts : goal.returns-in-Some-get_mut-clause-acts
returns-in-Some-get_mut-clause-acts c = λ now next.
    let scan = c.args.scan.now in
    let t = c.args.scan.now.table in
    let auths = c.args.authorizations.now in
    let old : List TableContents = c.args.tables.now in
    let was : TableState = c.in-Some-get_mut.table.now in
    let left : TableState = c.session_on.new.table in
    let lent : Lent t old (c.get_mut.follows.lender left) was left = lent_so t old _ left c.get_mut.result _ c.get_mut.ensures.value c.in-Some-get_mut.is (c.get_mut.follows.holds left) in
    let none : c.scan_refusal.result ≡ None = search rules in
    let passes : (None ≡ first_some (scan_checks auths scan)) ⊎ (None ≡ Some NoMemory) = subst (λ (o : Option Refusal). (o ≡ first_some (scan_checks auths scan)) ⊎ (o ≡ Some NoMemory)) none c.scan_refusal.ensures in
    opens_lent auths now scan next c.session_on.result c.session_on.new.scan passes lent c.session_on.ensures

pub returns-in-Some-get_mut-clause-left : goal.returns-in-Some-get_mut-clause-left
returns-in-Some-get_mut-clause-left c = left_so c.in-Some-get_mut.table.now c.session_on.new.table c.args.scan.now c.session_on.new.scan c.session_on.result c.session_on.ensures
