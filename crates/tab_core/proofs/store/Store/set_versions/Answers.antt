use Rattle.std.proofs.Common.{◌≡◌, List, Option, Some, None, refl, sym, ◌∙◌, ap, subst, rules}
use Rattle.tab_mutation.specs.Shape.{first_some}
use Rattle.tab_history.specs.declared.event.Act.TheVariants as act
use Rattle.tab_history.specs.declared.reply.Reply.TheVariants.{Refused}
use Rattle.tab_history.specs.Checks.{version_checks}
use Rattle.tab_store.specs.Stores.{TableContents}
use Rattle.tab_store.specs.declared.setting.Setting.TheVariants.{Versions}
use Rattle.tab_store.specs.Tables.{TableState, table_at, settings_at, with_setting}
use Rattle.tab_core.specs.Holding.{held}
use Rattle.tab_core.specs.Stepping.{Does}
use Rattle.tab_core.proofs.Lent.{Lent, lent_so, alters, alters_none, untouched}
use Rattle.tab_core.proofs.TableActs.{versions_refused, versions_set}
use Rattle.tab_core.proofs.store.Store.set_versions.Goals as goal

pub returns-in_default : goal.returns-in_default
returns-in_default c =
    let t = c.args.table.now in
    let old : List TableContents = c.args.self.now.tables in
    let none : table_at old t ≡ None = search rules in
    let same : c.get_mut.follows.lender-at-none ≡ old = search rules in
    versions_set (held c.args.self.now) _ c.args.now c.args.user.now t c.args.versions c.requires (ap (λ (o : Option TableState). first_some (version_checks (settings_at o) c.args.versions)) none)
    (alters_none t (with_setting (Versions c.args.versions)) old _ c.requires.store.names none same)

pub returns-in-Some-versions_refusal : goal.returns-in-Some-versions_refusal
returns-in-Some-versions_refusal c =
    let t = c.args.table.now in
    let old : List TableContents = c.args.self.now.tables in
    let was : TableState = c.in-Some.table.now in
    let lent : Lent t old (c.get_mut.follows.lender was) was was = lent_so t old _ was c.get_mut.result _ c.get_mut.ensures.value c.in-Some.is (c.get_mut.follows.holds was) in
    let fails : first_some (version_checks (settings_at (table_at old t)) c.args.versions) ≡ Some c.in-Some-versions_refusal.refusal =
    ap (λ (o : Option TableState). first_some (version_checks (settings_at o) c.args.versions)) lent.had ∙ sym c.versions_refusal.ensures ∙ c.in-Some-versions_refusal.is in
    subst (λ (ts : List TableContents). Does c.args.self.now c.args.now c.args.user.now (act.SetVersions t c.args.versions) (Refused c.in-Some-versions_refusal.refusal) (record (c.args.self.now) { tables = ts })) (sym (untouched lent refl))
    (versions_refused (held c.args.self.now) c.args.now c.args.user.now t c.args.versions c.in-Some-versions_refusal.refusal c.requires fails)

pub returns : goal.returns
returns c =
    let t = c.args.table.now in
    let old : List TableContents = c.args.self.now.tables in
    let was : TableState = c.in-Some.table.now in
    let now : TableState = c.set.new.self in
    let lent : Lent t old (c.get_mut.follows.lender now) was now = lent_so t old _ now c.get_mut.result _ c.get_mut.ensures.value c.in-Some.is (c.get_mut.follows.holds now) in
    let none : c.versions_refusal.result ≡ None = search rules in
    let passes : first_some (version_checks (settings_at (table_at old t)) c.args.versions) ≡ None =
    ap (λ (o : Option TableState). first_some (version_checks (settings_at o) c.args.versions)) lent.had ∙ sym c.versions_refusal.ensures ∙ none in
    versions_set (held c.args.self.now) _ c.args.now c.args.user.now t c.args.versions c.requires passes (alters (with_setting (Versions c.args.versions)) lent c.set.ensures)
