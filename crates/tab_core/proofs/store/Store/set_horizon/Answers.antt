use Rattle.std.proofs.Common.{◌≡◌, ℤ, List, Option, Some, None, refl, sym, ◌∙◌, ap, subst, rules, to_z, of_z, w64}
use Rattle.tab_mutation.specs.Shape.{first_some}
use Rattle.tab_history.specs.declared.event.Act.TheVariants as act
use Rattle.tab_history.specs.declared.reply.Reply.TheVariants.{Refused}
use Rattle.tab_history.specs.Checks.{horizon_checks}
use Rattle.tab_store.specs.Stores.{TableContents}
use Rattle.tab_store.specs.declared.setting.Setting.TheVariants.{Horizon}
use Rattle.tab_store.specs.Tables.{TableState, table_at, settings_at, with_setting}
use Rattle.tab_core.specs.Holding.{held}
use Rattle.tab_core.specs.Stepping.{Does}
use Rattle.tab_core.proofs.Lent.{Lent, lent_so, alters, alters_none, untouched}
use Rattle.tab_core.proofs.TableActs.{horizon_refused, horizon_set}
use Rattle.tab_core.proofs.store.Store.set_horizon.Goals as goal

pub returns-in_default : goal.returns-in_default
returns-in_default c =
    let t = c.args.table.now in
    let old : List TableContents = c.args.self.now.tables in
    let none : table_at old t ≡ None = search rules in
    let same : c.get_mut.follows.lender-at-none ≡ old = search rules in
    horizon_set (held c.args.self.now) _ c.args.now c.args.user.now t c.args.horizon c.requires (ap (λ (o : Option TableState). first_some (horizon_checks (settings_at o) c.args.horizon)) none)
    (alters_none t (with_setting (Horizon c.args.horizon)) old _ c.requires.store.names none same)

pub returns-in-Some-horizon_refusal : goal.returns-in-Some-horizon_refusal
returns-in-Some-horizon_refusal c =
    let t = c.args.table.now in
    let old : List TableContents = c.args.self.now.tables in
    let was : TableState = c.in-Some.table.now in
    let lent : Lent t old (c.get_mut.follows.lender was) was was = lent_so t old _ was c.get_mut.result _ c.get_mut.ensures.value c.in-Some.is (c.get_mut.follows.holds was) in
    let trip : to_z w64 (of_z w64 c.args.horizon) ≡ c.args.horizon = search rules in
    let fails : first_some (horizon_checks (settings_at (table_at old t)) c.args.horizon) ≡ Some c.in-Some-horizon_refusal.refusal =
    ap (λ (o : Option TableState). first_some (horizon_checks (settings_at o) c.args.horizon)) lent.had ∙ sym (c.horizon_refusal.ensures ∙ ap (λ (n : ℤ). first_some (horizon_checks (Some was.settings) n)) trip) ∙ c.in-Some-horizon_refusal.is in
    subst (λ (ts : List TableContents). Does c.args.self.now c.args.now c.args.user.now (act.SetHorizon t c.args.horizon) (Refused c.in-Some-horizon_refusal.refusal) (record (c.args.self.now) { tables = ts })) (sym (untouched lent refl))
    (horizon_refused (held c.args.self.now) c.args.now c.args.user.now t c.args.horizon c.in-Some-horizon_refusal.refusal c.requires fails)

pub returns : goal.returns
returns c =
    let t = c.args.table.now in
    let old : List TableContents = c.args.self.now.tables in
    let was : TableState = c.in-Some.table.now in
    let now : TableState = c.set.new.self in
    let lent : Lent t old (c.get_mut.follows.lender now) was now = lent_so t old _ now c.get_mut.result _ c.get_mut.ensures.value c.in-Some.is (c.get_mut.follows.holds now) in
    let trip : to_z w64 (of_z w64 c.args.horizon) ≡ c.args.horizon = search rules in
    let none : c.horizon_refusal.result ≡ None = search rules in
    let passes : first_some (horizon_checks (settings_at (table_at old t)) c.args.horizon) ≡ None =
    ap (λ (o : Option TableState). first_some (horizon_checks (settings_at o) c.args.horizon)) lent.had ∙ sym (c.horizon_refusal.ensures ∙ ap (λ (n : ℤ). first_some (horizon_checks (Some was.settings) n)) trip) ∙ none in
    let set : now ≡ with_setting (Horizon c.args.horizon) was = subst (λ (n : ℤ). now ≡ with_setting (Horizon n) was) trip c.set.ensures in
    horizon_set (held c.args.self.now) _ c.args.now c.args.user.now t c.args.horizon c.requires passes (alters (with_setting (Horizon c.args.horizon)) lent set)
