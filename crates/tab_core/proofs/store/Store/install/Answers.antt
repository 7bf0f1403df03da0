use Rattle.std.proofs.Common.{◌≡◌, List, None, refl, rules}
use Rattle.tab_history.specs.declared.reply.Refusal.TheVariants.{Stale}
use Rattle.tab_history.specs.declared.reply.Reply.TheVariants.{Refused}
use Rattle.tab_store.specs.InstalledVariants as installed
use Rattle.tab_store.specs.Stores.{TableContents}
use Rattle.tab_store.specs.Tables.{TableState, table_at}
use Rattle.tab_core.specs.Holding.{held}
use Rattle.tab_core.proofs.Beginning.{install_done, installed_so, installed_none, installs_or_lacks}
use Rattle.tab_core.proofs.Lent.{Lent, lent_so, untouched_err}
use Rattle.tab_core.proofs.store.Store.install.Goals as goal

pub returns-in-Some : goal.returns-in-Some
returns-in-Some c =
    let t = c.args.table.now in
    let old : List TableContents = c.args.self.now.tables in
    let was : TableState = c.in-Some.table.now in
    let now : TableState = c.install.new.self in
    let lent : Lent t old (c.get_mut.follows.lender now) was now = lent_so t old _ now c.get_mut.result _ c.get_mut.ensures.value c.in-Some.is (c.get_mut.follows.holds now) in
    installs_or_lacks (held c.args.self.now) c.args.now c.args.user.now t c.args.finished c.requires _ c.install.result c.install_reply.result (installed_so c.args.finished c.install.result lent c.install.ensures.told c.install.ensures.ok)
    (untouched_err c.install.result lent c.install.ensures.err) c.install_reply.ensures.ok c.install_reply.ensures.none c.install_reply.ensures.err

pub returns-in-None : goal.returns-in-None
returns-in-None c =
    let t = c.args.table.now in
    let old : List TableContents = c.args.self.now.tables in
    let none : table_at old t ≡ None = search rules in
    let same : c.get_mut.follows.lender-at-none ≡ old = search rules in
    install_done (held c.args.self.now) c.args.now c.args.user.now t c.args.finished c.requires _ (installed.Stale 0) (Refused (Stale 0)) (installed_none t c.args.finished old _ c.requires.store.names none same) refl refl
