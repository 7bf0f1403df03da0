use Rattle.std.proofs.Common.{List, sym, subst}
use Rattle.std.specs.Prelude.{OnOk}
use Rattle.std.specs.List.{AllByRecursion}
use Rattle.tab_image.specs.Images.{written_version}
use Rattle.tab_image.specs.Spelling.{front_bytes}
use Rattle.tab_policy.specs.Holders.{AreUsers}
use Rattle.tab_policy.specs.State.{State}
use Rattle.tab_store.specs.Stores.{TableContents}
use Rattle.tab_saving.specs.Saves.{Saves, RootHasAll, AreListed}
use Rattle.tab_saving.specs.Typed.{IsTypedUser, IsTypedTable}
use Rattle.tab_saving.proofs.Fitting.{spelled_with}
use Rattle.tab_saving.proofs.Saved.{all_listed, held_bytes, image_written, ok_both}
use Rattle.tab_saving.proofs.Texts.{saves_same, saves_more, write_fails}
use Rattle.tab_saving.proofs.saving.put_core.Goals as goal

pub returns-in_err-put_clocks-clause-put : goal.returns-in_err-put_clocks-clause-put
returns-in_err-put_clocks-clause-put g c =
    let h = c.args.core.now in
    let names = c.args.users.now in
    saves_same g.W.Output c.args.output.now c.put_clocks.new.output _ _ c.from_residual.result (image_written h names)
    (write_fails g.W.Output c.args.output.now c.put_clocks.new.output (front_bytes written_version h.clock h.next) (held_bytes h names) c.from_residual.result c.in_err-put_clocks.ensures.put c.from_residual.ensures)

pub put_held-requires-clause-root : goal.put_held-requires-clause-root
put_held-requires-clause-root g c = subst RootHasAll (sym c.policy.ensures) c.requires.core.limits.root_has_all

pub put_held-requires-clause-users : goal.put_held-requires-clause-users
put_held-requires-clause-users g c = subst (λ s. AreUsers s c.args.users.now) (sym c.policy.ensures) c.requires.users

pub put_held-requires-clause-listed : goal.put_held-requires-clause-listed
put_held-requires-clause-listed g c = subst (AllByRecursion (λ (t : TableContents). AreListed t.tablets)) (sym c.tables.ensures) (all_listed c.args.core.now c.requires.core)

pub returns-clause-put : goal.returns-clause-put
returns-clause-put g c =
    let h = c.args.core.now in
    let names = c.args.users.now in
    let put : State → List TableContents → Type 0 = λ s ts. Saves g.W.Output c.put_clocks.new.output c.put_held.new.output (held_bytes (record h { policy = s; tables = ts }) names) c.put_held.result in
    let held : put h.policy h.tables = subst (λ s. put s h.tables) c.policy.ensures (subst (put c.policy.result.now) c.tables.ensures c.put_held.ensures.put) in
    saves_same g.W.Output c.args.output.now c.put_held.new.output _ _ c.put_held.result (image_written h names)
    (saves_more g.W.Output c.args.output.now c.put_clocks.new.output c.put_held.new.output (front_bytes written_version h.clock h.next) (held_bytes h names) c.put_held.result c.in_ok-put_clocks.ensures.put held)

pub returns-clause-image : goal.returns-clause-image
returns-clause-image g c =
    let users = subst (λ s. OnOk c.put_held.result (AllByRecursion (IsTypedUser s) c.args.users.now)) c.policy.ensures c.put_held.ensures.users in
    let tables = subst (λ ts. OnOk c.put_held.result (AllByRecursion IsTypedTable ts)) c.tables.ensures c.put_held.ensures.tables in
    ok_both c.put_held.result (λ us ts. spelled_with c.args.core.now c.args.users.now c.requires.users c.requires.core us ts c.put_clocks.ensures.typed) users tables
