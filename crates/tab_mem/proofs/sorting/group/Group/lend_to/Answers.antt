use Rattle.std.proofs.Common.{◌≡◌, ◌++◌, List, subst}
use Rattle.std.specs.Prelude.{OnOk}
use Rattle.tab_key.specs.Records.{Record}
use Rattle.tab_mem.proofs.sorting.group.Group.lend_to.Goals as goal

pub lend_columns-requires : goal.lend_columns-requires
lend_columns-requires c = c.self.invariant.filled

pub returns : goal.returns
returns c = subst (λ (us : List Record). OnOk c.lend_columns.result (c.lend_columns.new.items.items ≡ c.args.items.now.items ++ us)) c.self.view_is c.lend_columns.ensures
