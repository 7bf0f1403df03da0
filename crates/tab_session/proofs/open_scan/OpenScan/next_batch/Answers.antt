use Rattle.std.proofs.Common.{◌∙◌, List, ap, map}
use Rattle.std.specs.Prelude.{Some}
use Rattle.tab_cells.specs.SessionState.{SessionState}
use Rattle.tab_key.specs.Records.{Record, cell_of}
use Rattle.tab_session.specs.Bookmarks.{given_of}
use Rattle.tab_session.proofs.Batches.{gives, gave_them}
use Rattle.tab_session.proofs.open_scan.OpenScan.next_batch.Goals as goal

pub returns-clause-ok : goal.returns-clause-ok
returns-clause-ok c = rw (← c.self.view_is, c.in-Some.is) (gives (Some c.in-Some.from) c.self.inside.scan c.args.count _ c.in_ok-batch.ensures.cells)

pub returns-clause-after : goal.returns-clause-after
returns-clause-after c =
    let seen : List Record → SessionState = λ shown. record { all = map cell_of shown; given = given_of c.in_ok-batch.batch.next shown } in
    rw (← c.self.view_is, c.in-Some.is) (ap seen c.read.ensures.same ∙ gave_them (Some c.in-Some.from) _ c.self.inside.scan c.args.count c.in_ok-batch.ensures.next)
