use Rattle.std.proofs.Common.{rules, ◌≡◌, ℤ, w64, to_z, of_z, sym, subst}
use Rattle.tab_codec.specs.Reading.{u64_at, i64_at}
use Rattle.tab_image.specs.Reading.{users_at, tables_at, mark_at, body_at}
use Rattle.tab_image.specs.Streams.{HasRead, Stops}
use Rattle.tab_image.proofs.Streams.{stops_first, stops_later}
use Rattle.tab_image.proofs.BodyLemmas.{body_read}
use Rattle.tab_image.proofs.loading.read_body.Goals as goal

pub returns : goal.returns
returns g c =
    let clock = c.in_ok-clock.clock in
    let same : to_z w64 (of_z w64 clock) ≡ clock = search rules in
    subst (λ (z : ℤ). HasRead g.R.Input c.args.input.now c.read_mark.new.input (body_at c.args.version) (record { clock = z; next = c.in_ok-next.next; users = c.in_ok-users.users; tables = c.in_ok-tables.tables })) (sym same)
    (body_read g.R.Input c.args.version _ _ _ _ _ _ clock _ _ _ c.in_ok-clock.ensures c.in_ok-next.ensures c.in_ok-users.ensures c.in_ok-tables.ensures c.in_ok-read_mark.ensures)

pub returns-in_err-clock : goal.returns-in_err-clock
unfolding body_at
returns-in_err-clock g c =
    let stop : Stops g.R.Input c.args.input.now c.read_i64.new.input (body_at c.args.version) c.in_err-clock.field-0.0 = stops_first g.R.Input _ _ i64_at _ _ c.in_err-clock.ensures in
    search (rules, stop)

pub returns-in_err-next : goal.returns-in_err-next
unfolding body_at
returns-in_err-next g c =
    let stop : Stops g.R.Input c.args.input.now c.read_u64.new.input (body_at c.args.version) c.in_err-next.field-0.0 = stops_later g.R.Input _ _ _ i64_at _ _ _ c.in_ok-clock.ensures (stops_first g.R.Input _ _ u64_at _ _ c.in_err-next.ensures) in
    search (rules, stop)

pub returns-in_err-users : goal.returns-in_err-users
unfolding body_at
returns-in_err-users g c =
    let stop : Stops g.R.Input c.args.input.now c.read_users.new.input (body_at c.args.version) c.in_err-users.field-0.0 = stops_later g.R.Input _ _ _ i64_at _ _ _ c.in_ok-clock.ensures (stops_later g.R.Input _ _ _ u64_at _ _ _ c.in_ok-next.ensures (stops_first g.R.Input _ _ users_at _ _ c.in_err-users.ensures)) in
    search (rules, stop)

pub returns-in_err-tables : goal.returns-in_err-tables
unfolding body_at
returns-in_err-tables g c =
    let stop : Stops g.R.Input c.args.input.now c.read_tables.new.input (body_at c.args.version) c.in_err-tables.field-0.0 = stops_later g.R.Input _ _ _ i64_at _ _ _ c.in_ok-clock.ensures (stops_later g.R.Input _ _ _ u64_at _ _ _ c.in_ok-next.ensures (stops_later g.R.Input _ _ _ users_at _ _ _ c.in_ok-users.ensures (stops_first g.R.Input _ _ (tables_at c.args.version) _ _ c.in_err-tables.ensures))) in
    search (rules, stop)

pub returns-in_err-read_mark : goal.returns-in_err-read_mark
unfolding body_at
returns-in_err-read_mark g c =
    let stop : Stops g.R.Input c.args.input.now c.read_mark.new.input (body_at c.args.version) c.in_err-read_mark.field-0.0 = stops_later g.R.Input _ _ _ i64_at _ _ _ c.in_ok-clock.ensures (stops_later g.R.Input _ _ _ u64_at _ _ _ c.in_ok-next.ensures (stops_later g.R.Input _ _ _ users_at _ _ _ c.in_ok-users.ensures (stops_later g.R.Input _ _ _ (tables_at c.args.version) _ _ _ c.in_ok-tables.ensures (stops_first g.R.Input _ _ mark_at _ _ c.in_err-read_mark.ensures)))) in
    search (rules, stop)
