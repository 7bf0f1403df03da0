use Rattle.std.proofs.Common.{rules, ◌≡◌, ℤ, w64, to_z, of_z, sym, subst}
use Rattle.tab_codec.specs.Reading.{name_at, time_at, versions_at, constraints_at}
use Rattle.tab_image.specs.Reading.{horizon_at, rights_at, ends_at, head_at}
use Rattle.tab_image.specs.Streams.{HasRead, Stops}
use Rattle.tab_image.proofs.Streams.{read_then, stops_first, stops_later, read_made}
use Rattle.tab_image.proofs.reading_tables.read_head.Goals as goal

pub returns-in_err-name : goal.returns-in_err-name
unfolding head_at
returns-in_err-name g c =
    let stop : Stops g.R.Input c.args.input.now c.read_name.new.input (head_at c.args.version) c.in_err-name.field-0.0 = stops_first g.R.Input _ _ name_at _ _ c.in_err-name.ensures in
    search (rules, stop)

pub returns-in_err-time : goal.returns-in_err-time
unfolding head_at
returns-in_err-time g c =
    let stop : Stops g.R.Input c.args.input.now c.read_time.new.input (head_at c.args.version) c.in_err-time.field-0.0 = stops_later g.R.Input _ _ _ name_at _ _ _ c.in_ok-name.ensures (stops_first g.R.Input _ _ time_at _ _ c.in_err-time.ensures) in
    search (rules, stop)

pub returns-in_err-versions : goal.returns-in_err-versions
unfolding head_at
returns-in_err-versions g c =
    let stop : Stops g.R.Input c.args.input.now c.read_versions.new.input (head_at c.args.version) c.in_err-versions.field-0.0 = stops_later g.R.Input _ _ _ name_at _ _ _ c.in_ok-name.ensures (stops_later g.R.Input _ _ _ time_at _ _ _ c.in_ok-time.ensures (stops_first g.R.Input _ _ versions_at _ _ c.in_err-versions.ensures)) in
    search (rules, stop)

pub returns-in_err-constraints : goal.returns-in_err-constraints
unfolding head_at
returns-in_err-constraints g c =
    let stop : Stops g.R.Input c.args.input.now c.read_constraints.new.input (head_at c.args.version) c.in_err-constraints.field-0.0 = stops_later g.R.Input _ _ _ name_at _ _ _ c.in_ok-name.ensures (stops_later g.R.Input _ _ _ time_at _ _ _ c.in_ok-time.ensures (stops_later g.R.Input _ _ _ versions_at _ _ _ c.in_ok-versions.ensures (stops_first g.R.Input _ _ constraints_at _ _ c.in_err-constraints.ensures))) in
    search (rules, stop)

pub returns-in_err-horizon : goal.returns-in_err-horizon
unfolding head_at
returns-in_err-horizon g c =
    let stop : Stops g.R.Input c.args.input.now c.read_horizon.new.input (head_at c.args.version) c.in_err-horizon.field-0.0 = stops_later g.R.Input _ _ _ name_at _ _ _ c.in_ok-name.ensures (stops_later g.R.Input _ _ _ time_at _ _ _ c.in_ok-time.ensures (stops_later g.R.Input _ _ _ versions_at _ _ _ c.in_ok-versions.ensures (stops_later g.R.Input _ _ _ constraints_at _ _ _ c.in_ok-constraints.ensures (stops_first g.R.Input _ _ (horizon_at c.args.version) _ _ c.in_err-horizon.ensures)))) in
    search (rules, stop)

pub returns-in_err-rights : goal.returns-in_err-rights
unfolding head_at
returns-in_err-rights g c =
    let stop : Stops g.R.Input c.args.input.now c.read_rights.new.input (head_at c.args.version) c.in_err-rights.field-0.0 = stops_later g.R.Input _ _ _ name_at _ _ _ c.in_ok-name.ensures (stops_later g.R.Input _ _ _ time_at _ _ _ c.in_ok-time.ensures (stops_later g.R.Input _ _ _ versions_at _ _ _ c.in_ok-versions.ensures (stops_later g.R.Input _ _ _ constraints_at _ _ _ c.in_ok-constraints.ensures (stops_later g.R.Input _ _ _ (horizon_at c.args.version) _ _ _ c.in_ok-horizon.ensures (stops_first g.R.Input _ _ rights_at _ _ c.in_err-rights.ensures))))) in
    search (rules, stop)

pub returns-in_err-ends : goal.returns-in_err-ends
unfolding head_at
returns-in_err-ends g c =
    let stop : Stops g.R.Input c.args.input.now c.read_ends.new.input (head_at c.args.version) c.in_err-ends.field-0.0 = stops_later g.R.Input _ _ _ name_at _ _ _ c.in_ok-name.ensures (stops_later g.R.Input _ _ _ time_at _ _ _ c.in_ok-time.ensures (stops_later g.R.Input _ _ _ versions_at _ _ _ c.in_ok-versions.ensures (stops_later g.R.Input _ _ _ constraints_at _ _ _ c.in_ok-constraints.ensures (stops_later g.R.Input _ _ _ (horizon_at c.args.version) _ _ _ c.in_ok-horizon.ensures (stops_later g.R.Input _ _ _ rights_at _ _ _ c.in_ok-rights.ensures (stops_first g.R.Input _ _ ends_at _ _ c.in_err-ends.ensures)))))) in
    search (rules, stop)

pub returns : goal.returns
unfolding head_at
returns g c =
    let horizon = c.in_ok-horizon.horizon in
    let same : to_z w64 (of_z w64 horizon) ≡ horizon = search rules in
    subst (λ (z : ℤ). HasRead g.R.Input c.args.input.now c.read_ends.new.input (head_at c.args.version) (record { name = c.in_ok-name.name; time = c.in_ok-time.time; versions = c.in_ok-versions.versions; constraints = c.in_ok-constraints.constraints; horizon = z; rights = c.in_ok-rights.rights; ends = c.in_ok-ends.ends })) (sym same)
    (read_then g.R.Input _ _ _ name_at _ _ _ c.in_ok-name.ensures (read_then g.R.Input _ _ _ time_at _ _ _ c.in_ok-time.ensures (read_then g.R.Input _ _ _ versions_at _ _ _ c.in_ok-versions.ensures (read_then g.R.Input _ _ _ constraints_at _ _ _ c.in_ok-constraints.ensures (read_then g.R.Input _ _ _ (horizon_at c.args.version) _ _ _ c.in_ok-horizon.ensures (read_then g.R.Input _ _ _ rights_at _ _ _ c.in_ok-rights.ensures (read_then g.R.Input _ _ _ ends_at _ _ _ c.in_ok-ends.ensures (read_made g.R.Input c.read_ends.new.input _))))))))
