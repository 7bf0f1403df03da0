use Rattle.std.proofs.Common.{◌≡◌, ◌∙◌, true, sym, rules}
use Rattle.tab_tablets.proofs.Bare.{records_none}
use Rattle.tab_tablets.proofs.opening.holds_nothing.Goals as goal

pub returns-clause-none : goal.returns-clause-none
returns-clause-none c = λ e.
    let yes : c.is_frozen.result ≡ true = search rules in
    records_none c.args.tablet.now c.count_sources.result (sym c.is_frozen.ensures.frozen ∙ yes) c.count_sources.ensures e
