-- The last record tells it.
use Rattle.std.proofs.Common.{◌∙◌, ◌-◌, ap, sym}
use Rattle.std.specs.Prelude.{slice_index_or}
use Rattle.std.specs.Ordering.{is_lt}
use Rattle.tab_key.specs.KeyOf.{key_of}
use Rattle.tab_key.specs.Order.{key_cmp}
use Rattle.tab_version.specs.InTurn.{reaches}
use Rattle.tab_version.proofs.PartsByIndex.{some_part}
use Rattle.tab_version.proofs.Reaching.{reaches_by_last}
use Rattle.tab_version.proofs.clip.ClipOf.reaches.Goals as goal

pub returns : goal.returns
returns g c =
    let inside = c.self.inside in
    let listed = g.W.FrozenRecords.listed inside.whole.value in
    let some = some_part inside.from inside.end listed c.args.self.now c.self.invariant.inside c.self.view_is (sym c.is_empty.ensures ∙ c.if-is_empty.false) in
    reaches_by_last (key_of c.args.key) inside.from inside.end listed c.is_before.result c.self.invariant.rising some c.self.invariant.inside
    (λ u. c.is_before.ensures u ∙ ap (λ l. is_lt (key_cmp (slice_index_or l (inside.end - 1) u).key (key_of c.args.key))) (ap g.W.FrozenRecords.listed c.deref.ensures))
    ∙ ap (reaches (key_of c.args.key)) c.self.view_is
