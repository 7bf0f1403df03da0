use Rattle.std.proofs.Common.{rules, ◌≡◌, to_z, of_z, w64, ap, ◌∙◌, [], ◌∷◌}
use Rattle.tab_journal.specs.Stretches.{Stretch, kept_behind}
use Rattle.tab_journal.proofs.Keeping.{puts_one, stretch_more}
use Rattle.tab_journal.proofs.gathered.Gathered.put.Goals as goal

pub invariant_of-self-2 : goal.invariant_of-self-2
invariant_of-self-2 c =
    let trip : to_z w64 (of_z w64 c.args.clock) ≡ c.args.clock = search rules in
    (puts_one c.self.inside.text.bytes.items c.gather_entry.new.text.bytes.items c.user.result.now c.body.result.now c.args.event.now c.args.clock c.self.invariant c.requires c.user.ensures.valid c.ranges.clock c.gather_entry.ensures.fits
    c.body.ensures.read c.body.ensures.written c.body.ensures.short c.user.ensures.value _ trip c.in_ok-gather_entry.ensures.ok).are

pub returns-clause-ok : goal.returns-clause-ok
returns-clause-ok c =
    let trip : to_z w64 (of_z w64 c.args.clock) ≡ c.args.clock = search rules in
    stretch_more c.self.inside.clock c.self.inside.text.bytes.items c.gather_entry.new.text.bytes.items (record c.args.event.now { moment = c.args.clock })
    (puts_one c.self.inside.text.bytes.items c.gather_entry.new.text.bytes.items c.user.result.now c.body.result.now c.args.event.now c.args.clock c.self.invariant c.requires c.user.ensures.valid c.ranges.clock c.gather_entry.ensures.fits
    c.body.ensures.read c.body.ensures.written c.body.ensures.short c.user.ensures.value _ trip c.in_ok-gather_entry.ensures.ok)
    ∙ ap (λ (s : Stretch). kept_behind s s.clock (record c.args.event.now { moment = c.args.clock } ∷ [])) c.self.view_is
