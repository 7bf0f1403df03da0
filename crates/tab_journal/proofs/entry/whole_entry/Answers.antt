use Rattle.std.proofs.Common.{rules, ◌≡◌, ℕ, ℤ, List, Option, Some, Bor, IfOk, to_z, of_z, w64, option_map, subst, ap, ◌∙◌}
use Rattle.tab_history.specs.declared.event.Event.{Event}
use Rattle.tab_journal.specs.Reading.{entry_of}
use Rattle.tab_journal.proofs.EntryParts.{by_name}
use Rattle.tab_journal.proofs.entry.whole_entry.Goals as goal

pub returns-in-Some : goal.returns-in-Some
returns-in-Some c =
    let trip : to_z w64 (of_z w64 c.args.moment) ≡ c.args.moment = search rules in
    subst (λ (o : Option (Event × List ℕ)). IfOk c.named_entry.result (λ read. option_map (λ (x : Event × Bor (List ℕ)). (x.0, x.1.now)) read ≡ o))
    (ap (λ (t : ℤ). entry_of t c.in-Some.user c.args.body.now c.args.rest.now) trip ∙ by_name c.args.moment c.args.user.now c.args.body.now c.args.rest.now (Some c.in-Some.user) c.in-Some.ensures)
    c.named_entry.ensures

pub returns-in-None : goal.returns-in-None
returns-in-None c = by_name c.args.moment c.args.user.now c.args.body.now c.args.rest.now _ c.in-None.ensures
