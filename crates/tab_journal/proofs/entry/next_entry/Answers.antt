use Rattle.std.proofs.Common.{rules, ◌≡◌, ℕ, List, Option, Some, Bor, IfOk, to_z, of_z, w64, option_map, subst, ◌∙◌}
use Rattle.tab_history.specs.declared.event.Event.{Event}
use Rattle.tab_journal.proofs.EntryParts.{at_moment, entry_by_parts}
use Rattle.tab_journal.proofs.entry.next_entry.Goals as goal

pub returns-in-Some : goal.returns-in-Some
returns-in-Some c =
    let trip : to_z w64 (of_z w64 c.in-Some.moment) ≡ c.in-Some.moment = search rules in
    subst (λ (o : Option (Event × List ℕ)). IfOk c.whole_entry.result (λ read. option_map (λ (x : Event × Bor (List ℕ)). (x.0, x.1.now)) read ≡ o))
    (at_moment _ _ c.in-Some.user.now c.in-Some.body.now c.in-Some.rest.now trip ∙ entry_by_parts c.args.bytes.now (Some _) c.in-Some.ensures)
    c.whole_entry.ensures

pub returns-in-None : goal.returns-in-None
returns-in-None c = entry_by_parts c.args.bytes.now _ c.in-None.ensures
