use Rattle.std.proofs.Common.{rules, ◌≡◌, ℤ, ◌++◌, to_z, of_z, w64, ap, ◌∙◌}
use Rattle.tab_wire.specs.Replies.{i64, field}
use Rattle.tab_journal.proofs.Keeping.{gathered_is}
use Rattle.tab_journal.proofs.gathered.gather_entry.Goals as goal

pub returns-in-Ok-clause-ok : goal.returns-in-Ok-clause-ok
returns-in-Ok-clause-ok c =
    let trip : to_z w64 (of_z w64 c.args.clock) ≡ c.args.clock = search rules in
    gathered_is c.args.text.now.bytes.items c.put_entry.new.output.bytes.items (i64 (to_z w64 (of_z w64 c.args.clock)) ++ (field c.args.user.now ++ field c.args.act.now)) c.in-Ok.ensures.bytes
    ∙ ap (λ (t : ℤ). c.args.text.now.bytes.items ++ (i64 t ++ (field c.args.user.now ++ field c.args.act.now))) trip
