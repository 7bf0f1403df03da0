-- A label that is known isn't malformed, and one that isn't malformed is known by its number.
use Rattle.std.proofs.Common.{◌≡◌, None, rules}
use Rattle.tab_label.specs.Reading.{label_of}
use Rattle.tab_label.proofs.KnownLabelLemmas.{by_word}
use Rattle.tab_history.specs.Checks.{malformed_at}
use Rattle.tab_core.proofs.LabelLemmas.{ok_none, none_ok}
use Rattle.tab_core.proofs.labels.unknown_malformed_at.Goals as goal

pub returns-then-has : goal.returns-then-has
returns-then-has c = ok_none c.args.place (label_of c.args.update.now.label) (c.has.ensures c.if-has.true c.args.update.now.label c.in-Some.ensures.word)

pub note-requires : goal.note-requires
note-requires c =
    let none : malformed_at c.args.place (label_of c.args.update.now.label) ≡ None = search rules in
    by_word c.in-Some.word c.args.update.now.label c.in-Some.ensures.word (none_ok c.args.place (label_of c.args.update.now.label) none)
