-- A label is known by its number once it was judged.
use Rattle.std.proofs.Common.{◌≡◌, is_ok, true, rules}
use Rattle.tab_label.specs.Reading.{label_of}
use Rattle.tab_label.proofs.KnownLabelLemmas.{by_word}
use Rattle.tab_image.proofs.sanity.has_label.Goals as goal

pub note-requires : goal.note-requires
note-requires c =
    let judged : is_ok (label_of c.args.record.now.key.label) ≡ true = search rules in
    by_word c.in-Some.word c.args.record.now.key.label c.in-Some.ensures.word judged
