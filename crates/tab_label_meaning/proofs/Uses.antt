-- What the laws say of the examples: what the tests give, by the grammar, and what the grammar says, by the test.
use Rattle.std.proofs.Common.{◌≡◌, true}
use Rattle.std.specs.Prelude.{codes, Some}
use Rattle.tab_label.specs.Holding.{label_holds}
use Rattle.tab_history.specs.declared.reply.Refusal.TheVariants.{MalformedVisibility}
use Rattle.tab_label_meaning.specs.Meaning.{LabelsHold, MalformedIsTheFirst, IsFirstMalformed}
use Rattle.tab_label_meaning.specs.Examples.{bytes, both, held, puts, labels_are_bytes, second}

-- the test of a&b is true for who has both: its machine isn't looked into
pub tested : LabelsHold → label_holds (codes "a&b") both ≡ true
tested law = (law (codes "a&b") both bytes).1 held

-- of the mutation the first label is one, the second none, at its own offset
pub refused : MalformedIsTheFirst → IsFirstMalformed puts.updates 1 2
refused law = (law puts labels_are_bytes (Some (MalformedVisibility 1 2))).0 second
