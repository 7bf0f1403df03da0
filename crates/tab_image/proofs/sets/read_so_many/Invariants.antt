use Rattle.tab_label.specs.Sets.{byte_lists}
use Rattle.tab_codec.specs.Reading.{field_at, parts_at}
use Rattle.tab_image.specs.Streams.{HasRead}
use Rattle.tab_image.proofs.sets.read_so_many.Given as goal

abbrev pub invariant-loop : goal.invariant-loop
invariant-loop g l = HasRead g.R.Input l.fn.input l.input (parts_at field_at l.counter) (byte_lists l.texts.items)
