use Rattle.tab_codec.specs.Reading.{parts_at}
use Rattle.tab_image.specs.Reading.{record_at}
use Rattle.tab_image.specs.Streams.{HasRead}
use Rattle.tab_image.proofs.record_reading.read_so_many.Given as goal

abbrev pub invariant-loop : goal.invariant-loop
invariant-loop g l = HasRead g.R.Input l.fn.input l.input (parts_at record_at l.counter) l.records
