use Rattle.tab_codec.specs.Reading.{parts_at}
use Rattle.tab_image.specs.Streams.{HasRead}
use Rattle.tab_image.proofs.lists.read_parts.Given as goal

abbrev pub invariant-loop : goal.invariant-loop
invariant-loop g l = HasRead g.R.Input l.fn.input l.input (parts_at (g.P.ReadPart.reads l.how) l.counter) l.parts.items
