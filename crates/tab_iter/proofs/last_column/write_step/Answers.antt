-- A step is as long as what it goes over.
use Rattle.std.proofs.Common.{sym, ap, ◌∙◌, length}
use Rattle.std.proofs.lemmas.List.{length-take-le}
use Rattle.tab_iter.proofs.last_column.write_step.Goals as goal

pub copy_from_slice-requires : goal.copy_from_slice-requires
copy_from_slice-requires c = length-take-le 64 c.args.body.now c.requires.room ∙ sym (ap length c.first_step.ensures ∙ length-take-le 64 c.args.bytes.now c.requires.bytes)
