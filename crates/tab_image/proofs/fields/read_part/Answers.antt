use Rattle.std.proofs.Common.{rules, ◌≤◌}
use Rattle.tab_key.specs.declared.limited_part.TheConstants.{MAX_PART_LEN}
use Rattle.tab_image.proofs.FieldLemmas.{part_reads}
use Rattle.tab_image.proofs.fields.read_part.Goals as goal

pub returns-clause-bytes : goal.returns-clause-bytes
returns-clause-bytes g c =
    let few : c.in_ok-count.count ≤ MAX_PART_LEN = search rules in
    part_reads g.R.Input _ _ _ c.in_ok-count.count _ _ _ c.in_ok-count.ensures few c.read_text.ensures.bytes c.read_text.ensures.count
