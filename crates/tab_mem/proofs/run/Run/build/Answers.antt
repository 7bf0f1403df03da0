-- What is left of a rising list rises.
use Rattle.std.proofs.Common.{◌∙◌, sym, subst}
use Rattle.tab_iter.specs.Lists.{IsRising}
use Rattle.tab_iter.proofs.ListLaws.{rising_end}
use Rattle.tab_mem.proofs.run.Run.build.Goals as goal

pub of-requires : goal.of-requires
of-requires g c =
    let source = c.see_positioned.new.source in
    let rest = g.S.Source.rest source in
    let whole = g.S.Source.whole source in
    subst IsRising (sym (c.shrink_to_fit.ensures ∙ c.in_ok-records.ensures)) (rising_end rest whole (g.met.S.Source.rest_is_suffix source) (g.met.S.Source.whole_rises source))
