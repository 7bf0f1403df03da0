use Rattle.std.proofs.Common.{◌∙◌, ◌+◌, List, [], ◌∷◌, ◌++◌, None, sym, ap}
use Rattle.std.specs.Prelude.{min, sum, map}
use Rattle.tab_tablet.specs.Tablets.{Tablet}
use Rattle.tab_tablets.specs.Places.{ended}
use Rattle.tab_tablets.proofs.Counted.{sources_of, capped, sources_more}
use Rattle.tab_tablets.proofs.tablet_list.TabletList.count_sources.Goals as goal

pub returns : goal.returns
returns c =
    let last : Tablet = ended None c.self.inside.last in
    c.saturating_add.ensures ∙ (λ i. min (c.count_sources.ensures i + c.count_sources-2.ensures i) 18446744073709551615) ∙ capped _ _
    ∙ ap (λ n. min n 18446744073709551615) (sym (sources_more c.deref.result.now last) ∙ ap (λ (l : List Tablet). sum (map sources_of (l ++ last ∷ []))) c.deref.ensures.value ∙ ap (λ ts. sum (map sources_of ts)) c.self.view_is)
