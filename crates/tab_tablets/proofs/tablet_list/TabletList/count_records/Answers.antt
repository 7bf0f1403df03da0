use Rattle.std.proofs.Common.{◌∙◌, ◌+◌, List, [], ◌∷◌, ◌++◌, None, length, sym, ap}
use Rattle.std.specs.Prelude.{min}
use Rattle.tab_tablet.specs.Tablets.{Tablet}
use Rattle.tab_tablets.specs.ByRow.{records_of_all}
use Rattle.tab_tablets.specs.Places.{ended}
use Rattle.tab_tablets.proofs.Counted.{capped, records_more}
use Rattle.tab_tablets.proofs.tablet_list.TabletList.count_records.Goals as goal

pub returns : goal.returns
returns c =
    let last : Tablet = ended None c.self.inside.last in
    c.saturating_add.ensures ∙ (λ i. min (c.count_records.ensures i + c.count_records-2.ensures i) 18446744073709551615) ∙ capped _ _
    ∙ ap (λ n. min n 18446744073709551615) (sym (records_more c.deref.result.now last) ∙ ap (λ (l : List Tablet). length (records_of_all (l ++ last ∷ []))) c.deref.ensures.value ∙ ap (λ ts. length (records_of_all ts)) c.self.view_is)
