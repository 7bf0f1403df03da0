use Rattle.std.proofs.Common.{◌≡◌, ◌∙◌, List, [], ◌∷◌, ◌++◌, None, refl, sym, ap, subst}
use Rattle.std.specs.Prelude.{IfOk}
use Rattle.tab_tablet.specs.Tablets.{Tablet}
use Rattle.tab_tablets.specs.ByRow.{ends_of}
use Rattle.tab_tablets.specs.Places.{ended}
use Rattle.tab_tablets.proofs.Counted.{no_more_ends}
use Rattle.tab_tablets.proofs.tablet_list.TabletList.ends.Goals as goal

pub returns : goal.returns
returns c =
    let last : Tablet = ended None c.self.inside.last in
    subst (λ ends. IfOk c.ends_of.result (λ v. v.items ≡ ends))
    (sym (no_more_ends c.deref.result.now last refl) ∙ ap (λ (l : List Tablet). ends_of (l ++ last ∷ [])) c.deref.ensures.value ∙ ap ends_of c.self.view_is)
    c.ends_of.ensures
