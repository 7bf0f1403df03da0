use Rattle.std.proofs.Common.{◌∙◌, Some, None, refl, sym, ap}
use Rattle.tab_tablets.specs.Due.{start_of}
use Rattle.tab_tablets.proofs.FirstDue.{starts_there, starts_nowhere}
use Rattle.tab_tablets.proofs.tablets.Tablets.start_of.Goals as goal

pub returns-in_ok-start_at-in-Some : goal.returns-in_ok-start_at-in-Some
returns-in_ok-start_at-in-Some c =
    ap Some c.in_ok-start_at-in-Some.ensures
    ∙ sym (starts_there c.args.number c.self.inside.tablet_list c.in-Some.place c.in-Some.ensures.place)
    ∙ ap (start_of c.args.number None) c.self.view_is

pub returns-in-None : goal.returns-in-None
returns-in-None c =
    sym (starts_nowhere c.args.number c.self.inside.tablet_list (c.in-None.ensures.none refl)) ∙ ap (start_of c.args.number None) c.self.view_is
