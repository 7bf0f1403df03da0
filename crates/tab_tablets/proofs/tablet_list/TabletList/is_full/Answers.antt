use Rattle.std.proofs.Common.{◌≡◌, ◌∙◌, ◌+◌, List, [], ◌∷◌, None, length, sym, ap, rules, arith}
use Rattle.std.specs.Prelude.{nat_le}
use Rattle.std.proofs.lemmas.List.{length-append}
use Rattle.tab_tablet.specs.Tablets.{Tablet}
use Rattle.tab_tablets.specs.ByRow.{ends_of}
use Rattle.tab_tablets.specs.Places.{ended}
use Rattle.tab_tablets.proofs.EndRows.{ends_count}
use Rattle.tab_tablets.proofs.tablet_list.TabletList.is_full.Goals as goal

pub returns : goal.returns
returns c =
    let last : Tablet = ended None c.self.inside.last in
    let lower : List Tablet = c.self.inside.lower.items in
    let len : c.len.result ≡ length lower = search rules in
    let all : length (ends_of c.args.self.now) + 1 ≡ length lower + 1 = ends_count c.args.self.now c.requires ∙ ap length (sym c.self.view_is) ∙ length-append lower (last ∷ []) in
    let same : c.len.result ≡ length (ends_of c.args.self.now) = omega (arith, len, all) in
    ap (nat_le 4294967295) same
