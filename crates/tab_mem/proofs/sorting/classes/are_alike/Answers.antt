use Rattle.std.proofs.Common.{◌≡◌, ◌∙◌, [], ap, get_or}
use Rattle.std.specs.Ordering.{is_eq}
use Rattle.std.proofs.lemmas.List.{get_or_read}
use Rattle.tab_key.specs.Bytes.{bytes_cmp}
use Rattle.tab_mem.specs.Groups.{row_of}
use Rattle.tab_mem.proofs.sorting.classes.are_alike.Goals as goal

pub returns : goal.returns
returns c =
    let ws = c.args.groups.now in
    let a : c.index-groups-one.result ≡ get_or ws c.args.one [] = get_or_read ws c.args.one c.index-groups-one.result c.requires.one c.index-groups-one.is [] in
    let b : c.index-groups-other.result ≡ get_or ws c.args.other [] = get_or_read ws c.args.other c.index-groups-other.result c.requires.other c.index-groups-other.is [] in
    c.is_eq.ensures
    ∙ ap is_eq c.cmp_row.ensures ∙ (λ i. is_eq (bytes_cmp (row_of (a i)) (row_of (b i))))
