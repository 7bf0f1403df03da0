-- The table goes behind the smaller ones.
use Rattle.std.proofs.Common.{◌≡◌, ◌∙◌, arith, ap}
use Rattle.std.specs.Prelude.{nat_lt}
use Rattle.std.specs.List.{insert, prefix_len}
use Rattle.std.proofs.lemmas.List.Sums.{prefix_len-le-length}
use Rattle.tab_version.specs.Sources.{Sorted}
use Rattle.tab_compact.proofs.BySize.{put_inserts}
use Rattle.tab_compact.proofs.capturing.put_by_size.Goals as goal

pub insert-requires : goal.insert-requires
insert-requires c = omega (arith, c.count_smaller-at.ensures, prefix_len-le-length (λ (t : Sorted). nat_lt t.size c.size.result) c.deref.result.now, c.deref.ensures.len)

pub returns : goal.returns
returns c =
    let items = c.args.tables.now.items in
    let at : c.count_smaller-at.result ≡ prefix_len (λ (t : Sorted). nat_lt t.size c.args.table.size) items =
    c.count_smaller-at.ensures ∙ (λ i. prefix_len (λ (t : Sorted). nat_lt t.size (c.size.ensures i)) (c.deref.ensures.value i)) in
    c.in_ok-insert.ensures.items ∙ ap (λ n. insert items n c.args.table) at ∙ put_inserts c.args.table items
