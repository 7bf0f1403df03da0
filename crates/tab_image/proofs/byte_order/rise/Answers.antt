use Rattle.std.proofs.Common.{rules, ◌∙◌}
use Rattle.std.specs.Ordering.{is_lt}
use Rattle.std.proofs.lemmas.Fn.{always_returns_same}
use Rattle.tab_key.specs.Bytes.{bytes_cmp}
use Rattle.tab_image.proofs.Rising.{rises_answer, rises_by}
use Rattle.tab_image.proofs.byte_order.rise.Goals as goal

pub returns : goal.returns
returns g c =
    let bytes = g.T.ByBytes.bytes in
    let told = c.is_sorted_by.ensures.cases (λ x y. is_lt (bytes_cmp (bytes x) (bytes y))) (always_returns_same _ _ _ (λ a r f called. (search rules, search rules))) in
    rises_answer (λ x y. bytes_cmp (bytes x) (bytes y)) c.args.list.now _ told ∙ rises_by bytes_cmp bytes c.args.list.now
