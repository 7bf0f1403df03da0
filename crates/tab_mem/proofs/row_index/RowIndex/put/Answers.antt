use Rattle.std.proofs.Common.{◌∙◌, ◌++◌, ◌∷◌, [], ◌%◌, ap, sym, subst, arith}
use Rattle.tab_key.specs.RowPrefix.{IsRowPrefix}
use Rattle.tab_mem.specs.RowIndex.{IsRowIndex}
use Rattle.tab_mem.proofs.RowIndexing.{indexed, not_indexed}
use Rattle.tab_mem.proofs.row_index.RowIndex.put.Goals as goal

pub returns-then-index-eq0 : goal.returns-then-index-eq0
returns-then-index-eq0 c rs at h =
    subst (λ ns. IsRowIndex ns (rs ++ c.args.lent.now ∷ [])) (sym c.push_reserved.ensures.items)
    (indexed c.args.self.now.numbers.items rs c.args.lent.now h c.row_prefix.result (omega (arith, at, c.if-index-eq0.true)) (subst (IsRowPrefix c.row_prefix.result) c.row.ensures c.row_prefix.ensures))

pub returns-else-index-eq0 : goal.returns-else-index-eq0
returns-else-index-eq0 c rs at h = not_indexed c.args.self.now.numbers.items rs c.args.lent.now h (λ e. c.if-index-eq0.false (ap (λ n. n % 16) (sym at) ∙ e))
