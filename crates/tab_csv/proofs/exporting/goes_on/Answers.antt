use Rattle.std.proofs.Common.{ℕ, ◌<◌, sym, ap, ◌∙◌, arith}
use Rattle.tab_csv.specs.Rows.{goes_on_at}
use Rattle.tab_csv.proofs.RowLemmas.{goes_on_by_key, none_goes_on}
use Rattle.tab_csv.proofs.exporting.goes_on.Goals as goal

pub returns-then-begin-index : goal.returns-then-begin-index
returns-then-begin-index c =
    sym (ap (λ (b : ℕ). goes_on_at c.args.records.now b c.args.index) c.if-begin-index.true ∙ none_goes_on c.args.records.now c.args.index)

pub returns : goal.returns
returns c =
    let before : c.args.begin < c.args.index = omega (arith, c.requires.ordered, c.if-begin-index.false) in
    c.is_of_one_key.ensures ∙ goes_on_by_key c.args.records.now c.args.begin c.args.index c.get.result c.get-2.result before c.requires.within c.get.ensures c.get-2.ensures
