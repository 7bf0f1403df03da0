use Rattle.std.proofs.Common.{rules, [], sym, subst}
use Rattle.tab_history.specs.Bases.{Base}
use Rattle.tab_core.specs.Recording.{RefinesHistory}
use Rattle.tab_book.proofs.Growing.{kept_empty}
use Rattle.tab_book.proofs.book.Book.new.Goals as goal

pub invariant_of-result : goal.invariant_of-result
invariant_of-result g c =
    let refines : RefinesHistory c.args.core c.in-Ok.base [] = subst (λ (b : Base). RefinesHistory c.args.core b []) (sym c.in-Ok.ensures) c.begins.ensures in
    kept_empty c.in-Ok.base 0 c.new.result.entries c.args.core 0 0 _ _ _ c.new.ensures refines c.open-tickets.ensures.total (search rules) (search rules) (search rules) (search rules)
