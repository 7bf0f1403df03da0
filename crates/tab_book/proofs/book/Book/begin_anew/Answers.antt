use Rattle.std.proofs.Common.{rules, ◌≡◌, ◌+◌, []}
use Rattle.tab_core.specs.Recording.{RefinesHistory}
use Rattle.tab_book.proofs.Growing.{kept_empty}
use Rattle.tab_book.proofs.book.Book.begin_anew.Goals as goal

pub invariant_of-self : goal.invariant_of-self
invariant_of-self g c =
    let none : c.replace-entries.new.dest.entries ≡ [] = search rules in
    let refines : RefinesHistory c.self.inside.core c.replace-base.new.dest [] = search rules in
    kept_empty c.replace-base.new.dest (c.self.inside.first + c.len.result) c.replace-entries.new.dest.entries c.self.inside.core c.self.inside.joined c.self.inside.out _ _ _ none refines (search rules) (search rules) c.self.invariant.cut c.self.invariant.enough c.self.invariant.known
