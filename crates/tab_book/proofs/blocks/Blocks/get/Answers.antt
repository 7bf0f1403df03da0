use Rattle.std.proofs.Common.{rules, ◌≡◌, ◌<◌, ◌/◌, ◌%◌, Option, Some, None, IfSome, IfNone, slice_get, sym, ap, ◌∙◌, subst}
use Rattle.tab_book.specs.Entries.{Posted}
use Rattle.tab_book.specs.Blocks.{block_at}
use Rattle.tab_book.proofs.InBlocks.{found}
use Rattle.tab_book.proofs.blocks.Blocks.get.Goals as goal
use Rattle.tab_book.proofs.blocks.Blocks.get.Goals.{After-nth}

same : (c : After-nth) → slice_get c.args.self.now.entries c.args.number ≡ slice_get c.block_of.result.now (c.args.number % 1024)
same c =
    let below : c.args.number < c.self.inside.count = search rules in
    ap (λ (v : _). slice_get v.entries c.args.number) (sym c.self.view_is)
    ∙ found c.self.inside.full.items c.self.inside.last.items c.self.inside.count c.args.number c.self.invariant below
    ∙ ap (λ xs. slice_get xs (c.args.number % 1024)) (sym (c.block_of.ensures ∙ (λ i. block_at (c.deref.ensures.value i) (c.deref-2.ensures.value i) (c.args.number / 1024))))

pub returns-clause-some : goal.returns-clause-some
returns-clause-some c = subst (λ (o : Option Posted). IfSome c.nth.result (λ entry. o ≡ Some entry.now)) (sym (same c)) c.nth.ensures.some

pub returns-clause-none : goal.returns-clause-none
returns-clause-none c = subst (λ (o : Option Posted). IfNone c.nth.result (o ≡ None)) (sym (same c)) c.nth.ensures.none
