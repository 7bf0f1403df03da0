use Rattle.std.proofs.Common.{rules, ◌≡◌, ◌+◌, ◌-◌, ◌++◌, ◌≤◌, min, length, map, take, drop, ◌∙◌, ap, sym}
use Rattle.tab_book.specs.Slices.{shown}
use Rattle.tab_book.proofs.Stretches.{one_more, whole}
use Rattle.tab_book.proofs.blocks.Blocks.stretch.Goals as goal

pub loop-number-preserved : goal.loop-number-preserved
loop-number-preserved c =
    let put : c.share_into.new.shared.items ≡ c.loop-number.shared.items ++ map shown (take 1 (drop c.loop-number.number c.args.self.now.entries)) = search rules in
    let from : c.args.from ≤ c.loop-number.number = search rules in
    put ∙ ap (λ front. front ++ map shown (take 1 (drop c.loop-number.number c.args.self.now.entries))) c.loop-number.invariant ∙ sym (one_more c.args.self.now.entries c.args.from c.loop-number.number from)

pub returns : goal.returns
returns c =
    let end : c.loop-number.number - c.args.from ≡ min (c.args.from + c.args.most) (length c.args.self.now.entries) - c.args.from = search rules in
    c.loop-number.invariant ∙ whole c.args.self.now.entries c.args.from c.args.most c.loop-number.number end
