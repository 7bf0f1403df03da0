-- Two prefixes that differ decide.
use Rattle.std.proofs.Common.{◌≡◌, ◌<◌, ℕ, ◌∙◌, sym, subst, arith}
use Rattle.std.specs.Ordering.{nat_cmp}
use Rattle.std.specs.declared.cmp.Ordering.TheVariants.{Less, Greater}
use Rattle.std.proofs.lemmas.Bool.Decides.{nat_tests}
use Rattle.tab_key.specs.RowPrefix.{IsRowPrefix}
use Rattle.tab_mem.proofs.start.Target.is_after.Goals as goal

less_from : (m n : ℕ) → nat_cmp m n ≡ Less → m < n
less_from m n e = grind (arith, nat_tests)

greater_from : (m n : ℕ) → nat_cmp m n ≡ Greater → n < m
greater_from m n e = grind (arith, nat_tests)

pub returns-in-Less : goal.returns-in-Less
returns-in-Less c =
    let is = subst (IsRowPrefix c.row_prefix.result) c.row.ensures c.row_prefix.ensures in
    sym (c.args.self.now.own.lower c.args.other.now c.row_prefix.result is (less_from c.row_prefix.result c.args.self.now.prefix (sym c.cmp.ensures ∙ c.in-Less.is)))

pub returns-in-Greater : goal.returns-in-Greater
returns-in-Greater c =
    let is = subst (IsRowPrefix c.row_prefix.result) c.row.ensures c.row_prefix.ensures in
    sym (c.args.self.now.own.higher c.args.other.now c.row_prefix.result c.row_prefix.type_inv is (greater_from c.row_prefix.result c.args.self.now.prefix (sym c.cmp.ensures ∙ c.in-Greater.is)))
