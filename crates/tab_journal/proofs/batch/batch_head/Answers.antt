use Rattle.std.proofs.Common.{rules, ◌≡◌, ◌++◌, ap, ◌∙◌, ℕ, List}
use Rattle.tab_wire.specs.Replies.{u32, u64}
use Rattle.tab_journal.specs.Spelling.{tag_bytes}
use Rattle.tab_journal.proofs.Texts.{built_of_three}
use Rattle.tab_journal.proofs.batch.batch_head.Goals as goal

pub returns : goal.returns
unfolding u32 u64
returns c =
    let a = c.args in
    let tag = tag_bytes a.seal.form a.seal.salt in
    let first : c.extend_from_slice.new.self.items ≡ c.in_ok-head.head.items ++ u64 a.settled = search rules in
    built_of_three tag (u64 a.settled) (u32 a.length) c.extend_from_slice.new.self.items c.extend_from_slice-2.new.self.items (first ∙ ap (λ (z : List ℕ). z ++ u64 a.settled) c.in_ok-head.ensures) (search rules)
