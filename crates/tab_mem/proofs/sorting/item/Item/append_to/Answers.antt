use Rattle.std.proofs.Common.{rules, ◌≡◌, ◌∙◌, ◌++◌, List, ℕ, ap, subst, sym, length}
use Rattle.std.specs.Prelude.{true, int_le}
use Rattle.tab_key.specs.Encoding.{record_at, span_at, IsAt}
use Rattle.tab_key.specs.Records.{Record}
use Rattle.tab_key.proofs.Windows.{put_record, put_at}
use Rattle.tab_iter.specs.Lists.{latest}
use Rattle.tab_mem.proofs.Moved.{put_end}
use Rattle.tab_mem.proofs.sorting.item.Item.append_to.Goals as goal

pub returns-clause-within : goal.returns-clause-within
returns-clause-within c =
    let old = c.args.body.now.items in
    let bytes = c.self.inside.bytes.now in
    let whole : c.extend_from_slice.new.self.items ≡ old ++ bytes = search rules in
    let start : c.len-place.result ≡ length old = search rules in
    subst (λ (b : List ℕ). IsAt b c.len-place.result) (sym whole) (subst (IsAt (old ++ bytes)) (sym start) (put_at old bytes c.self.invariant.at))

pub returns-clause-end : goal.returns-clause-end
returns-clause-end c =
    let old = c.args.body.now.items in
    let bytes = c.self.inside.bytes.now in
    let whole : c.extend_from_slice.new.self.items ≡ old ++ bytes = search rules in
    let start : c.len-place.result ≡ length old = search rules in
    ap (λ (b : List ℕ). (span_at b c.len-place.result).end) whole ∙ ap (λ n. (span_at (old ++ bytes) n).end) start ∙ put_end old bytes c.self.invariant.ends ∙ ap length (sym whole)

pub returns-clause-copy : goal.returns-clause-copy
returns-clause-copy c =
    let old = c.args.body.now.items in
    let bytes = c.self.inside.bytes.now in
    let whole : c.extend_from_slice.new.self.items ≡ old ++ bytes = search rules in
    let start : c.len-place.result ≡ length old = search rules in
    ap (λ (b : List ℕ). record_at b c.len-place.result) whole ∙ ap (record_at (old ++ bytes)) start ∙ put_record old bytes c.self.invariant.at ∙ c.self.view_is

pub returns-clause-timestamp : goal.returns-clause-timestamp
returns-clause-timestamp c = subst (λ (u : Record). int_le u.key.timestamp latest ≡ true) c.self.view_is c.self.invariant.timestamp
