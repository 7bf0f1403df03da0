-- The entry's bytes and the value come behind the others.
use Rattle.std.proofs.Common.{rules, ◌≡◌, List, ℕ, ◌++◌, sym, ◌∙◌, ap, length, take, drop, append_assoc}
use Rattle.tab_key.specs.Encoding.{record_at}
use Rattle.tab_table.specs.EntryBytes.{entry_bytes}
use Rattle.tab_table.proofs.Entered.{entry_put}
use Rattle.tab_table.proofs.Longer.{back}
use Rattle.tab_table.proofs.entry.put_entry.Goals as goal

pub returns-then-is_short-clause-put : goal.returns-then-is_short-clause-put
returns-then-is_short-clause-put c = λ base shares.
    let old = c.args.body.now.items in
    let bytes = c.args.record.now in
    let counts = c.args.counts in
    let made = c.make_entry.new.entry in
    let new : List ℕ = c.write_piece-all.new.out in
    let here : c.len-place.result ≡ length old = search rules in
    let value : c.value_piece-value.result ≡ (record_at bytes 0).value = search rules in
    let all : c.deref_mut.result.now ≡ made.items = search rules in
    let items : made.len ≡ length made.items = search rules in
    let written : take made.len (new ++ drop (length new) made.items) ≡ new = back made.items new made.len items (c.write_piece-all.ensures.length ∙ ap length all) in
    let put : c.extend_from_slice.new.self.items ≡ old ++ take c.write_piece-all.result (take made.len (new ++ drop (length new) made.items)) = search rules in
    let entry : List ℕ = entry_bytes counts.row counts.family counts.qualifier counts.label bytes in
    let first : take c.in_ok-end.end c.deref_mut.result.now ≡ entry = ap (take c.in_ok-end.end) all ∙ c.in_ok-end.ensures.bytes in
    let whole : take c.write_piece-all.result new ≡ entry ++ (record_at bytes 0).value = c.write_piece-all.ensures.bytes ∙ (λ i. first i ++ value i) in
    entry_put old c.extend_from_slice.new.self.items bytes base counts c.len-place.result here c.requires.record shares (put ∙ ap (λ xs. old ++ take c.write_piece-all.result xs) written ∙ ap (λ xs. old ++ xs) whole ∙ sym (append_assoc old entry (record_at bytes 0).value))

pub returns-clause-put : goal.returns-clause-put
returns-clause-put c = λ base shares.
    let old = c.args.body.now.items in
    let bytes = c.args.record.now in
    let counts = c.args.counts in
    let here : c.len-place.result ≡ length old = search rules in
    let one : c.extend_from_slice-2.new.self.items ≡ old ++ take c.in_ok-end.end c.make_entry.new.entry.items = search rules in
    let two : c.extend_from_slice-3.new.self.items ≡ c.extend_from_slice-2.new.self.items ++ (record_at bytes 0).value = search rules in
    entry_put old c.extend_from_slice-3.new.self.items bytes base counts c.len-place.result here c.requires.record shares (two ∙ ap (λ xs. xs ++ (record_at bytes 0).value) (one ∙ ap (λ xs. old ++ xs) c.in_ok-end.ensures.bytes))
