use Rattle.std.proofs.Common.{rules, ◌≡◌, ◌∙◌, ◌++◌, ℕ, List, ap, subst, sym, length}
use Rattle.tab_key.specs.Encoding.{record_at, IsAt}
use Rattle.tab_key.proofs.Windows.{put_record, put_at}
use Rattle.tab_key.proofs.encoding.append_copy.Goals as goal

pub returns-clause-within : goal.returns-clause-within
returns-clause-within c =
    let old = c.args.body.now.items in
    let bytes = c.encoded_piece.result in
    let whole : c.append_piece.new.body.items ≡ old ++ bytes = c.in_ok-append_piece.ensures.ok in
    let start : c.len-place.result ≡ length old = search rules in
    subst (λ (b : List ℕ). IsAt b c.len-place.result) (sym whole) (subst (IsAt (old ++ bytes)) (sym start) (put_at old bytes c.encoded_piece.ensures.at))

pub returns-clause-copy : goal.returns-clause-copy
returns-clause-copy c =
    let old = c.args.body.now.items in
    let bytes = c.encoded_piece.result in
    let whole : c.append_piece.new.body.items ≡ old ++ bytes = c.in_ok-append_piece.ensures.ok in
    let start : c.len-place.result ≡ length old = search rules in
    ap (λ (b : List ℕ). record_at b c.len-place.result) whole ∙ ap (record_at (old ++ bytes)) start ∙ put_record old bytes c.encoded_piece.ensures.at ∙ c.encoded_piece.ensures.record
