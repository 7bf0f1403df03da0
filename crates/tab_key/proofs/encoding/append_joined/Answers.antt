use Rattle.std.proofs.Common.{rules, ◌≡◌, ◌∙◌, ap, subst, sym, length}
use Rattle.tab_key.specs.Encoding.{record_at, span_at, IsAt}
use Rattle.tab_key.specs.KeyOf.{key_of}
use Rattle.tab_key.specs.Records.{Record}
use Rattle.tab_key.proofs.Encoded.{encoded_at, encoded_record, encoded_end}
use Rattle.tab_key.proofs.encoding.append_joined.Goals as goal

pub returns-clause-within : goal.returns-clause-within
returns-clause-within c =
    let r : Record = record { key = key_of c.args.key; kind = c.args.kind; value = c.args.value.now; seq = c.args.seq; idx = c.args.idx } in
    let body = c.put_joined.new.body.items in
    let start : c.len-place.result ≡ length c.args.body.now.items = search rules in
    subst (IsAt body) (sym start) (encoded_at c.args.body.now.items body c.mark_of-mark.result r c.mark_of-mark.ensures c.in_ok-put_joined.ensures.ok c.requires.short c.in_ok-put_joined.ensures.fits)

pub returns-clause-record : goal.returns-clause-record
returns-clause-record c =
    let r : Record = record { key = key_of c.args.key; kind = c.args.kind; value = c.args.value.now; seq = c.args.seq; idx = c.args.idx } in
    let body = c.put_joined.new.body.items in
    let start : c.len-place.result ≡ length c.args.body.now.items = search rules in
    ap (record_at body) start ∙ encoded_record c.args.body.now.items body c.mark_of-mark.result r c.mark_of-mark.ensures c.in_ok-put_joined.ensures.ok c.requires.short c.in_ok-put_joined.ensures.fits

pub returns-clause-end : goal.returns-clause-end
returns-clause-end c =
    let r : Record = record { key = key_of c.args.key; kind = c.args.kind; value = c.args.value.now; seq = c.args.seq; idx = c.args.idx } in
    let body = c.put_joined.new.body.items in
    let start : c.len-place.result ≡ length c.args.body.now.items = search rules in
    ap (λ p. (span_at body p).end) start ∙ encoded_end c.args.body.now.items body c.mark_of-mark.result r c.mark_of-mark.ensures c.in_ok-put_joined.ensures.ok c.requires.short c.in_ok-put_joined.ensures.fits
