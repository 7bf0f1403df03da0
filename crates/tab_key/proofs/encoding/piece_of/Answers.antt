use Rattle.std.proofs.Common.{◌≡◌, ◌∙◌, ap, arith, length, subst, sym}
use Rattle.std.specs.List.{slice_range}
use Rattle.tab_key.specs.Encoding.{record_at, IsAt, span_at}
use Rattle.tab_key.proofs.Windows.{ends_behind, piece_at, piece_record, piece_size}
use Rattle.tab_key.proofs.encoding.piece_of.Goals as goal

pub between-requires-clause-within : goal.between-requires-clause-within
between-requires-clause-within c = omega (arith, c.end_of-end.ensures, c.requires.within.whole, ends_behind c.args.body.now c.args.place)

pub between-requires-clause-order : goal.between-requires-clause-order
between-requires-clause-order c = omega (arith, c.end_of-end.ensures, c.requires.within.whole, ends_behind c.args.body.now c.args.place)

pub returns-clause-at : goal.returns-clause-at
returns-clause-at c =
    let is : c.between.result ≡ slice_range c.args.body.now c.args.place (span_at c.args.body.now c.args.place).end = c.between.ensures ∙ ap (slice_range c.args.body.now c.args.place) c.end_of-end.ensures in
    subst (λ bytes. IsAt bytes 0) (sym is) (piece_at c.args.body.now c.args.place c.requires)

pub returns-clause-record : goal.returns-clause-record
returns-clause-record c =
    let is : c.between.result ≡ slice_range c.args.body.now c.args.place (span_at c.args.body.now c.args.place).end = c.between.ensures ∙ ap (slice_range c.args.body.now c.args.place) c.end_of-end.ensures in
    ap (λ bytes. record_at bytes 0) is ∙ piece_record c.args.body.now c.args.place c.requires

pub returns-clause-size : goal.returns-clause-size
returns-clause-size c =
    let is : c.between.result ≡ slice_range c.args.body.now c.args.place (span_at c.args.body.now c.args.place).end = c.between.ensures ∙ ap (slice_range c.args.body.now c.args.place) c.end_of-end.ensures in
    ap length is ∙ piece_size c.args.body.now c.args.place c.requires
