use Rattle.std.proofs.Common.{rules, ◌≡◌, ◌<◌, ◌-◌, ◌∙◌, ap, sym, length, get_or, subst, arith}
use Rattle.std.specs.Prelude.{reverse}
use Rattle.std.proofs.lemmas.List.{get_or-reverse, length-reverse}
use Rattle.tab_key.specs.Records.{Record}
use Rattle.tab_io.specs.Writing.{HasPut, HasPutPart}
use Rattle.tab_io.proofs.Each.{each_more, each_part}
use Rattle.tab_walk.proofs.records.put_last_first.Goals as goal

pub returns-in-Err : goal.returns-in-Err
returns-in-Err g c =
    let f = g.P.PutRecord.text c.args.how.now in
    let rs = c.args.records.now in
    let index = c.loop-index.index in
    let long : c.len-count.result ≡ length rs = search rules in
    let below : index < c.len-count.result = search rules in
    let there : index < length rs = omega (arith, below, long) in
    let inside : index < length (reverse rs) = omega (arith, there, length-reverse rs) in
    let is : c.get.result ≡ get_or (reverse rs) index c.get.result =
    c.get.ensures ∙ ap (λ n. get_or rs (n - 1 - index) c.get.result) long ∙ sym (get_or-reverse rs index c.get.result there) in
    each_part f (reverse rs) index c.get.result inside c.loop-index.invariant
    (subst (λ (r : Record). HasPutPart g.W.Output c.loop-index.output c.put_record.new.output (f r)) is c.in-Err.ensures)

pub loop-index-preserved : goal.loop-index-preserved
loop-index-preserved g c =
    let f = g.P.PutRecord.text c.args.how.now in
    let rs = c.args.records.now in
    let index = c.loop-index.index in
    let long : c.len-count.result ≡ length rs = search rules in
    let below : index < c.len-count.result = search rules in
    let there : index < length rs = omega (arith, below, long) in
    let inside : index < length (reverse rs) = omega (arith, there, length-reverse rs) in
    let is : c.get.result ≡ get_or (reverse rs) index c.get.result =
    c.get.ensures ∙ ap (λ n. get_or rs (n - 1 - index) c.get.result) long ∙ sym (get_or-reverse rs index c.get.result there) in
    each_more f (reverse rs) index c.get.result inside c.loop-index.invariant
    (subst (λ (r : Record). HasPut g.W.Output c.loop-index.output c.put_record.new.output (f r)) is c.in-Ok.ensures)
