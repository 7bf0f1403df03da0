-- What both share decides, or the rest.
use Rattle.std.proofs.Common.{◌≡◌, ◌∙◌, ◌+◌, ◌<◌, ◌≤◌, drop, sym, ap, arith}
use Rattle.tab_key.specs.Bytes.{bytes_cmp}
use Rattle.tab_table.specs.Blocks.{shared}
use Rattle.tab_table.proofs.Agreeing.{rest_decides, rest_agrees, kept_decides, kept_agrees}
use Rattle.tab_table.proofs.agreement.Agreement.onward.Goals as goal

pub returns-then-count-self-clause-agrees : goal.returns-then-count-self-clause-agrees
returns-then-count-self-clause-agrees c = λ part le a.
    let more : shared part c.args.sought.now < c.args.count = omega (arith, a.shares, c.if-count-self.true) in
    record {
      shares = a.shares ∙ sym (kept_agrees c.args.count part c.args.sought.now c.args.rest.now more le);
      compares = a.compares ∙ sym (kept_decides c.args.count part c.args.sought.now c.args.rest.now more le);
    }

pub returns-clause-agrees : goal.returns-clause-agrees
returns-clause-agrees c = λ part le a.
    let count = c.args.count in
    let sought = c.args.sought.now in
    let rest = c.args.rest.now in
    let few : count ≤ shared part sought = omega (arith, a.shares, c.if-count-self.false) in
    let more : c.shared.result ≡ shared rest (drop count sought) = c.shared.ensures.shared ∙ ap (shared rest) c.behind-later.ensures in
    let order : c.cmp.result ≡ bytes_cmp rest (drop count sought) = c.cmp.ensures ∙ ap (bytes_cmp rest) c.behind-later.ensures in
    record {
      shares = ap (λ n. count + n) more ∙ sym (rest_agrees count part sought rest few);
      compares = order ∙ sym (rest_decides count part sought rest few);
    }
