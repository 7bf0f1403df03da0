-- Of the step as many bytes stay as are asked for.
use Rattle.std.proofs.Common.{rules, ◌≡◌, ◌+◌, ◌++◌, ◌∙◌, ap, arith, length, take}
use Rattle.tab_key.proofs.Bodies.{step_kept}
use Rattle.tab_key.proofs.encoding.append_step.Goals as goal

pub returns-clause-ok : goal.returns-clause-ok
returns-clause-ok c =
    let old = c.args.body.now.items in
    let bytes = c.args.bytes.now in
    let whole : c.extend_from_slice.new.self.items ≡ old ++ take 128 bytes = search rules in
    let long : c.len.result ≡ length old + 128 = search rules in
    c.truncate.ensures.items ∙ ap (take _) whole ∙ step_kept old bytes c.args.count _ (omega (arith, long, c.requires.count)) c.requires.count
