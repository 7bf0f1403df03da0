use Rattle.std.proofs.Common.{rules, ◌≡◌, ◌+◌, ◌≤◌, length, arith}
use Rattle.tab_journal.proofs.Damaging.{none_here, none_at_all}
use Rattle.tab_journal.proofs.Tags.{tag, none_before_found, none_if_missing}
use Rattle.tab_journal.proofs.damage.is_damaged_at_tags.Goals as goal

pub returns-in_default : goal.returns-in_default
returns-in_default c =
    let l = c.loop-from in
    let is : c.new-tags.result ≡ tag c.args.seal c.args.window.now c.args.read c.requires.tagged = search rules in
    none_if_missing c.args.seal c.args.window.now c.args.read c.requires.tagged l.from _ c.new-tags.result c.split_at.ensures.back is l.invariant.1 c.in_default.ensures

pub loop-from-preserved : goal.loop-from-preserved
loop-from-preserved c =
    let l = c.loop-from in
    let is : c.new-tags.result ≡ tag c.args.seal c.args.window.now c.args.read c.requires.tagged = search rules in
    let found = none_before_found c.args.seal c.args.window.now c.args.read c.requires.tagged l.from _ c.new-tags.result c.split_at.ensures.back is l.invariant.1 c.in-Some.at c.in-Some.ensures in
    let behind = none_here c.args.seal c.args.window.now c.args.read (l.from + c.in-Some.at) found c.is_later.result c.is_later.ensures c.if-is_later.false in
    let low = l.invariant.0 in
    (omega (arith, low), λ q later. let le = behind q later in omega (arith, le))

pub returns : goal.returns
returns c =
    let l = c.loop-from in
    let over : length c.args.window.now ≤ l.from = search rules in
    none_at_all c.args.seal c.args.window.now c.args.read l.from l.invariant.1 over
