use Rattle.std.proofs.Common.{◌∙◌, List, sym, ap}
use Rattle.tab_key.specs.KeyOf.{key_of}
use Rattle.tab_key.specs.Records.{Record}
use Rattle.tab_iter.specs.Lists.{from_key}
use Rattle.tab_session.specs.Bookmarks.{from_mark}
use Rattle.tab_session.proofs.Marks.{sought}
use Rattle.tab_session.proofs.snapshot_scan.source.Goals as goal
use Rattle.tab_version.specs.Shown.{shown}

pub returns-in_ok-pass_before-in-At-clause-rest : goal.returns-in_ok-pass_before-in-At-clause-rest
returns-in_ok-pass_before-in-At-clause-rest c =
    let whole : List Record = shown c.args.version.now c.args.asked.now.versions c.args.asked.now.columns c.args.asked.now.auths in
    c.in_ok-pass_before-in-At.ensures.rest
    ∙ sought c.in-At.first (key_of c.key.result) whole _ (c.key.ensures ∙ ap (λ r. r.key) c.as_ref.ensures) (c.in_ok-seek-in-At.ensures.rest ∙ ap (from_key (key_of c.key.result)) c.unread-source.ensures)
    ∙ ap (λ b. from_mark b whole) (sym c.in-At.is)
