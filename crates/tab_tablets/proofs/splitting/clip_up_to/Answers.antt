use Rattle.std.proofs.Common.{◌≡◌, List, ℕ, Bool, filter, IfOk, subst}
use Rattle.tab_key.specs.Records.{Record}
use Rattle.tab_tablets.proofs.splitting.clip_up_to.Goals as goal

pub returns : goal.returns
returns c = subst (λ (p : List ℕ → Bool). IfOk c.in_rows.result (λ (us : List Record). us ≡ filter (λ (u : Record). p u.key.row) c.args.records.now)) c.in_ok-up_to.ensures c.in_rows.ensures
