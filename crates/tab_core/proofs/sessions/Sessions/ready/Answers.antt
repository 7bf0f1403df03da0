use Rattle.std.proofs.Common.{◌≡◌, ◌∙◌, ℕ, List, None, Some, cond, subst, rules}
use Rattle.std.specs.Ordering.{is_eq}
use Rattle.tab_key.specs.Bytes.{bytes_cmp}
use Rattle.tab_policy.specs.Entries.{at_name}
use Rattle.tab_core.specs.Sessions.{Keeping, none_kept, kept_of}
use Rattle.tab_core.proofs.KeptLemmas.{none_more}
use Rattle.tab_core.proofs.sessions.Sessions.ready.Goals as goal

pub returns-clause-same : goal.returns-clause-same
returns-clause-same c =
    let old : Keeping = c.self.inside.by_user.entries in
    let none : at_name c.args.user.now old ≡ None = search rules in
    let empty : c.new-2.result ≡ none_kept = search rules in
    subst (λ (ks : Keeping). (n : List ℕ) → kept_of c.insert.new.self.entries n ≡ kept_of ks n) c.self.view_is
    (none_more c.args.user.now old c.insert.new.self.entries none (λ q. c.in_ok-insert.ensures.updates.0 q ∙ (λ i. cond (is_eq (bytes_cmp (c.in_ok-key.ensures i) q)) (Some (empty i)) (at_name q old))))
