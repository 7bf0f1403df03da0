use Rattle.std.proofs.Common.{◌≡◌, ◌∙◌, OnSome, ap, refl, subst, rules}
use Rattle.std.specs.Option.{option_copied_mut}
use Rattle.tab_policy.specs.Entries.{at_name}
use Rattle.tab_core.specs.declared.sessions.UserSessions.{UserSessions}
use Rattle.tab_core.specs.Sessions.{Keeping}
use Rattle.tab_core.specs.Lending.{Leaves}
use Rattle.tab_core.proofs.KeptLemmas.{leaves}
use Rattle.tab_core.proofs.sessions.Sessions.get_mut.Goals as goal

pub returns : goal.returns
returns c =
    let old : Keeping = c.self.inside.by_user.entries in
    let user = c.args.user.now in
    let value : option_copied_mut c.get_mut.result ≡ at_name user old = search rules in
    let left = λ (kept : UserSessions).
    let through = c.get_mut.follows.holds kept in
    subst (λ (ks : Keeping). OnSome c.get_mut.result (Leaves user ks kept (c.get_mut.follows.lender kept).entries)) c.self.view_is
    (leaves user old (c.get_mut.follows.lender kept).entries kept c.get_mut.result value through.0 (λ some. (through.3 some).0)) in
    ((refl, left, search rules), record { lends = tt; value = value ∙ ap (λ (ks : Keeping). at_name user ks) c.self.view_is })
