use Rattle.std.proofs.Common.{◌≡◌, ◌∙◌, ap, refl, rules}
use Rattle.tab_core.specs.declared.sessions.UserSessions.{UserSessions}
use Rattle.tab_core.specs.Sessions.{Keeping, kept_of}
use Rattle.tab_core.proofs.KeptLemmas.{leaves_kept, kept_value}
use Rattle.tab_core.proofs.sessions.Sessions.kept_for.Goals as goal

pub returns : goal.returns
returns c =
    let old : Keeping = c.args.self.now in
    let ready : Keeping = c.ready.new.self in
    let user = c.args.user.now in
    let left = λ (kept : UserSessions). leaves_kept user old ready _ kept c.get_mut.result c.ready.ensures.same (c.get_mut.follows.holds kept) in
    let none : c.get_mut.follows.lender-at-none ≡ ready = search rules in
    ((refl, left, λ n. ap (λ (ks : Keeping). kept_of ks n) none ∙ c.ready.ensures.same n), record { lends = tt; value = kept_value user old ready c.get_mut.result c.get_mut.ensures.value c.ready.ensures.same })
