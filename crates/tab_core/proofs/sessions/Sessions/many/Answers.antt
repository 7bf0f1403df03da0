use Rattle.std.proofs.Common.{◌≡◌, ◌∙◌, None, Some, Option, MutBor, OnSome, ap, inl, refl, subst, sym, rules}
use Rattle.tab_policy.specs.Entries.{at_name}
use Rattle.tab_core.specs.declared.sessions.UserSessions.{UserSessions}
use Rattle.tab_core.specs.Slots.{ManyFrom}
use Rattle.tab_core.specs.Sessions.{Keeping, kept_in}
use Rattle.tab_core.specs.Lending.{Leaves}
use Rattle.tab_history.specs.declared.reply.Refusal.TheVariants.{NoSession}
use Rattle.tab_history.specs.declared.reply.Reply.TheVariants.{Refused}
use Rattle.tab_core.proofs.sessions.Sessions.many.Goals as goal

pub returns-in-Some-clause-answers : goal.returns-in-Some-clause-answers
returns-in-Some-clause-answers c =
    let had : at_name c.args.user.now c.args.self.now ≡ Some c.in-Some.kept.now = search rules in
    subst (λ (k : UserSessions). ManyFrom k.numbered c.args.number c.args.ranges.now c.many.result) (sym (ap kept_in had)) c.many.ensures.answers

pub returns-in-Some-clause-same : goal.returns-in-Some-clause-same
returns-in-Some-clause-same c =
    let old : Keeping = c.args.self.now in
    let user = c.args.user.now in
    let was : UserSessions = c.in-Some.kept.now in
    let now : UserSessions = record { numbered = c.many.new.self; scanned = was.scanned } in
    let had : at_name user old ≡ Some was = search rules in
    let same : now ≡ was = λ i. record { numbered = c.many.ensures.same i; scanned = was.scanned } in
    let left = subst (λ (r : Option (MutBor UserSessions)). OnSome r (Leaves user old now (c.get_mut.follows.lender now))) c.in-Some.is (c.get_mut.follows.holds now) in
    left.same (had ∙ ap Some (sym same))

pub returns-in-None-clause-answers : goal.returns-in-None-clause-answers
returns-in-None-clause-answers c =
    let none : at_name c.args.user.now c.args.self.now ≡ None = search rules in
    subst (λ (k : UserSessions). ManyFrom k.numbered c.args.number c.args.ranges.now (Refused (NoSession c.args.number))) (sym (ap kept_in none)) (inl refl)
