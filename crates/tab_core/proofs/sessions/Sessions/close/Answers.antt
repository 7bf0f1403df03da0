use Rattle.std.proofs.Common.{◌≡◌, None, Some, Option, MutBor, OnSome, subst, rules}
use Rattle.tab_policy.specs.Entries.{at_name}
use Rattle.tab_core.specs.declared.sessions.UserSessions.{UserSessions}
use Rattle.tab_core.specs.Sessions.{Keeping}
use Rattle.tab_core.specs.Lending.{Leaves}
use Rattle.tab_core.proofs.KeptLemmas.{close_kept, close_nowhere}
use Rattle.tab_core.proofs.sessions.Sessions.close.Goals as goal

pub returns-in-Some : goal.returns-in-Some
returns-in-Some c =
    let old : Keeping = c.args.self.now in
    let user = c.args.user.now in
    let was : UserSessions = c.in-Some.kept.now in
    let now : UserSessions = record { numbered = c.close.new.self; scanned = was.scanned } in
    let had : at_name user old ≡ Some was = search rules in
    let left = subst (λ (r : Option (MutBor UserSessions)). OnSome r (Leaves user old now (c.get_mut.follows.lender now))) c.in-Some.is (c.get_mut.follows.holds now) in
    close_kept old _ user c.args.number c.close.result was c.close.new.self had c.close.ensures left.keeps

pub returns-in-None : goal.returns-in-None
returns-in-None c =
    let none : at_name c.args.user.now c.args.self.now ≡ None = search rules in
    let same : c.get_mut.follows.lender-at-none ≡ c.args.self.now = search rules in
    close_nowhere c.args.self.now _ c.args.user.now c.args.number none same
