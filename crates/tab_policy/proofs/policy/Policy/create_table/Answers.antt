use Rattle.std.proofs.Common.{◌≡◌, ◌∙◌, ℕ, List, Some, cond, ap, subst, bytes_eq, ◌&&◌}
use Rattle.std.specs.Prelude.{OnOk, Option, is_some}
use Rattle.std.proofs.lemmas.Result.{on_ok_weaker}
use Rattle.tab_policy.specs.Entries.{at_name}
use Rattle.tab_policy.specs.State.{user_exists}
use Rattle.tab_policy.specs.Lives.{is_life, name_among, life_among, gives_among}
use Rattle.tab_policy.proofs.LivesLemmas.{either_way, rights_changed, table_made, made_for, lives_who_is}
use Rattle.tab_policy.proofs.Changes.{table_renewed}
use Rattle.tab_policy.proofs.policy.Policy.create_table.Goals as goal

pub invariant_of-self : goal.invariant_of-self
invariant_of-self c =
    let life : Option ℕ = life_among c.self.inside.users.entries c.args.creator.now in
    rights_changed c.self.inside.users.entries (name_among c.self.inside.lives.living.entries) c.self.inside.tables.entries c.put.new.map.entries c.self.inside.lives.next
    (λ t l p to_come none. either_way c.put.result c.put.ensures.ok c.put.ensures.err
    (table_made c.self.inside.lives.next life c.self.inside.tables.entries c.put.new.map.entries c.in_ok-key.key c.new-rights.result
    (c.self.invariant.begun c.args.creator.now) (λ m q. c.new-rights.ensures m q ∙ ap (λ o. is_life o m) c.life_among.ensures) t l p to_come none)
    (λ same. ap (λ ts. gives_among ts t l p) same ∙ none))
    c.self.invariant

pub returns-clause-ok : goal.returns-clause-ok
unfolding user_exists
returns-clause-ok c =
    let old = c.self.inside.tables.entries in
    let new = c.put.new.map.entries in
    let users = c.self.inside.users.entries in
    rw (← c.self.view_is)
    (on_ok_weaker c.put.result (table_renewed users old new c.args.table.now (Some c.new-rights.result) (λ n. is_some (at_name c.args.creator.now users) && bytes_eq c.args.creator.now n)
    (λ n p. made_for c.self.invariant c.args.creator.now n c.new-rights.result p (λ m. c.new-rights.ensures m p ∙ ap (λ o. is_life o m) c.life_among.ensures)
    ∙ ap (λ b. b && bytes_eq c.args.creator.now n) (lives_who_is (at_name c.args.creator.now users))))
    (subst (λ (k : List ℕ). OnOk c.put.result ((q : List ℕ) → at_name q new ≡ cond (bytes_eq k q) (Some c.new-rights.result) (at_name q old))) c.in_ok-key.ensures c.put.ensures.ok))
