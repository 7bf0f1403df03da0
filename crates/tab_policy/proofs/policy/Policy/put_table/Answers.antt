use Rattle.std.proofs.Common.{◌≡◌, ◌∙◌, ◌<◌, ℕ, false, List, None, Some, cond, ap, subst, bytes_eq, refl}
use Rattle.std.specs.Prelude.{OnOk, Option}
use Rattle.std.proofs.lemmas.Option.{none-some}
use Rattle.std.proofs.lemmas.Result.{on_ok_weaker}
use Rattle.tab_policy.specs.Entries.{at_name, at_life}
use Rattle.tab_policy.specs.Lives.{name_among, gives_among}
use Rattle.tab_policy.specs.State.{table_gives, some_contains, account_life}
use Rattle.tab_policy.specs.declared.permission.TablePermission.{TablePermission}
use Rattle.tab_policy.specs.declared.sets.TablePermissions.{TablePermissions}
use Rattle.tab_policy.proofs.LivesLemmas.{either_way, rights_changed, table_made}
use Rattle.tab_policy.proofs.Changes.{table_renewed}
use Rattle.tab_policy.proofs.policy.Policy.put_table.Goals as goal

-- rights of nobody give nothing, whatever life there is
nobody : (rights : List (ℕ × TablePermissions)) (p : TablePermission) → ((l : ℕ) → some_contains (at_life l rights) p ≡ false) → (life : Option ℕ) → table_gives (Some rights) life p ≡ false
nobody rights p none None = refl
nobody rights p none (Some l) = none l

-- whoever is in no life is in none that has begun
none_begun : {next : ℕ} (l : ℕ) → ◌≡◌ {A = Option ℕ} None (Some l) → l < next
none_begun l e = absurd (none-some l e)

pub invariant_of-self : goal.invariant_of-self
invariant_of-self c =
    rights_changed c.self.inside.users.entries (name_among c.self.inside.lives.living.entries) c.self.inside.tables.entries c.put.new.map.entries c.self.inside.lives.next
    (λ t l p to_come none. either_way c.put.result c.put.ensures.ok c.put.ensures.err
    (table_made c.self.inside.lives.next None c.self.inside.tables.entries c.put.new.map.entries c.in_ok-name.name c.new-rights.result none_begun c.new-rights.ensures t l p to_come none)
    (λ same. ap (λ ts. gives_among ts t l p) same ∙ none))
    c.self.invariant

pub returns-clause-ok : goal.returns-clause-ok
returns-clause-ok c =
    let old = c.self.inside.tables.entries in
    let new = c.put.new.map.entries in
    let users = c.self.inside.users.entries in
    rw (← c.self.view_is)
    (on_ok_weaker c.put.result (table_renewed users old new c.args.table.now (Some c.new-rights.result) (λ n. false)
    (λ n p. nobody c.new-rights.result p (λ l. c.new-rights.ensures l p) (account_life (at_name n users))))
    (subst (λ (k : List ℕ). OnOk c.put.result ((q : List ℕ) → at_name q new ≡ cond (bytes_eq k q) (Some c.new-rights.result) (at_name q old))) c.in_ok-name.ensures c.put.ensures.ok))
