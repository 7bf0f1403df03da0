-- A name that stands alone, and a user with a permission, are exactly what is read of their words.
use Rattle.std.proofs.Common.{ℕ, ◌≡◌, Bool, true, false, cond, List, [], ◌∷◌, refl, sym, ap, ◌∙◌, subst, Some, Option}
use Rattle.std.specs.List.{find}
use Rattle.std.specs.Option.{option_map, option_and_then}
use Rattle.std.specs.Str.{bytes_eq}
use Rattle.std.proofs.lemmas.Slice.Eq.{bytes_eq-Decides}
use Rattle.tab_policy.specs.declared.permission.SystemPermission.{SystemPermission}
use Rattle.tab_policy.specs.declared.permission.SystemPermission.TheVariants as system
use Rattle.tab_policy.specs.declared.permission.TablePermission.{TablePermission}
use Rattle.tab_policy.specs.declared.permission.TablePermission.TheVariants as table
use Rattle.tab_policy.specs.declared.permission.Permission.{Permission}
use Rattle.tab_policy.specs.declared.permission.Permission.TheVariants.{OfSystem, OfTable}
use Rattle.tab_policy.specs.Permissions.{all_system, all_table, system_name, table_name, system_by_name, table_by_name}
use Rattle.tab_lines.specs.Gives.{field}
use Rattle.tab_lines.specs.Fields.{name_of, system_permission, table_permission}
use Rattle.tab_lines.specs.Lines.{name_alone, permission_of, grant_of}
use Rattle.tab_lines.specs.Forms.{IsNameWord, IsPermission}
use Rattle.tab_lines.proofs.ListLaw.{names_read}
use Rattle.tab_lines.proofs.Inverting.{Words, some_inj, bind_some, field_some, on_bind, on_map, on_then, on_field, on_ends}

-- ---- a name alone

pub on_name_alone : (words : Words) (name : List ℕ) (P : Words → Type 0) → name_alone words ≡ Some name → ((word : List ℕ) → IsNameWord word name → P (word ∷ [])) → P words
unfolding name_alone
on_name_alone words name P is then =
    on_field name_of words _ name P is (λ word rest x e1 f1.
    on_ends rest _ name (λ ws. P (word ∷ ws)) f1 (λ f2.
    then word (subst (λ (n : List ℕ). IsNameWord word n) (some_inj x name f2) (names_read.sound word x e1))))

pub name_alone_complete : (word name : List ℕ) → IsNameWord word name → name_alone (word ∷ []) ≡ Some name
unfolding name_alone
name_alone_complete word name is = bind_some (field name_of (word ∷ [])) (name, []) _ _ (field_some name_of word [] name (names_read.complete word name is)) refl

-- ---- permissions

-- what is found passes the test
found_passes : {A : Type 0} (test : A → Bool) (xs : List A) (x : A) → find test xs ≡ Some x → test x ≡ true
found_passes test [] x is = absurd cc
found_passes {A} test (y ∷ ys) x is =
    elim (test y) as (λ b. test y ≡ b → cond b (Some y) (find test ys) ≡ Some x → test x ≡ true) [
      | true ↦ λ yes e. subst (λ (z : A). test z ≡ true) (some_inj y x e) yes
      | false ↦ λ no e. found_passes test ys x e
    ] refl is

system_named : (word : List ℕ) (p : SystemPermission) → system_by_name word ≡ Some p → word ≡ system_name p
system_named word p is = sym ((bytes_eq-Decides (system_name p) word).0 (found_passes (λ q. bytes_eq (system_name q) word) all_system p is))

table_named : (word : List ℕ) (p : TablePermission) → table_by_name word ≡ Some p → word ≡ table_name p
table_named word p is = sym ((bytes_eq-Decides (table_name p) word).0 (found_passes (λ q. bytes_eq (table_name q) word) all_table p is))

system_found : (p : SystemPermission) → system_by_name (system_name p) ≡ Some p
system_found system.Grant = refl
system_found p = refl

table_found : (p : TablePermission) → table_by_name (table_name p) ≡ Some p
table_found table.Read = refl
table_found p = refl

permission_sound : (words : Words) (p : Permission) → permission_of words ≡ Some p → IsPermission words p
unfolding system_permission table_permission
permission_sound [] p is = absurd cc
permission_sound (word ∷ []) p is =
    on_map (λ q. OfSystem q) (system_by_name word) p (IsPermission (word ∷ []) p) is (λ q named e.
    subst (λ (y : Permission). IsPermission (word ∷ []) y) e (ap (λ (w : List ℕ). w ∷ []) (system_named word q named)))
permission_sound (word ∷ t ∷ []) p is =
    on_then (λ q. option_map (λ table. OfTable q table) (name_of t)) (table_by_name word) p (IsPermission (word ∷ t ∷ []) p) is (λ q named f1.
    on_map (λ table. OfTable q table) (name_of t) p (IsPermission (word ∷ t ∷ []) p) f1 (λ table read e.
    subst (λ (y : Permission). IsPermission (word ∷ t ∷ []) y) e (t, ap (λ (w : List ℕ). w ∷ t ∷ []) (table_named word q named), names_read.sound t table read)))
permission_sound (word ∷ t ∷ more ∷ words) p is = absurd cc

permission_complete : (words : Words) (p : Permission) → IsPermission words p → permission_of words ≡ Some p
unfolding system_permission table_permission
permission_complete words (OfSystem p) is = ap (λ (ws : Words). permission_of ws) is ∙ ap (λ (o : Option SystemPermission). option_map (λ q. OfSystem q) o) (system_found p)
permission_complete words (OfTable p table) (t, e, name) =
    ap (λ (ws : Words). permission_of ws) e
    ∙ ap (λ (o : Option TablePermission). option_and_then (λ q. option_map (λ n. OfTable q n) (name_of t)) o) (table_found p)
    ∙ ap (λ (o : Option (List ℕ)). option_map (λ n. OfTable p n) o) (names_read.complete t table name)

-- ---- a user and a permission

pub on_grant : (words : Words) (grant : List ℕ × Permission) (P : Words → Type 0) → grant_of words ≡ Some grant
    → ((u : List ℕ) (rest : Words) → IsNameWord u grant.0 → IsPermission rest grant.1 → P (u ∷ rest)) → P words
unfolding grant_of
on_grant words grant P is then =
    on_field name_of words _ grant P is (λ u rest user e1 f1.
    on_bind (permission_of rest) _ grant (P (u ∷ rest)) f1 (λ p e2 f2.
    let e : ◌≡◌ {A = List ℕ × Permission} (user, p) grant = some_inj (user, p) grant f2 in
    then u rest (subst (λ (g : List ℕ × Permission). IsNameWord u g.0) e (names_read.sound u user e1)) (subst (λ (g : List ℕ × Permission). IsPermission rest g.1) e (permission_sound rest p e2))))

pub grant_complete : (u user : List ℕ) (words : Words) (p : Permission) → IsNameWord u user → IsPermission words p → grant_of (u ∷ words) ≡ Some (user, p)
unfolding grant_of
grant_complete u user words p name is =
    bind_some (field name_of (u ∷ words)) (user, words) _ _ (field_some name_of u words user (names_read.complete u user name))
    (bind_some (permission_of words) p _ _ (permission_complete words p is) refl)
