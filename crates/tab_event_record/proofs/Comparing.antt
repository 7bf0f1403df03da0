-- What `==` says of refusals and of rights: it is true of two that are one, and of no others.
use Rattle.std.proofs.Common.{rules, ◌≡◌, ℕ, List, true, refl, sym, subst, bytes_eq}
use Rattle.std.proofs.lemmas.Bool.Decides.{Decides-and, Decides-like}
use Rattle.std.specs.Bool.{Decides}
use Rattle.std.specs.Cmp.{booleans_Decides}
use Rattle.std.specs.Cmp.Rules.{comparing}
use Rattle.std.specs.Cmp.Lexicographic.{pointwise}
use mathlib.Core.Bool.{true≢false}
use Rattle.tab_key.proofs.Each.{lists_equal}
use Rattle.tab_rules.specs.declared.violation.Violation.{Violation}
use Rattle.tab_rules.specs.contracts.violation.ViolationPartialEq.TheImpl.{eq-value as violation_eq}
use Rattle.tab_history.specs.declared.reply.Refusal.{Refusal}
use Rattle.tab_history.specs.declared.reply.Refusal.TheVariants.{UnknownUser, NoTable, PermissionDenied, BadAuthorizations, MalformedVisibility, ConstraintViolation, TimestampNotAllowed, EmptyMutation, TooLarge, TableExists, UserExists, NoUser, BadRange, Stale, NoSession, NoJob, NoMemory, RootFixed, GrantInvalid, BelowHorizon, VersionsRaised, HorizonLowered, ServerTime, BadSplit}
use Rattle.tab_history.specs.contracts.reply.RefusalPartialEq.TheImpl.{eq-value as refusal_eq}
use Rattle.tab_policy.specs.declared.sets.SystemPermissions.{SystemPermissions}
use Rattle.tab_policy.specs.contracts.sets.SystemPermissionsPartialEq.TheImpl.{eq-value as system_eq}
use Rattle.tab_policy.specs.declared.sets.TablePermissions.{TablePermissions}
use Rattle.tab_policy.specs.contracts.sets.TablePermissionsPartialEq.TheImpl.{eq-value as table_eq}
use Rattle.tab_history.specs.declared.rights.Rights.{Rights}
use Rattle.tab_history.specs.contracts.rights.RightsPartialEq.TheImpl.{eq-value as rights_eq}

violations : (xs ys : List Violation) → Decides (pointwise violation_eq.it xs ys) (xs ≡ ys)
violations = lists_equal (λ a b. search (comparing, rules))

-- a row for each pair of one variant, so that no search goes over all pairs
one_refusal : (a b : Refusal) → refusal_eq.it a b ≡ true → a ≡ b
one_refusal (UnknownUser x) (UnknownUser y) e = search rules
one_refusal (NoTable x) (NoTable y) e = search rules
one_refusal (PermissionDenied x) (PermissionDenied y) e = search rules
one_refusal (BadAuthorizations x) (BadAuthorizations y) e = search rules
one_refusal (MalformedVisibility m x) (MalformedVisibility n y) e = search rules
one_refusal (ConstraintViolation x) (ConstraintViolation y) e = search (violations, rules)
one_refusal (TimestampNotAllowed x) (TimestampNotAllowed y) e = search rules
one_refusal EmptyMutation EmptyMutation e = refl
one_refusal (TooLarge x) (TooLarge y) e = search rules
one_refusal (TableExists x) (TableExists y) e = search rules
one_refusal (UserExists x) (UserExists y) e = search rules
one_refusal (NoUser x) (NoUser y) e = search rules
one_refusal BadRange BadRange e = refl
one_refusal (Stale x) (Stale y) e = search rules
one_refusal (NoSession x) (NoSession y) e = search rules
one_refusal (NoJob x) (NoJob y) e = search rules
one_refusal NoMemory NoMemory e = refl
one_refusal RootFixed RootFixed e = refl
one_refusal GrantInvalid GrantInvalid e = refl
one_refusal (BelowHorizon x) (BelowHorizon y) e = search rules
one_refusal (VersionsRaised x) (VersionsRaised y) e = search rules
one_refusal (HorizonLowered x) (HorizonLowered y) e = search rules
one_refusal ServerTime ServerTime e = refl
one_refusal (BadSplit x) (BadSplit y) e = search rules
one_refusal a b e = absurd (true≢false (sym e))

itself : (a : Refusal) → refusal_eq.it a a ≡ true
itself a = search (violations, rules) depth 12 fits 5000

pub refusals : (a b : Refusal) → Decides (refusal_eq.it a b) (a ≡ b)
refusals a b = (one_refusal a b, λ same. subst (λ (r : Refusal). refusal_eq.it a r ≡ true) same (itself a))

-- ---- field by field
systems : (a b : SystemPermissions) → Decides (system_eq.it a b) (a ≡ b)
systems a b = Decides-like (system_eq.it a b)
    (λ p i. record { grant = p.0 i; create_table = p.1.0 i; drop_table = p.1.1.0 i; alter_table = p.1.1.1.0 i; create_user = p.1.1.1.1.0 i; drop_user = p.1.1.1.1.1.0 i; alter_user = p.1.1.1.1.1.1.0 i; system = p.1.1.1.1.1.1.1 i })
    (λ same. (λ i. (same i).grant, (λ i. (same i).create_table, (λ i. (same i).drop_table, (λ i. (same i).alter_table, (λ i. (same i).create_user, (λ i. (same i).drop_user, (λ i. (same i).alter_user, λ i. (same i).system))))))))
    (Decides-and _ _ (booleans_Decides a.grant b.grant) (Decides-and _ _ (booleans_Decides a.create_table b.create_table) (Decides-and _ _ (booleans_Decides a.drop_table b.drop_table) (Decides-and _ _ (booleans_Decides a.alter_table b.alter_table) (Decides-and _ _ (booleans_Decides a.create_user b.create_user) (Decides-and _ _ (booleans_Decides a.drop_user b.drop_user) (Decides-and _ _ (booleans_Decides a.alter_user b.alter_user) (booleans_Decides a.system b.system))))))))

tables : (a b : TablePermissions) → Decides (table_eq.it a b) (a ≡ b)
tables a b = Decides-like (table_eq.it a b)
    (λ p i. record { read = p.0 i; write = p.1.0 i; alter_table = p.1.1.0 i; grant = p.1.1.1.0 i; drop_table = p.1.1.1.1 i })
    (λ same. (λ i. (same i).read, (λ i. (same i).write, (λ i. (same i).alter_table, (λ i. (same i).grant, λ i. (same i).drop_table)))))
    (Decides-and _ _ (booleans_Decides a.read b.read) (Decides-and _ _ (booleans_Decides a.write b.write) (Decides-and _ _ (booleans_Decides a.alter_table b.alter_table) (Decides-and _ _ (booleans_Decides a.grant b.grant) (booleans_Decides a.drop_table b.drop_table)))))

auths : (xs ys : List (List ℕ)) → Decides (pointwise bytes_eq xs ys) (xs ≡ ys)
auths = lists_equal (λ a b. search rules)

pub rights : (a b : Rights) → Decides (rights_eq.it a b) (a ≡ b)
rights a b = Decides-like (rights_eq.it a b)
    (λ p i. record { system = p.0 i; table = p.1.0 i; authorizations = p.1.1 i })
    (λ same. (λ i. (same i).system, (λ i. (same i).table, λ i. (same i).authorizations)))
    (Decides-and _ _ (systems a.system b.system) (Decides-and _ _ (tables a.table b.table) (auths a.authorizations b.authorizations)))
