-- The parts that frames alone have are read exactly where they stand.
use Rattle.std.proofs.Common.{◌≡◌, ℕ, zero, suc, ◌+◌, ◌≤◌, ◌==◌, true, false, cond, List, [], ◌∷◌, ◌++◌, length, Option, Some, None, refl, ap, subst, ◌∙◌, arith, inl, inr}
use Rattle.std.specs.Prelude.{slice_get}
use Rattle.std.specs.Option.{option_map}
use Rattle.std.proofs.lemmas.List.{length-append}
use Rattle.tab_key.specs.declared.column.Column.{Column}
use Rattle.tab_key.specs.declared.column.Column.TheVariants.{Family, Qualified}
use Rattle.tab_policy.specs.Permissions.{system_place, table_place, all_system, all_table}
use Rattle.tab_policy.specs.declared.permission.Permission.{Permission}
use Rattle.tab_policy.specs.declared.permission.Permission.TheVariants.{OfSystem, OfTable}
use Rattle.tab_policy.specs.declared.permission.SystemPermission.{SystemPermission}
use Rattle.tab_policy.specs.declared.permission.SystemPermission.TheVariants as system
use Rattle.tab_policy.specs.declared.permission.TablePermission.{TablePermission}
use Rattle.tab_policy.specs.declared.permission.TablePermission.TheVariants as table
use Rattle.tab_history.specs.declared.event.Extent.{Extent}
use Rattle.tab_history.specs.declared.event.Extent.TheVariants.{Partial, Full}
use Rattle.tab_codec.specs.Parts.{IsByte, IsU32, IsField, IsNameField, IsCounted, IsBounds}
use Rattle.tab_codec.specs.Reading.{Reader, and_then, mapped, picked, given, nothing_at, u8_at, u32_at, field_at, name_at, tagged, bounds_at}
use Rattle.tab_codec.specs.Exactness.{Exact}
use Rattle.tab_codec.proofs.Exact.{some_inj, exact_as, Follows, exact_then, Becomes, exact_mapped, Picks, exact_picked, exact_nothing, exact_given, exact_u8, exact_u32}
use Rattle.tab_codec.proofs.PartLaw.{exact_field, exact_name, exact_counted, field_long, Tagged, exact_tagged, eq_is, Either, exact_either}
use Rattle.tab_codec.proofs.TagLaw.{begins, Given, Nothing, exact_bounds, bounds_long}
use Rattle.tab_wire.specs.FrameParts.{IsColumn, IsPermission, extent_byte, IsExtent}
use Rattle.tab_wire.specs.FrameReading.{column_by, column_at, system_permission, table_permission, permission_by, permission_at, extent_of, extent_at, columns_at, ranges_at}

-- ---- columns
abbrev ByColumn : List ℕ → ℕ → List ℕ → Column → Type 0
ByColumn family flag = Either flag 0 (Given (Family family)) (Either flag 1 (Becomes IsField (λ q. Qualified family q)) Nothing)

by_column : (family : List ℕ) (flag : ℕ) → Exact (column_by family flag) (ByColumn family flag)
by_column family flag =
    exact_either flag 0 (given (Family family)) (cond (flag == 1) (mapped (λ q. Qualified family q) field_at) nothing_at) (Given (Family family)) (Either flag 1 (Becomes IsField (λ q. Qualified family q)) Nothing) (exact_given (Family family))
    (exact_either flag 1 (mapped (λ q. Qualified family q) field_at) nothing_at (Becomes IsField (λ q. Qualified family q)) Nothing (exact_mapped (λ q. Qualified family q) field_at IsField exact_field) exact_nothing)

column_to : (bytes : List ℕ) (c : Column) → Follows IsField (λ family. Tagged (ByColumn family)) bytes c → IsColumn bytes c
unfolding Either
column_to bytes c f = elim f.next.next [
  | inl h ↦ subst (λ (p : Column). IsColumn bytes p) h.1.1 (f.front, f.parts ∙ ap (λ (z : List ℕ). f.front ++ z) (begins f.back f.next.back f.next.flag 0 f.next.parts h.0 ∙ ap (λ (z : List ℕ). 0 ∷ z) h.1.0), f.says)
  | inr h ↦ elim h.1 [
    | inl g ↦ subst (λ (p : Column). IsColumn bytes p) g.1.becomes (f.front, f.next.back, f.parts ∙ ap (λ (z : List ℕ). f.front ++ z) (begins f.back f.next.back f.next.flag 1 f.next.parts g.0), f.says, g.1.says)
    | inr g ↦ absurd g.1
  ]
]

column_back : (bytes : List ℕ) (c : Column) → IsColumn bytes c → Follows IsField (λ family. Tagged (ByColumn family)) bytes c
unfolding Either
column_back bytes (Family family) is = record { first = family; front = is.0; back = 0 ∷ []; parts = is.1; says = is.2; next = record { flag = 0; back = []; parts = refl; next = inl (refl, (refl, refl)) } }
column_back bytes (Qualified family q) is = record { first = family; front = is.0; back = 1 ∷ is.1; parts = is.2; says = is.3; next = record { flag = 1; back = is.1; parts = refl; next = inr (refl, inl (refl, record { first = q; says = is.4; becomes = refl })) } }

pub exact_column : Exact column_at IsColumn
unfolding column_at
exact_column = exact_as IsColumn (exact_then field_at IsField (λ family. tagged (column_by family)) (λ family. Tagged (ByColumn family)) exact_field (λ family. exact_tagged (column_by family) (ByColumn family) (by_column family))) column_to column_back

-- ---- permissions
system_at : (n : ℕ) (p : SystemPermission) → slice_get all_system n ≡ Some p → n ≡ system_place p
system_at zero p is = ap system_place (some_inj system.Grant p is)
system_at (suc zero) p is = ap system_place (some_inj system.CreateTable p is)
system_at (suc (suc zero)) p is = ap system_place (some_inj system.DropTable p is)
system_at (suc (suc (suc zero))) p is = ap system_place (some_inj system.AlterTable p is)
system_at (suc (suc (suc (suc zero)))) p is = ap system_place (some_inj system.CreateUser p is)
system_at (suc (suc (suc (suc (suc zero))))) p is = ap system_place (some_inj system.DropUser p is)
system_at (suc (suc (suc (suc (suc (suc zero)))))) p is = ap system_place (some_inj system.AlterUser p is)
system_at (suc (suc (suc (suc (suc (suc (suc zero))))))) p is = ap system_place (some_inj system.System p is)
system_at (suc (suc (suc (suc (suc (suc (suc (suc n)))))))) p is = absurd cc

system_again : (p : SystemPermission) → slice_get all_system (system_place p) ≡ Some p
system_again system.Grant = refl
system_again p = refl

table_at : (n : ℕ) (p : TablePermission) → slice_get all_table n ≡ Some p → n ≡ table_place p
table_at zero p is = ap table_place (some_inj table.Read p is)
table_at (suc zero) p is = ap table_place (some_inj table.Write p is)
table_at (suc (suc zero)) p is = ap table_place (some_inj table.AlterTable p is)
table_at (suc (suc (suc zero))) p is = ap table_place (some_inj table.Grant p is)
table_at (suc (suc (suc (suc zero)))) p is = ap table_place (some_inj table.DropTable p is)
table_at (suc (suc (suc (suc (suc n))))) p is = absurd cc

table_again : (p : TablePermission) → slice_get all_table (table_place p) ≡ Some p
table_again table.Read = refl
table_again p = refl

on_map : {A B : Type 0} (f : A → B) (r : Option A) (y : B) (P : Type 0) → option_map f r ≡ Some y → ((x : A) → r ≡ Some x → f x ≡ y → P) → P
on_map f None y P is then = absurd cc
on_map f (Some x) y P is then = then x refl (some_inj (f x) y is)

abbrev BySystem : List ℕ → Permission → Type 0
BySystem = Picks IsByte system_permission

abbrev ByTable : List ℕ → Permission → Type 0
ByTable = Follows IsByte (λ place. Picks IsNameField (table_permission place))

abbrev ByPermission : ℕ → List ℕ → Permission → Type 0
ByPermission flag = Either flag 0 BySystem (Either flag 1 ByTable Nothing)

abbrev table_reader : Reader Permission
table_reader = and_then u8_at (λ place. picked (table_permission place) name_at)

by_permission : (flag : ℕ) → Exact (permission_by flag) (ByPermission flag)
by_permission flag =
    exact_either flag 0 (picked system_permission u8_at) (cond (flag == 1) table_reader nothing_at) BySystem (Either flag 1 ByTable Nothing) (exact_picked system_permission u8_at IsByte exact_u8)
    (exact_either flag 1 table_reader nothing_at ByTable Nothing
    (exact_then u8_at IsByte (λ place. picked (table_permission place) name_at) (λ place. Picks IsNameField (table_permission place)) exact_u8 (λ place. exact_picked (table_permission place) name_at IsNameField exact_name))
    exact_nothing)

permission_to : (bytes : List ℕ) (p : Permission) → Tagged ByPermission bytes p → IsPermission bytes p
unfolding Either
permission_to bytes p t = elim t.next [
  | inl h ↦ on_map (λ q. OfSystem q) (slice_get all_system h.1.first) p (IsPermission bytes p) h.1.picks (λ q at_place e.
      subst (λ (x : Permission). IsPermission bytes x) e (begins bytes t.back t.flag 0 t.parts h.0 ∙ ap (λ (z : List ℕ). 0 ∷ z) (h.1.says ∙ ap (λ (n : ℕ). n ∷ []) (system_at h.1.first q at_place))))
  | inr h ↦ elim h.1 [
    | inl g ↦ on_map (λ q. OfTable q g.1.next.first) (slice_get all_table g.1.first) p (IsPermission bytes p) g.1.next.picks (λ q at_place e.
        subst (λ (x : Permission). IsPermission bytes x) e (g.1.back, begins bytes t.back t.flag 1 t.parts g.0 ∙ ap (λ (z : List ℕ). 1 ∷ z) (g.1.parts ∙ ap (λ (z : List ℕ). z ++ g.1.back) (g.1.says ∙ ap (λ (n : ℕ). n ∷ []) (table_at g.1.first q at_place))), g.1.next.says))
    | inr g ↦ absurd g.1
  ]
]

permission_back : (bytes : List ℕ) (p : Permission) → IsPermission bytes p → Tagged ByPermission bytes p
unfolding Either
permission_back bytes (OfSystem q) is = record { flag = 0; back = system_place q ∷ []; parts = is; next = inl (refl, record { first = system_place q; says = refl; picks = ap (λ o. option_map (λ x. OfSystem x) o) (system_again q) }) }
permission_back bytes (OfTable q t) is = record {
  flag = 1;
  back = table_place q ∷ is.0;
  parts = is.1;
  next = inr (
    refl,
    inl (
      refl,
      record {
        first = table_place q;
        front = table_place q ∷ [];
        back = is.0;
        parts = refl;
        says = refl;
        next = record { first = t; says = is.2; picks = ap (λ o. option_map (λ x. OfTable x t) o) (table_again q) };
      },
    ),
  );
}

pub exact_permission : Exact permission_at IsPermission
unfolding permission_at
exact_permission = exact_as IsPermission (exact_tagged permission_by ByPermission by_permission) permission_to permission_back

-- ---- extents
extent_picks : (n : ℕ) (e : Extent) → extent_of n ≡ Some e → n ≡ extent_byte e
extent_picks n x is = elim (n == 0) as (λ b. (n == 0) ≡ b → cond b (Some Partial) (cond (n == 1) (Some Full) None) ≡ Some x → n ≡ extent_byte x) [
  | true ↦ λ z e. eq_is n 0 z ∙ ap extent_byte (some_inj Partial x e)
  | false ↦ λ z e. elim (n == 1) as (λ b. (n == 1) ≡ b → cond b (Some Full) None ≡ Some x → n ≡ extent_byte x) [
    | true ↦ λ o e2. eq_is n 1 o ∙ ap extent_byte (some_inj Full x e2)
    | false ↦ λ o e2. absurd cc
  ] refl e
] refl is

extent_again : (e : Extent) → extent_of (extent_byte e) ≡ Some e
extent_again Partial = refl
extent_again Full = refl

pub exact_extent : Exact extent_at IsExtent
unfolding extent_at
exact_extent = exact_as IsExtent (exact_picked extent_of u8_at IsByte exact_u8)
    (λ bytes e p. p.says ∙ ap (λ (n : ℕ). n ∷ []) (extent_picks p.first e p.picks))
    (λ bytes e is. record { first = extent_byte e; says = is; picks = extent_again e })

-- ---- how long a part is at least
pub column_long : (bytes : List ℕ) (c : Column) → IsColumn bytes c → 5 ≤ length bytes
column_long bytes (Family family) is =
    let len : length bytes ≡ length is.0 + 1 = ap (λ (z : List ℕ). length z) is.1 ∙ length-append is.0 (0 ∷ []) in
    omega (arith, len, field_long is.0 family is.2)
column_long bytes (Qualified family q) is =
    let len : length bytes ≡ length is.0 + suc (length is.1) = ap (λ (z : List ℕ). length z) is.2 ∙ length-append is.0 (1 ∷ is.1) in
    omega (arith, len, field_long is.0 family is.3)

-- ---- counts of parts
pub exact_columns : Exact columns_at (IsCounted IsU32 IsColumn)
unfolding columns_at
exact_columns = exact_counted u32_at IsU32 5 column_at IsColumn exact_u32 exact_column column_long

pub exact_ranges : Exact ranges_at (IsCounted IsU32 IsBounds)
unfolding ranges_at
exact_ranges = exact_counted u32_at IsU32 2 bounds_at IsBounds exact_u32 exact_bounds bounds_long
